-- The end of a list, lent and come back.
use mathlib.Core.Path.{◌≡◌, ap, ◌∙◌}
use mathlib.Core.List.{List, ◌++◌, append-nil}
use Prim.Native.Nat.{ℕ, ◌-◌, ◌≤◌}
use native.Mathlib.Omega.{arith}
use borrow.Rule.Slice.PartMut.{put_mid, post_of, Post-is}
use lib.ListN.{length, take, drop, replicate, length-drop}
use lib.Seq.{take_all, drop-length}

pub put_rest : {A : Type 0} (f : ℕ) (a y : List A) → f ≤ length a → put_mid f (length a - f) a y ≡ take f a ++ y
put_rest f a y h = ap (λ l. take f a ++ (y ++ l)) (Post-is f (length a) a h ∙ drop-length a) ∙ ap (λ l. take f a ++ l) (append-nil y)

-- filled with one value
pub rest_filled : {A : Type 0} (f : ℕ) (a y : List A) (z : A) → f ≤ length a → y ≡ replicate (length (take (length a - f) (drop f a))) z → y ++ post_of f (length a - f) a ≡ replicate (length a - f) z
rest_filled f a y z h e =
    let n : length (take (length a - f) (drop f a)) ≡ length a - f = ap length (take_all (length a - f) (drop f a) (omega (arith, length-drop f a))) ∙ length-drop f a in
    ap (λ l. y ++ l) (Post-is f (length a) a h ∙ drop-length a) ∙ append-nil y ∙ e ∙ ap (λ m. replicate m z) n
