-- Groups that stand at the front of the work list go over to the list of the groups.
use mathlib.Core.Path.{◌≡◌, ap, ◌∙◌}
use mathlib.Core.List.{List, [], ◌++◌, append-nil}
use Prim.Native.Nat.{ℕ, zero, suc, ◌+◌, ◌-◌, ◌≤◌}
use native.Mathlib.Omega.{arith}
use lib.ListN.{length, take, drop, replicate, length-drop, length-take, replicate-append-replicate, drop_of_length-le}
use lib.Seq.{take_at, take_all, drop_at}
use borrow.Rule.Slice.PartMut.{put_mid}
use Rattle.definitions.specs.Lists.{padded, between}
use Rattle.definitions.specs.Refusal.{Outcome, done, result_left}
use Rattle.definitions.specs.Groups.{Grouping, grouping_left}
use Rattle.numbers.specs.Copied.{copied}

pub drop_replicate : {A : Type 0} (z : A) (k n : ℕ) → drop k (replicate n z) ≡ replicate (n - k) z
drop_replicate z zero n = let e : n - 0 ≡ n = omega arith in rw e
drop_replicate z (suc k) zero = let e : 0 - suc k ≡ 0 = omega arith in rw e
drop_replicate z (suc k) (suc n) = let e : suc n - suc k ≡ n - k = omega arith in rw e (drop_replicate z k n)

pub taken_back : {A : Type 0} (z : A) (xs : List A) (k n : ℕ) → length xs ≡ k → take k (padded z n xs) ≡ xs
unfolding padded
taken_back z xs k n h = take_at xs (replicate (n - length xs) z) k h

-- the tail of a list that was lent has come back
pub put_tail : {A : Type 0} (a : ℕ) (s y : List A) → put_mid a (length s - a) s y ≡ take a s ++ y
put_tail {A} a s y =
    let e : drop (length s - a) (drop a s) ≡ [] = drop_of_length-le (drop a s) {i = length s - a} (rw (length-drop a s) (omega arith)) in
    rw e (ap (λ l. take a s ++ l) (append-nil y))

pub tail_length : {A : Type 0} (a : ℕ) (s : List A) → length (take (length s - a) (drop a s)) ≡ length s - a
tail_length a s = length-take (length s - a) (drop a s) ∙ rw (length-drop a s) (omega arith)

-- what stands at the front of a list, with zeros behind it, is cleared
pub start_cleared : {A : Type 0} (z : A) (n k : ℕ) (s xs zeros : List A) → s ≡ padded z n xs → length xs ≡ k → k ≤ n → zeros ≡ replicate (length (take k s)) z → put_mid 0 k s zeros ≡ replicate n z
unfolding padded
start_cleared z n k s xs zeros e l h ez =
    let f : length (take k s) ≡ k = rw e (ap length (taken_back z xs k n l) ∙ l) in
    let b : drop k s ≡ replicate (n - k) z = ap (λ t. drop k t) e ∙ drop_at xs (replicate (n - length xs) z) k l ∙ ap (λ m. replicate (n - m) z) l in
    let c : zeros ≡ replicate k z = ez ∙ ap (λ m. replicate m z) f in
    rw (b, c) (replicate-append-replicate k (n - k) z ∙ ap (λ m. replicate m z) (whole k n h))
  where
    whole : (x y : ℕ) → x ≤ y → x + (y - x) ≡ y
    whole x y m = omega arith

pub front_cleared : {A : Type 0} (z : A) (n k : ℕ) (s xs zeros : List A) → s ≡ padded z n xs → length xs ≡ k → k ≤ n → zeros ≡ replicate (length (between 0 k s)) z → put_mid 0 (k - 0) s zeros ≡ replicate n z
front_cleared z n k s xs zeros e l h ez = let q : k - 0 ≡ k = omega arith in rw q (start_cleared z n k s xs zeros e l h (rw q at ez))

-- the groups of an accepted call stand at the front of the work list, with zeros behind them
module _ (call : Outcome Grouping) (work work1 : List ℕ) (ew : work1 ≡ grouping_left call work) (g : Grouping) (eg : call ≡ done g) (nodes : ℕ) (l : length g.ids ≡ nodes) where
  stands : work1 ≡ padded 0 (length work) g.ids
  unfolding grouping_left result_left
  stands = ew ∙ rw eg

  front : take nodes work1 ≡ g.ids
  front = rw stands (taken_back 0 g.ids nodes (length work) l)

  -- copied to the list of the groups, and zeros put behind them
  pub handed : (lent ids1 zeros : List ℕ) → nodes ≤ length lent → ids1 ≡ copied (take nodes work1) lent → length ids1 ≡ length lent → zeros ≡ replicate (length (between nodes (length ids1) ids1)) 0
      → put_mid nodes (length ids1 - nodes) ids1 zeros ≡ padded 0 (length lent) g.ids
  unfolding copied padded
  handed lent ids1 zeros h e k ez =
      let c : take nodes ids1 ≡ g.ids = ap (λ s. take nodes s) (e ∙ ap (λ s. copied s lent) front) ∙ rw (take_all (length lent) g.ids (omega arith)) (take_at g.ids (drop (length g.ids) lent) nodes l) in
      let m : length ids1 - nodes ≡ length lent - length g.ids = omega arith in
      put_tail nodes ids1 zeros ∙ ap (λ s. s ++ zeros) c ∙ ap (λ s. g.ids ++ s) (ez ∙ ap (λ n. replicate n 0) (tail_length nodes ids1 ∙ m))

  -- cleared
  pub cleared : nodes ≤ length work → (zeros : List ℕ) → zeros ≡ replicate (length (take nodes work1)) 0 → put_mid 0 nodes work1 zeros ≡ replicate (length work) 0
  cleared h zeros ez = start_cleared 0 (length work) nodes work1 g.ids zeros stands l h ez
