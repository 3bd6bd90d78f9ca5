-- Contiguous groups, one node after the other.
use mathlib.Core.Path.{◌≡◌}
use mathlib.Core.List.{List, ◌++◌}
use Prim.Native.Nat.{ℕ, zero, suc, ◌+◌, ◌-◌, ◌*◌, ◌/◌, ◌%◌, ◌<◌, min}
use native.Mathlib.Omega.{arith}
use native.Mathlib.Nat.{div-add-mod', mod-lt}
use lib.ListN.{replicate}
use Rattle.std.proofs.lemmas.Nat.{div-mul-add}
use Rattle.definitions.specs.Lists.{tab, padded}
use Rattle.laws.proofs.Lists.{length_tab}

-- the quotient rounded up
pub rounded_up : (n s : ℕ) → 0 < s → n / s + min 1 (n % s) ≡ (n + (s - 1)) / s
rounded_up n s h = go (n % s) (div-add-mod' n s) (mod-lt n h)
  where
    go : (r : ℕ) → n / s * s + r ≡ n → r < s → n / s + min 1 r ≡ (n + (s - 1)) / s
    go zero e l = let k : n + (s - 1) ≡ n / s * s + (s - 1) = omega arith in rw (k, div-mul-add (n / s) s (s - 1) (omega arith)) (omega arith)
    go (suc r) e l = let k : n + (s - 1) ≡ (n / s + 1) * s + r = omega arith in rw (k, div-mul-add (n / s + 1) s r (omega arith)) (omega arith)

-- zeros behind the groups
pub zeros_behind : {A : Type 0} (f : ℕ → A) (z : A) (n v : ℕ) (xs ys : List A) → xs ≡ tab f v → ys ≡ replicate (n - v) z → xs ++ ys ≡ padded z n (tab f v)
unfolding padded
zeros_behind f z n v xs ys e g = rw (e, g, length_tab f v)
