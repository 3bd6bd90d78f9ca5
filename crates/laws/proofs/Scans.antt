-- What a test over a whole list says of its elements.
use mathlib.Core.Path.{◌≡◌, refl}
use mathlib.Core.Bool.{Bool, false, not, ◌&&◌, ◌||◌}
use mathlib.Core.List.{List, [], ◌∷◌}
use Prim.Native.Nat.{ℕ, zero, suc, ◌+◌, ◌<◌, ◌≤◌}
use native.Mathlib.Decide.{dec_le}
use native.Mathlib.Omega.{arith}
use lib.Dec.{leb, ltb}
use lib.ListN.{length, get_or}
use borrow.Author.Tests.{le-leb, lt-leb, lt-ltb, le-ltb, ltb-false, leb-false}
use Rattle.definitions.specs.Lists.{any, all, falls}
use Rattle.laws.specs.Bounds.{Below}
use Rattle.laws.specs.Every.{Each, none, more}
use Rattle.laws.proofs.Tests.{both_false}

-- no element passes
pub none_any : {A : Type 0} (p : A → Bool) (d : A) (xs : List A) → any p xs ≡ false → (k : ℕ) → k < length xs → p (get_or xs k d) ≡ false
unfolding any
none_any p d [] e k h = absurd (omega arith)
none_any p d (x ∷ xs) e zero h = (both_false (p x) (any p xs) e).0
none_any p d (x ∷ xs) e (suc k) h = none_any p d xs (both_false (p x) (any p xs) e).1 k (omega arith)

-- none reaches n: each is below it
pub all_below_lem : (n : ℕ) (xs : List ℕ) → any (λ x. leb n x) xs ≡ false → Below n xs
all_below_lem n xs e k h = leb-false n (get_or xs k 0) (none_any (λ x. leb n x) 0 xs e k h)

pub below_none : (n : ℕ) {xs : List ℕ} → Each (λ x. x < n) xs → any (λ x. leb n x) xs ≡ false
unfolding any
below_none n none = refl
below_none n (more {x = x} h k) = rw (lt-leb n x h) (below_none n k)

pub below_all : (n : ℕ) (xs : List ℕ) → not (any (λ x. leb n x) xs) ≡ all (λ x. ltb x n) xs
unfolding all any
below_all n [] = refl
below_all n (x ∷ xs) = step (dec_le n x) (below_all n xs)
  where
    step : Dec (n ≤ x) → not (any (λ y. leb n y) xs) ≡ all (λ y. ltb y n) xs → not (leb n x || any (λ y. leb n y) xs) ≡ (ltb x n && all (λ y. ltb y n) xs)
    step (yes h) e = rw (le-leb n x h, le-ltb x n h)
    step (no h) e = let q : x < n = omega arith in rw (lt-leb n x q, lt-ltb x n q, e)

-- a list that does not fall rises at each step, and over many
pub no_falls : (p : List ℕ) → falls p ≡ false → (i : ℕ) → suc i < length p → get_or p i 0 ≤ get_or p (suc i) 0
unfolding falls
no_falls [] e i h = absurd (omega arith)
no_falls (x ∷ []) e i h = absurd (omega arith)
no_falls (x ∷ (y ∷ p)) e zero h = ltb-false y x (both_false (ltb y x) (falls (y ∷ p)) e).0
no_falls (x ∷ (y ∷ p)) e (suc i) h = no_falls (y ∷ p) (both_false (ltb y x) (falls (y ∷ p)) e).1 i (omega arith)

pub no_falls_to : (p : List ℕ) → falls p ≡ false → (d i : ℕ) → i + d < length p → get_or p i 0 ≤ get_or p (i + d) 0
no_falls_to p e zero i h = let q : i + 0 ≡ i = omega arith in rw q (omega arith)
no_falls_to p e (suc d) i h =
    let q : i + suc d ≡ suc (i + d) = omega arith in
    rw q (omega (arith, no_falls_to p e d i (omega arith), no_falls p e (i + d) (omega arith)))
