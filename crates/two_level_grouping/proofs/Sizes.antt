-- The checks of the shape, one law for a check that passes and one for a check that fails: `search sizes` goes through them in their order.
use Rattle.std.specs.Prelude.{Err, Ok, Result}
use mathlib.Core.Path.{◌≡◌, refl}
use mathlib.Core.Bool.{Bool, true, ◌&&◌}
use Prim.Native.Nat.{ℕ, zero, suc, ◌<◌, ◌≤◌}
use native.Mathlib.Omega.{arith}
use lib.Dec.{leb, eqb}
use borrow.Author.Tests.{le-leb, lt-leb, eq-eqb, ne_eqb}
use Rattle.definitions.specs.Refusal.{Checked, require, ◌>>=◌}
use Rattle.definitions.specs.Answers.{answer_of}
use Rattle.definitions.specs.declared.Refusal.{Refusal}

within : (n m : ℕ) → (n ≡ 0 → ⊥) → n ≤ m → (leb 1 n && leb n m) ≡ true
within zero m h l = absurd (h refl)
within (suc n) m h l = rw (le-leb 1 (suc n) (omega arith), le-leb (suc n) m l)

module _ (r : Refusal) (next : Unit {0} → Checked) where
  pub passes_same : (x : (Result (Unit {0}) Refusal)) (m n : ℕ) → m ≡ n → x ≡ answer_of (next tt) → x ≡ answer_of (require (eqb m n) r >>= next)
  unfolding require ◌>>=◌
  passes_same x m n e k = rw (eq-eqb m n e) k

  pub passes_size : (x : (Result (Unit {0}) Refusal)) (n m : ℕ) → (n ≡ 0 → ⊥) → n ≤ m → x ≡ answer_of (next tt) → x ≡ answer_of (require (leb 1 n && leb n m) r >>= next)
  unfolding require ◌>>=◌
  passes_size x n m h l k = rw (within n m h l) k

  pub fails_other : (m n : ℕ) → (m ≡ n → ⊥) → Err r ≡ answer_of (require (eqb m n) r >>= next)
  unfolding require ◌>>=◌ answer_of
  fails_other m n h = rw (ne_eqb m n h)

  pub fails_zero : (n : ℕ) (b : Bool) → n ≡ 0 → Err r ≡ answer_of (require (leb 1 n && b) r >>= next)
  unfolding require ◌>>=◌ answer_of
  fails_zero n b e = rw e

  pub fails_most : (n m : ℕ) → (n ≡ 0 → ⊥) → m < n → Err r ≡ answer_of (require (leb 1 n && leb n m) r >>= next)
  unfolding require ◌>>=◌ answer_of
  fails_most zero m h l = absurd (h refl)
  fails_most (suc n) m h l = rw (le-leb 1 (suc n) (omega arith), lt-leb (suc n) m l)

module _ (r : Refusal) where
  pub ends_same : (m n : ℕ) → m ≡ n → (Ok tt) ≡ answer_of (require (eqb m n) r)
  unfolding require answer_of
  ends_same m n e = rw (eq-eqb m n e)

  pub ends_other : (m n : ℕ) → (m ≡ n → ⊥) → Err r ≡ answer_of (require (eqb m n) r)
  unfolding require answer_of
  ends_other m n h = rw (ne_eqb m n h)

pub ruleset sizes = (passes_same, passes_size, fails_other, fails_zero, fails_most, ends_same, ends_other)
