-- The numbers that are not zero, counted one after the other.
use Prim.Native.Nat.{ℕ, ◌+◌, ◌<◌, ◌≤◌}
use mathlib.Core.Path.{◌≡◌}
use mathlib.Core.Bool.{true, false}
use mathlib.Core.List.{List, [], ◌∷◌, ◌++◌}
use native.Mathlib.Numerals.{add-one}
use native.Mathlib.Omega.{arith}
use lib.ListN.{length, get_or, take, length-append}
use lib.Seq.{take-suc}
use lib.Ieee.{Float, nan, ne}
use Rattle.definitions.specs.Numbers.{zeroᶠ, nonzeros}
use Rattle.laws.proofs.Kept.{keep_nil, keep_yes, keep_no, keep_append, keep_length}

pub nonzeros_few : (m : List Float) → nonzeros m ≤ length m
unfolding nonzeros
nonzeros_few m = keep_length (λ x. ne x zeroᶠ) m

pub nonzeros_none : (m : List Float) → 0 ≡ nonzeros (take 0 m)
unfolding nonzeros
nonzeros_none m = rw (keep_nil (λ x. ne x zeroᶠ))

module _ (m : List Float) (k : ℕ) {n : ℕ} (h : k < length m) (e : n ≡ nonzeros (take k m)) where
  next : take (k + 1) m ≡ take k m ++ (get_or m k nan ∷ [])
  next = rw (add-one, take-suc m k nan h)

  pub nonzeros_more : ne (get_or m k nan) zeroᶠ ≡ true → n + 1 ≡ nonzeros (take (k + 1) m)
  unfolding nonzeros
  nonzeros_more t =
      rw (e, next, keep_append (λ x. ne x zeroᶠ) (take k m) (get_or m k nan ∷ []), length-append, keep_yes (λ x. ne x zeroᶠ) (get_or m k nan) [] t, keep_nil (λ x. ne x zeroᶠ))

  pub nonzeros_same : ne (get_or m k nan) zeroᶠ ≡ false → n ≡ nonzeros (take (k + 1) m)
  unfolding nonzeros
  nonzeros_same t =
      rw (e, next, keep_append (λ x. ne x zeroᶠ) (take k m) (get_or m k nan ∷ []), length-append, keep_no (λ x. ne x zeroᶠ) (get_or m k nan) [] t, keep_nil (λ x. ne x zeroᶠ)) (omega arith)
