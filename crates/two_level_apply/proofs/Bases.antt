-- Restriction and prolongation by the cases of the basis.
use Prim.Native.Nat.{ℕ}
use mathlib.Core.Path.{◌≡◌, ◌∙◌}
use mathlib.Core.List.{List}
use lib.ListN.{length, get_or}
use lib.Ieee.{Float, nan}
use Rattle.definitions.specs.Lists.{tab}
use Rattle.definitions.specs.Numbers.{◌+ᶠ◌, total, summed}
use Rattle.definitions.specs.Matrix.{Entry}
use Rattle.definitions.specs.Transfer.{coarse_column}
use Rattle.definitions.specs.Places.{ids_in}
use Rattle.definitions.specs.Apply.{constant_restriction_terms, smoothed_restriction_terms, prolongation_terms, restriction_terms, restricted, gained, transfer_in}
use Rattle.two_level_apply.specs.Scatter.{prolonged}
use Rattle.definitions.specs.declared.Setup.{Setup}
use Rattle.definitions.specs.declared.TwoLevelBasis.TheVariants.{PiecewiseConstant, JacobiSmoothed}

module _ (s : Setup) (ints : List ℕ) (floats : List Float) where
  pub restricted_groups : (ids : List ℕ) (r l : List Float) (n : ℕ) → s.basis ≡ PiecewiseConstant → ids ≡ ids_in s ints → n ≡ s.coarse
      → l ≡ tab (λ j. total (constant_restriction_terms (coarse_column s.block ids) r j)) n → l ≡ restricted s ints floats r
  unfolding restricted restriction_terms
  restricted_groups ids r l n b q h e = e ∙ rw (b, q, h)

  pub restricted_weights : (row : ℕ → List Entry) (r l : List Float) (n : ℕ) → s.basis ≡ JacobiSmoothed → row ≡ transfer_in s ints floats → n ≡ s.coarse
      → l ≡ tab (λ j. total (smoothed_restriction_terms row r j)) n → l ≡ restricted s ints floats r
  unfolding restricted restriction_terms
  restricted_weights row r l n b q h e = e ∙ rw (b, q, h)

  pub prolonged_groups : (ids : List ℕ) (sol z l : List Float) → s.basis ≡ PiecewiseConstant → ids ≡ ids_in s ints → length z ≡ s.rows
      → l ≡ tab (λ i. get_or z i nan +ᶠ get_or sol (coarse_column s.block ids i) nan) (length z) → l ≡ prolonged s ints floats sol z
  unfolding gained
  prolonged_groups ids sol z l b q h e = e ∙ rw (b, q, h)

  pub prolonged_weights : (row : ℕ → List Entry) (sol z l : List Float) → s.basis ≡ JacobiSmoothed → row ≡ transfer_in s ints floats → length z ≡ s.rows
      → l ≡ tab (λ i. get_or z i nan +ᶠ summed (prolongation_terms (row i) sol)) (length z) → l ≡ prolonged s ints floats sol z
  unfolding gained
  prolonged_weights row sol z l b q h e = e ∙ rw (b, q, h)
