-- The solve by policy: with the packed factor or with the inverse, and zeros after the solution.
use Prim.Native.Nat.{ℕ, ◌-◌, ◌*◌, ◌≤◌}
use mathlib.Core.Path.{◌≡◌, ◌∙◌}
use mathlib.Core.Logic.{◌⊎◌, inl, inr}
use mathlib.Core.List.{List, ◌++◌}
use lib.ListN.{length, take, replicate}
use lib.Seq.{take_at}
use lib.Ieee.{Float}
use borrow.Author.Tests.{le-leb}
use Rattle.definitions.specs.Lists.{padded}
use Rattle.definitions.specs.Numbers.{zeroᶠ}
use Rattle.definitions.specs.Coarse.{packed_length, packed_solve, coarse_length, coarse_solve}
use Rattle.definitions.specs.Setup.{max_coarse}
use Rattle.layout.specs.Layout.{part_length}
use Rattle.coarse_solve.specs.RowSums.{inverse_solve}
use Rattle.definitions.specs.declared.TwoLevelCoarseApplyPolicy.{TwoLevelCoarseApplyPolicy}
use Rattle.definitions.specs.declared.TwoLevelCoarseApplyPolicy.TheVariants.{Auto, FactorSolve, ExplicitInverse}

abbrev ByFactor : TwoLevelCoarseApplyPolicy → Type 0
ByFactor p = (p ≡ Auto) ⊎ (p ≡ FactorSolve)

module _ (p : TwoLevelCoarseApplyPolicy) (c : ℕ) where
  pub stored_length : c ≤ max_coarse → part_length p c ≡ coarse_length p c
  unfolding part_length
  stored_length h = rw (le-leb c max_coarse h, part_length)

  pub factor_length : ByFactor p → coarse_length p c ≡ packed_length c
  unfolding coarse_length
  factor_length (inl e) = rw e
  factor_length (inr e) = rw e

  pub factor_solve : (part b : List Float) → ByFactor p → packed_solve c part b ≡ coarse_solve p c part b
  unfolding coarse_solve
  factor_solve part b (inl e) = rw e
  factor_solve part b (inr e) = rw e

  pub inverse_length : p ≡ ExplicitInverse → coarse_length p c ≡ c * c
  unfolding coarse_length
  inverse_length e = rw e

  pub front_solved : (part b b' x rest : List Float) (n : ℕ) → p ≡ ExplicitInverse → b ≡ b' → length x ≡ c → n ≡ c → x ≡ inverse_solve n part b → take c (x ++ rest) ≡ coarse_solve p c part b'
  front_solved part b b' x rest n e eb ex en es = take_at x rest c ex ∙ es ∙ rw (en, e, eb)

pub padded_by : (n c : ℕ) (b s z : List Float) → b ≡ s → length b ≡ c → z ≡ replicate (n - c) zeroᶠ → b ++ z ≡ padded zeroᶠ n s
unfolding padded
padded_by n c b s z e ec ez = let m : length s ≡ c = rw e at ec in rw (e, ez, m)
