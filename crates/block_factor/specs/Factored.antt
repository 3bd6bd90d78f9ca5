-- What factoring a dense block answers: the definitions' own steps over its numbers d.
use Rattle.std.specs.Prelude.{ℕ, ◌+◌, true, false, ◌≡◌, List, get_or, Float}
use Rattle.std.specs.Float.{nan}
use Rattle.definitions.specs.Numbers.{◌*ᶠ◌, symmetry_tol, pivot_tol}
use Rattle.definitions.specs.Refusal.{Outcome, refused, done}
use Rattle.definitions.specs.Block.{in_block, top_of, skewed}
use Rattle.definitions.specs.Factor.{factor_rows}
use Rattle.definitions.specs.declared.Refusal.{Refusal}
use Rattle.definitions.specs.declared.Refusal.TheVariants.{BlockNotSymmetric, BlockPivot}
use Rattle.block_factor.specs.Dense.{blank, dense_entry}

abbrev pub pivot_row : ℕ → ℕ → Refusal
pivot_row first i = BlockPivot (first + i)

unfoldable pub factor_of : ℕ → ℕ → List Float → Outcome (List Float)
factor_of first w d = elim (skewed d w (symmetry_tol *ᶠ top_of d)) [
  | true ↦ refused (BlockNotSymmetric first)
  | false ↦ factor_rows (in_block w) (pivot_row first) (λ i j. get_or d (in_block w i j) nan) (pivot_tol *ᶠ top_of d) w 0 blank
]

-- l is the factor, wherever the block begins (its first row only names a refusal); and the same of the rows alone, for the numbers of an array a
abbrev pub FactorOf : ℕ → List Float → List Float → Type 0
FactorOf w d l = (first : ℕ) → factor_of first w d ≡ done l

abbrev pub FactorRows : ℕ → List Float → Float → List Float → Type 0
FactorRows w a tol l = (first : ℕ) → factor_rows (in_block w) (pivot_row first) (dense_entry w a) tol w 0 blank ≡ done l
