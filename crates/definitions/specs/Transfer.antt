-- The transfer between rows and coarse columns: constant over a group, or smoothed by one damped Jacobi step.
use Rattle.std.specs.Prelude.{ℕ, ◌+◌, ◌*◌, ◌/◌, ◌%◌, cond, List, map, eqb, get_or, Float}
use Rattle.std.specs.Float.{nan}
use Rattle.std.specs.Float.Ieee.{ne}
use Rattle.definitions.specs.Lists.{tab, keep}
use Rattle.definitions.specs.Numbers.{◌*ᶠ◌, ◌/ᶠ◌, zeroᶠ, oneᶠ, reduced}
use Rattle.definitions.specs.Matrix.{Matrix, Entry, entries_of, values_where}

-- the coarse column of a row: group times block size plus component
unfoldable pub coarse_column : ℕ → List ℕ → ℕ → ℕ
coarse_column size ids row = get_or ids (row / size) 0 * size + row % size

-- before smoothing: 1 at the row's own coarse column, else 0
unfoldable pub tentative : ℕ → List ℕ → ℕ → ℕ → Float
tentative size ids i j = cond (eqb j (coarse_column size ids i)) oneᶠ zeroᶠ

module _ (a : Matrix) (d : List Float) (damping : Float) (size : ℕ) (ids : List ℕ) where
  -- (damping factor · value) · (1/diagonal), for each entry of row i whose coarse column is j
  unfoldable pub smoothing_terms : ℕ → ℕ → List Float
  smoothing_terms i j = map (λ v. damping *ᶠ v *ᶠ (oneᶠ /ᶠ get_or d i nan)) (values_where (λ c. eqb (coarse_column size ids c) j) (entries_of a i))

  -- the weight at (i, j): those taken off in order
  unfoldable pub weight_at : ℕ → ℕ → Float
  weight_at i j = reduced (tentative size ids i j) (smoothing_terms i j)

  -- row i: columns ascend, zero weights are dropped (a NaN is not)
  unfoldable pub transfer_row : ℕ → ℕ → List Entry
  transfer_row c i = keep (λ e. ne e.value zeroᶠ) (tab (λ j. record { col = j; value = weight_at i j }) c)

  unfoldable pub transfer_of : ℕ → List (List Entry)
  transfer_of c = tab (transfer_row c) a.rows
