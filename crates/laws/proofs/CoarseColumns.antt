-- The coarse column of a row as code forms it: the id of the row's node times the block size, and what the node leaves of the row.
use Prim.Native.Nat.{ℕ, ◌+◌, ◌-◌, ◌*◌, ◌/◌, ◌≤◌}
use mathlib.Core.Path.{◌≡◌}
use mathlib.Core.List.{List}
use native.Mathlib.Nat.{mod-eq-sub-div-mul}
use native.Mathlib.Omega.{arith}
use lib.ListN.{get_or}
use Rattle.definitions.specs.Transfer.{coarse_column}

module _ (size : ℕ) (ids : List ℕ) (row node id : ℕ) (n : node ≡ row / size) (i : id ≡ get_or ids node 0) where
  pub column_is : id * size + (row - node * size) ≡ coarse_column size ids row
  unfolding coarse_column
  column_is = rw (i, n, ← mod-eq-sub-div-mul row size)

  pub column_from : id * size ≤ coarse_column size ids row
  column_from = rw (← column_is) (omega arith)
