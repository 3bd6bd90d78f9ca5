-- What accepted calls are about.
use Rattle.std.specs.Prelude.{ℕ, ◌*◌, ◌≡◌, List, Float}
use Rattle.definitions.specs.Matrix.{Matrix, row_of}
use Rattle.csr32.specs.Seen.{square}
use Rattle.coarse_matrix.specs.Galerkin.{weights_of}
use Rattle.coarse_matrix.specs.declared.grouped.GroupedMatrix.{GroupedMatrix}
use Rattle.coarse_matrix.specs.declared.smoothed.SmoothedMatrix.{SmoothedMatrix}

-- a matrix and its groups, from these parts
pub record IsGrouped (a : Matrix) (size : ℕ) (ids : List ℕ) (groups : ℕ) (m : GroupedMatrix) : Type 0 where
  pub matrix : square m.a ≡ a
  pub block : m.groups.size ≡ size
  pub names : m.groups.ids.now ≡ ids
  pub coarse : m.groups.coarse ≡ groups * size

-- a matrix and its transfer, from these parts
pub record IsSmoothed (a : Matrix) (c : ℕ) (ptr idx : List ℕ) (numbers : List Float) (m : SmoothedMatrix) : Type 0 where
  pub matrix : square m.a ≡ a
  pub cols : m.transfer.cols ≡ c
  pub weights : weights_of m.transfer ≡ row_of ptr idx numbers
