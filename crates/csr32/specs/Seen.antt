-- The matrix that the definitions speak of, of a lent one and of an accepted square one.
use Rattle.std.specs.Prelude.{eqb}
use Rattle.definitions.specs.Matrix.{Matrix, csr, valid_of}
use Rattle.definitions.specs.Refusal.{Checked, require, ◌>>=◌}
use Rattle.definitions.specs.declared.Refusal.TheVariants.{NotSquare}
use Rattle.csr32.specs.declared.matrix.Csr.{Csr}
use Rattle.csr32.specs.declared.square.SquareCsr.{SquareCsr}

abbrev pub lent : Csr → Matrix
lent a = csr a.rows a.cols a.row_ptr.now a.col_idx.now a.values.now

abbrev pub square : SquareCsr → Matrix
square a = csr a.rows a.rows a.row_ptr.now a.col_idx.now a.values.now

-- causes 1 to 9
unfoldable pub square_call : Matrix → Checked
square_call a = do
  _ ← valid_of a
  require (eqb a.cols a.rows) NotSquare
