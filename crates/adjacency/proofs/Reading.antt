-- What the checks of the matrix leave: its rows for every policy, and finite values where strengths are compared.
use mathlib.Core.Path.{◌≡◌}
use mathlib.Core.Bool.{true}
use Rattle.definitions.specs.Matrix.{Matrix, valid_of}
use Rattle.definitions.specs.Refusal.{done}
use Rattle.definitions.specs.declared.TwoLevelAggregation.{TwoLevelAggregation}
use Rattle.definitions.specs.declared.TwoLevelAggregation.TheVariants.{Contiguous, Graph, StrongGraph}
use Rattle.csr32.specs.Calls.{Keeps}
use Rattle.csr32.specs.Rows.{Rows, Real, structure_rows, rows_of, valid_structure, valid_real}
use Rattle.csr32.specs.Valid.{structure_keeps, valid_keeps}
use Rattle.adjacency.specs.Within.{compares, read_of}

pub read_rows : (g : TwoLevelAggregation) (a : Matrix) → read_of g a ≡ done tt → Rows a
unfolding read_of
read_rows Contiguous a e = structure_rows a e
read_rows Graph a e = structure_rows a e
read_rows StrongGraph a e = rows_of a e

pub read_real : (g : TwoLevelAggregation) (a : Matrix) → read_of g a ≡ done tt → compares g ≡ true → Real a.values
unfolding read_of compares
read_real Contiguous a e h k i = cc
read_real Graph a e h k i = cc
read_real StrongGraph a e h k i = valid_real a e k i

pub read_keeps : (g : TwoLevelAggregation) (a : Matrix) → Keeps (read_of g a)
unfolding read_of
read_keeps Contiguous a = structure_keeps a
read_keeps Graph a = structure_keeps a
read_keeps StrongGraph a = valid_keeps a

-- a valid matrix serves every policy
pub valid_read : (g : TwoLevelAggregation) (a : Matrix) → valid_of a ≡ done tt → read_of g a ≡ done tt
unfolding read_of
valid_read Contiguous a e = valid_structure a e
valid_read Graph a e = valid_structure a e
valid_read StrongGraph a e = e
