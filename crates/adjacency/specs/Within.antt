-- Neighbour lists inside one list of integers: 1 to 10, 12, 13. What is asked before `base` serves as stamps and as room for sorting.
use Rattle.std.specs.Prelude.{Bool, true, false, ◌&&◌, List, ◌++◌, ℕ, ◌+◌, ◌*◌, ◌/◌, ◌%◌, eqb, leb, length, replicate}
use Rattle.definitions.specs.Refusal.{Outcome, done, Checked, require, ◌>>=◌}
use Rattle.definitions.specs.Matrix.{Matrix, structure_of, valid_of}
use Rattle.definitions.specs.Block.{max_block}
use Rattle.definitions.specs.Neighbours.{flat_neighbours}
use Rattle.definitions.specs.declared.Refusal.TheVariants.{NotSquare, BlockSize, NotMultiple, ListTooShort}
use Rattle.definitions.specs.declared.TwoLevelAggregation.{TwoLevelAggregation}
use Rattle.definitions.specs.declared.TwoLevelAggregation.TheVariants.{Contiguous, Graph, StrongGraph}

-- StrongGraph alone compares strengths, which values that are not finite have no order for
unfoldable pub compares : TwoLevelAggregation → Bool
compares Contiguous = false
compares Graph = false
compares StrongGraph = true

-- 1 to 7, and 8 where strengths are compared: the other policies look at no value
unfoldable pub read_of : TwoLevelAggregation → Matrix → Checked
read_of Contiguous a = structure_of a
read_of Graph a = structure_of a
read_of StrongGraph a = valid_of a

-- zeros up to `base`, then the offsets and the neighbours
unfoldable pub neighbours_within : TwoLevelAggregation → Matrix → ℕ → ℕ → ℕ → ℕ → Outcome (List ℕ)
neighbours_within g a size base room floatRoom = do
  _ ← read_of g a
  _ ← require (eqb a.cols a.rows) NotSquare
  _ ← require (leb 1 size && leb size max_block) BlockSize
  _ ← require (eqb (a.rows % size) 0) NotMultiple
  _ ← require (leb (2 * (a.rows / size)) base && leb (base + a.rows / size + 1 + length a.values) room && leb (3 * (a.rows / size)) floatRoom) ListTooShort
  done (replicate base 0 ++ flat_neighbours g a size (a.rows / size))
