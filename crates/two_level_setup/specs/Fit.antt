-- What the checks of setup leave for its stages.
use Rattle.std.specs.Prelude.{ℕ, ◌+◌, ◌*◌, ◌/◌, ◌≤◌, ◌≡◌, length}
use Rattle.definitions.specs.Refusal.{done}
use Rattle.definitions.specs.Matrix.{Matrix, valid_of, max_entries, max_rows}
use Rattle.definitions.specs.Places.{node_count, Lengths}
use Rattle.definitions.specs.Setup.{max_coarse}
use Rattle.definitions.specs.declared.Options.{Options}
use Rattle.definitions.specs.declared.Setup.{Setup}
use Rattle.definitions.specs.declared.Places.{Places}
use Rattle.definitions.specs.Block.{max_block}
use Rattle.two_level_grouping.specs.Front.{Front}
use Rattle.two_level_setup.specs.Stages.{options_of}

abbrev pub room_of : ℕ → ℕ → ℕ → ℕ → Lengths
room_of ints floats work_ints work_floats = record { ints = ints; floats = floats; work_ints = work_ints; work_floats = work_floats }

-- 1 to 13
pub record Fit (a : Matrix) (o : Options) (room : Lengths) : Type 0 where
  pub front : Front a o
  pub ints : node_count a o + 2 * a.rows + length a.values + 1 ≤ room.ints
  pub floats : a.rows * o.block + a.rows + length a.values ≤ room.floats
  pub work_ints : 8 * a.rows + 4 * length a.values + 16 ≤ room.work_ints
  pub work_floats : 8 * a.rows + 2 * length a.values ≤ room.work_floats

-- of the front, what numbers are at most
pub record Bounds (rows entries block : ℕ) : Type 0 where
  pub rows_most : rows ≤ max_rows
  pub entries_most : entries ≤ max_entries
  pub used : rows * block ≤ max_rows * max_block
  pub nodes : rows / block ≤ rows
  pub some : 1 ≤ block

-- what the groups leave of the record
pub record Counted (a : Matrix) (s : Setup) : Type 0 where
  pub rows : s.rows ≡ a.rows
  pub nodes : s.nodes ≡ a.rows / s.block
  pub coarse : s.coarse ≡ s.groups * s.block
  pub few : s.groups ≤ s.nodes
  pub transfers : s.transfers ≤ a.rows + length a.values

-- 17 and 18
pub record Ample (a : Matrix) (s : Setup) (room : Lengths) : Type 0 where
  pub front : Front a (options_of s)
  pub counted : Counted a s
  pub small : s.coarse ≤ max_coarse
  pub ints : s.nodes + 2 * a.rows + length a.values + 1 ≤ room.ints
  pub floats : a.rows * s.block + a.rows + length a.values + s.coarse * s.coarse ≤ room.floats
  pub work_ints : 8 * a.rows + 4 * length a.values + 16 + 4 * s.coarse ≤ room.work_ints
  pub work_floats : 8 * a.rows + 2 * length a.values + (s.coarse * s.coarse + 4 * s.coarse) ≤ room.work_floats

-- the places of the parts, by the rows of the matrix
pub record Placed (rows : ℕ) (s : Setup) (p : Places) : Type 0 where
  pub pointers : p.pointers ≡ s.nodes
  pub columns : p.columns ≡ s.nodes + rows + 1
  pub weights : p.weights ≡ rows * s.block
  pub coarse : p.coarse ≡ rows * s.block + s.transfers

-- of that, what the damping factor needs, with `used` numbers before the diagonal
pub record DampingFit (a : Matrix) (used floatsLong workLong : ℕ) : Type 0 where
  pub valid : valid_of a ≡ done tt
  pub square : a.cols ≡ a.rows
  pub floats : used + a.rows ≤ floatsLong
  pub work : 3 * a.rows ≤ workLong

-- and what the coarse matrix needs
pub record MatrixFit (a : Matrix) (s : Setup) (room : Lengths) : Type 0 where
  pub front : Front a (options_of s)
  pub counted : Counted a s
  pub small : s.coarse ≤ max_coarse
  pub ints : s.nodes + 2 * a.rows + length a.values + 1 ≤ room.ints
  pub floats : a.rows * s.block + a.rows + length a.values ≤ room.floats
  pub work_ints : a.rows + 2 * s.coarse ≤ room.work_ints
  pub work_floats : s.coarse * s.coarse + s.coarse ≤ room.work_floats
