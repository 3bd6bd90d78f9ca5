-- THE LAYOUT of a setup: where each part stands in its two lists, and how long the four lists of a call must be. Nothing else says so.
use Rattle.std.specs.Prelude.{ℕ, ◌+◌, ◌*◌, ◌/◌, Bool, ◌&&◌, List, leb, length, take, Float}
use Rattle.definitions.specs.Lists.{between}
use Rattle.definitions.specs.Matrix.{Matrix}
use Rattle.definitions.specs.Coarse.{coarse_length}
use Rattle.definitions.specs.declared.Setup.{Setup}
use Rattle.definitions.specs.declared.Options.{Options}
use Rattle.definitions.specs.declared.Places.{Places}
use Rattle.definitions.specs.declared.TwoLevelBasis.{TwoLevelBasis}
use Rattle.definitions.specs.declared.TwoLevelBasis.TheVariants.{PiecewiseConstant, JacobiSmoothed}

-- ---- the parts: group of each node; if smoothed transfer pointers, then columns | block factors, transfer values, coarse part

-- how many integers are used
unfoldable pub used_ints : TwoLevelBasis → Setup → ℕ
used_ints PiecewiseConstant s = s.nodes
used_ints JacobiSmoothed s = s.nodes + s.rows + 1 + s.transfers

-- where each part starts behind the first, and where the last one ends
abbrev pub places_of : Setup → Places
places_of s = record {
  pointers = s.nodes;
  columns = s.nodes + s.rows + 1;
  ints = used_ints s.basis s;
  weights = s.rows * s.block;
  coarse = s.rows * s.block + s.transfers;
  floats = s.rows * s.block + s.transfers + coarse_length s.policy s.coarse;
}

unfoldable pub used_floats : Setup → ℕ
used_floats s = (places_of s).floats

abbrev pub ids_in : Setup → List ℕ → List ℕ
ids_in s ints = take (places_of s).pointers ints

abbrev pub pointers_in : Setup → List ℕ → List ℕ
pointers_in s ints = between (places_of s).pointers (places_of s).columns ints

abbrev pub columns_in : Setup → List ℕ → List ℕ
columns_in s ints = between (places_of s).columns ((places_of s).columns + s.transfers) ints

abbrev pub factors_in : Setup → List Float → List Float
factors_in s floats = take (places_of s).weights floats

abbrev pub weights_in : Setup → List Float → List Float
weights_in s floats = between (places_of s).weights (places_of s).coarse floats

abbrev pub coarse_in : Setup → List Float → List Float
coarse_in s floats = between (places_of s).coarse (places_of s).floats floats

-- ---- lengths

abbrev pub node_count : Matrix → Options → ℕ
node_count a o = a.rows / o.block

-- how long the four lists are: setup integers, setup floats, work integers, work floats
pub record Lengths : Type 0 where
  pub ints : ℕ
  pub floats : ℕ
  pub work_ints : ℕ
  pub work_floats : ℕ

-- what 13 asks of them
unfoldable pub entry_needs : Matrix → Options → Lengths
entry_needs a o =
    let n = a.rows in
    let e = length a.values in
    record { ints = node_count a o + 2 * n + e + 1; floats = n * o.block + n + e; work_ints = 8 * n + 4 * e + 16; work_floats = 8 * n + 2 * e }

-- what 18 adds for the coarse dimension c
unfoldable pub coarse_needs : ℕ → Lengths → Lengths
coarse_needs c need = record { ints = need.ints; floats = need.floats + c * c; work_ints = need.work_ints + 4 * c; work_floats = need.work_floats + (c * c + 4 * c) }

unfoldable pub covers : Lengths → Lengths → Bool
covers room need = leb need.ints room.ints && leb need.floats room.floats && leb need.work_ints room.work_ints && leb need.work_floats room.work_floats
