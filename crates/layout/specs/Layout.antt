-- The places of a record's parts, for any record: those of the definitions, and none where a number is over its limit, so that a sum could overflow.
use Rattle.std.specs.Prelude.{ℕ, ◌+◌, Bool, true, false, ◌&&◌, leb}
use Rattle.definitions.specs.Matrix.{max_rows, max_entries}
use Rattle.definitions.specs.Block.{max_block}
use Rattle.definitions.specs.Coarse.{coarse_length}
use Rattle.definitions.specs.Places.{places_of}
use Rattle.definitions.specs.Setup.{max_coarse}
use Rattle.definitions.specs.declared.Setup.{Setup}
use Rattle.definitions.specs.declared.Places.{Places}
use Rattle.definitions.specs.declared.TwoLevelCoarseApplyPolicy.{TwoLevelCoarseApplyPolicy}

-- the numbers that places are sums and products of; no setup has more nodes than rows, or more weights than rows and entries
unfoldable pub placeable : Setup → Bool
placeable s = leb s.nodes max_rows && leb s.rows max_rows && leb s.block max_block && leb s.transfers (max_rows + max_entries) && leb s.coarse max_coarse

-- how many numbers the coarse part has
unfoldable pub part_length : TwoLevelCoarseApplyPolicy → ℕ → ℕ
part_length policy c = elim (leb c max_coarse) [ true ↦ coarse_length policy c | false ↦ 0 ]

abbrev pub nowhere : Places
nowhere = record { pointers = 0; columns = 0; ints = 0; weights = 0; coarse = 0; floats = 0 }

unfoldable pub layout_of : Setup → Places
layout_of s = elim (placeable s) [ true ↦ places_of s | false ↦ nowhere ]
