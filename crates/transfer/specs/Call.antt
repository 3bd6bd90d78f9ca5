-- SMOOTHED TRANSFER ALONE: its checks in order, its answer, and what its two lists hold afterwards.
use Rattle.std.specs.Prelude.{ℕ, ◌+◌, ◌*◌, ◌/◌, ◌%◌, not, ◌&&◌, List, ◌++◌, map, eqb, leb, length, Float}
use Rattle.definitions.specs.Lists.{any, pointers_from, joined_lists}
use Rattle.definitions.specs.Numbers.{zeroᶠ}
use Rattle.definitions.specs.Refusal.{Outcome, Checked, done, require, ◌>>=◌, result_left}
use Rattle.definitions.specs.Matrix.{Matrix, Entry, max_rows, structure_of}
use Rattle.definitions.specs.Block.{max_block}
use Rattle.definitions.specs.Setup.{max_coarse}
use Rattle.definitions.specs.Transfer.{transfer_of}
use Rattle.definitions.specs.declared.Refusal.TheVariants.{TooLarge, NotSquare, BlockSize, NotMultiple, ListTooShort, CoarseTooLarge, CoarseListTooShort, WrongLength, SetupMisfit}

-- 9, 10, 12, and 13 for pointers, columns and weights
unfoldable pub shape_checked : ℕ → ℕ → ℕ → ℕ → ℕ → ℕ → Checked
shape_checked rows cols entries size ints floats = do
  _ ← require (eqb cols rows) NotSquare
  _ ← require (leb 1 size && leb size max_block) BlockSize
  _ ← require (eqb (rows % size) 0) NotMultiple
  require (leb (2 * rows + entries + 1) ints && leb (rows + entries) floats) ListTooShort

-- 17, 18 for the sums of a row besides, 25 for the diagonal, and 26: an id for each node, below the groups
unfoldable pub groups_checked : ℕ → ℕ → ℕ → List ℕ → ℕ → ℕ → ℕ → ℕ → Checked
groups_checked rows entries size ids groups diagonal ints floats = do
  _ ← require (leb (groups * size) max_coarse) (CoarseTooLarge (groups * size))
  _ ← require (leb (2 * rows + entries + 1 + 2 * (groups * size)) ints && leb (rows + entries + groups * size) floats) (CoarseListTooShort (groups * size))
  _ ← require (eqb diagonal rows) (WrongLength rows diagonal)
  require (eqb (length ids) (rows / size) && not (any (λ g. leb groups g) ids)) SetupMisfit

-- 1 for the groups as for rows, 1 to 7, and all of these
unfoldable pub transfer_checked : Matrix → ℕ → List ℕ → ℕ → ℕ → ℕ → ℕ → Checked
transfer_checked a size ids groups diagonal ints floats = do
  _ ← require (leb groups max_rows) TooLarge
  _ ← structure_of a
  _ ← shape_checked a.rows a.cols (length a.values) size ints floats
  groups_checked a.rows (length a.values) size ids groups diagonal ints floats

unfoldable pub smoothed_transfer_call : Matrix → ℕ → List ℕ → ℕ → List Float → Float → ℕ → ℕ → Outcome (List (List Entry))
smoothed_transfer_call a size ids groups d damping ints floats = transfer_checked a size ids groups (length d) ints floats >>= (λ _. done (transfer_of a d damping size ids (groups * size)))

-- pointers, then columns
unfoldable pub transfer_ints : Outcome (List (List Entry)) → List ℕ → List ℕ
transfer_ints call lent = result_left 0 (call >>= (λ t. done (pointers_from 0 t ++ map (λ (e : Entry). e.col) (joined_lists t)))) lent

-- weights
unfoldable pub transfer_floats : Outcome (List (List Entry)) → List Float → List Float
transfer_floats call lent = result_left zeroᶠ (call >>= (λ t. done (map (λ (e : Entry). e.value) (joined_lists t)))) lent
