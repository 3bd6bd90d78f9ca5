-- The calls on the coarse matrix: each with its checks in order, over the lengths of the lists lent.
use Rattle.std.specs.Prelude.{ℕ, ◌+◌, ◌*◌, ◌/◌, ◌%◌, Bool, not, ◌&&◌, List, leb, eqb, length, get_or, Float}
use Rattle.definitions.specs.Lists.{square, any, falls}
use Rattle.definitions.specs.Refusal.{Outcome, done, Checked, require, ◌>>=◌}
use Rattle.definitions.specs.Matrix.{Matrix, max_rows, structure_of, row_of}
use Rattle.definitions.specs.Block.{max_block}
use Rattle.definitions.specs.Transfer.{coarse_column}
use Rattle.definitions.specs.Coarse.{constant_entry, galerkin_entry, averaged_square}
use Rattle.definitions.specs.declared.Refusal.TheVariants.{TooLarge, NotSquare, BlockSize, NotMultiple, CoarseTooLarge, CoarseListTooShort, SetupMisfit}
use Rattle.definitions.specs.Setup.{max_coarse}

-- ---- the basis that is constant over a group

-- 9, 10, 12, 17, 18, and 26: an id for each node, below the groups
unfoldable pub constant_checks : ℕ → ℕ → ℕ → List ℕ → ℕ → ℕ → Checked
constant_checks rows cols size ids groups lent = do
  _ ← require (eqb rows cols) NotSquare
  _ ← require (leb 1 size && leb size max_block) BlockSize
  _ ← require (eqb (rows % size) 0) NotMultiple
  _ ← require (leb (groups * size) max_coarse) (CoarseTooLarge (groups * size))
  _ ← require (leb (groups * size * (groups * size)) lent) (CoarseListTooShort (groups * size))
  require (eqb (length ids) (rows / size) && not (any (λ g. leb groups g) ids)) SetupMisfit

-- 1 for the groups as for rows, 1 to 7, and all of these
unfoldable pub constant_checked : Matrix → ℕ → List ℕ → ℕ → ℕ → Checked
constant_checked a size ids groups lent = do
  _ ← require (leb groups max_rows) TooLarge
  _ ← structure_of a
  constant_checks a.rows a.cols size ids groups lent

unfoldable pub constant_coarse_call : Matrix → ℕ → List ℕ → ℕ → ℕ → Outcome (List Float)
constant_coarse_call a size ids groups lent =
    constant_checked a size ids groups lent >>= (λ _. done (averaged_square (groups * size) (square (groups * size) (constant_entry a (coarse_column size ids)))))

-- ---- the smoothed basis

-- compressed rows with columns below c; their numbers may be any
unfoldable pub transfer_fits : ℕ → ℕ → List ℕ → List ℕ → ℕ → Bool
transfer_fits rows c ptr idx count =
    eqb (length ptr) (rows + 1) && eqb (length idx) count && eqb (get_or ptr 0 1) 0 && eqb (get_or ptr rows 0) count && not (falls ptr) && not (any (λ k. leb c k) idx)

-- 9, 17, 18, 26
unfoldable pub galerkin_checks : ℕ → ℕ → ℕ → List ℕ → List ℕ → ℕ → ℕ → ℕ → Checked
galerkin_checks rows cols c ptr idx count ints floats = do
  _ ← require (eqb rows cols) NotSquare
  _ ← require (leb c max_coarse) (CoarseTooLarge c)
  _ ← require (leb (2 * c) ints && leb (c * c + c) floats) (CoarseListTooShort c)
  require (transfer_fits rows c ptr idx count) SetupMisfit

-- 1 to 7, and these
unfoldable pub galerkin_checked : Matrix → ℕ → List ℕ → List ℕ → ℕ → ℕ → ℕ → Checked
galerkin_checked a c ptr idx count ints floats = structure_of a >>= (λ _. galerkin_checks a.rows a.cols c ptr idx count ints floats)

unfoldable pub galerkin_coarse_call : Matrix → ℕ → List ℕ → List ℕ → List Float → ℕ → ℕ → Outcome (List Float)
galerkin_coarse_call a c ptr idx weights ints floats =
    galerkin_checked a c ptr idx (length weights) ints floats >>= (λ _. done (averaged_square c (square c (galerkin_entry a (row_of ptr idx weights)))))
