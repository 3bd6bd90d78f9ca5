-- The premises of the laws on factors can be met: [4 2; 2 5] has the block factor 2, 1, 2 and, as a coarse matrix, the packed one; and a third row leaves the first block alone.
use mathlib.Core.Path.{◌≡◌, refl, sym, ◌∙◌}
use mathlib.Core.Bool.{false}
use mathlib.Core.List.{List, [], ◌∷◌, zip_with}
use Prim.Native.Nat.{ℕ, zero, suc, ◌+◌, ◌*◌, ◌<◌}
use native.Mathlib.Omega.{arith}
use lib.Dec.{T}
use lib.ListN.{length, replicate}
use lib.Ieee.{Float, binary64, neg, fits, of_int}
use lib.Ieee.Fits.{round-fits}
use Rattle.definitions.specs.Numbers.{ofℕ, zeroᶠ}
use Rattle.definitions.specs.Refusal.{refused, done}
use Rattle.definitions.specs.Matrix.{Matrix, row_of, entries_of}
use Rattle.definitions.specs.Block.{in_block, block_count, width_of, blocks_call, block_part}
use Rattle.definitions.specs.Coarse.{packed, coarse_factor, entry_in}
use Rattle.definitions.specs.Places.{Lengths}
use Rattle.definitions.specs.Setup.{setup_of}
use Rattle.definitions.proofs.Opened.{all_open}
use Rattle.definitions.specs.declared.Options.{Options}
use Rattle.definitions.specs.declared.Refusal.TheVariants.{BlockPivot}
use Rattle.definitions.specs.declared.TwoLevelAggregation.TheVariants.{Contiguous}
use Rattle.definitions.specs.declared.TwoLevelBasis.TheVariants.{JacobiSmoothed}
use Rattle.definitions.specs.declared.TwoLevelCoarseApplyPolicy.TheVariants.{Auto}
use Rattle.laws.proofs.BlockFactors.{own_part}
use Rattle.laws.proofs.FiniteFactor.{FiniteFactor}
use Rattle.laws.proofs.FiniteFactors.{blocks_finite, coarse_finite}

-- [4 2; 2 5], and x in a third row of its own
abbrev matrix : ℕ → Matrix
matrix x = record { rows = 3; cols = 3; row_ptr = 0 ∷ 2 ∷ 4 ∷ 5 ∷ []; col_idx = 0 ∷ 1 ∷ 0 ∷ 1 ∷ 2 ∷ []; values = ofℕ 4 ∷ ofℕ 2 ∷ ofℕ 2 ∷ ofℕ 5 ∷ ofℕ x ∷ [] }

-- the root of x in the third row
abbrev factors : ℕ → List Float
factors y = ofℕ 2 ∷ zeroᶠ ∷ ofℕ 1 ∷ ofℕ 2 ∷ ofℕ y ∷ []

pub nine_accepted : blocks_call (matrix 9) 2 6 ≡ done (factors 3)
unfolding all_open
nine_accepted = refl

pub sixteen_accepted : blocks_call (matrix 16) 2 6 ≡ done (factors 4)
unfolding all_open
sixteen_accepted = refl

-- both blocks, of which the last is smaller
pub nine_finite : (k : ℕ) → k < block_count 3 2 → FiniteFactor (in_block (width_of 3 2 k)) (width_of 3 2 k) (block_part 2 (width_of 3 2 k) k (factors 3))
nine_finite k l = blocks_finite (matrix 9) 2 6 (factors 3) nine_accepted k l

first_row_lem : (x : ℕ) → entries_of (matrix x) 0 ≡ record { col = 0; value = ofℕ 4 } ∷ record { col = 1; value = ofℕ 2 } ∷ []
unfolding entries_of row_of zip_with
first_row_lem x = refl

second_row : (x : ℕ) → entries_of (matrix x) 1 ≡ record { col = 0; value = ofℕ 2 } ∷ record { col = 1; value = ofℕ 5 } ∷ []
unfolding entries_of row_of zip_with
second_row x = refl

two_blocks : block_count 3 2 ≡ 2
unfolding block_count
two_blocks = refl

two_wide : width_of 3 2 0 ≡ 2
unfolding width_of
two_wide = refl

pub first_block_alone : block_part 2 (width_of 3 2 0) 0 (factors 3) ≡ block_part 2 (width_of 3 2 0) 0 (factors 4)
first_block_alone = own_part (matrix 9) (matrix 16) 2 0 refl same 6 6 (factors 3) (factors 4) nine_accepted sixteen_accepted (omega (arith, two_blocks))
  where
    same : (i : ℕ) → i < width_of 3 2 0 → entries_of (matrix 9) (0 * 2 + i) ≡ entries_of (matrix 16) (0 * 2 + i)
    same zero l = first_row_lem 9 ∙ sym (first_row_lem 16)
    same (suc zero) l = second_row 9 ∙ sym (second_row 16)
    same (suc (suc i)) l = absurd (omega (arith, two_wide))

-- as a coarse matrix
abbrev coarse : List Float
coarse = ofℕ 4 ∷ ofℕ 2 ∷ ofℕ 2 ∷ ofℕ 5 ∷ []

pub coarse_accepted : coarse_factor 2 coarse ≡ done (ofℕ 2 ∷ ofℕ 1 ∷ ofℕ 2 ∷ [])
unfolding all_open
coarse_accepted = refl

whole_fits : (n : ℕ) → T (fits binary64 (ofℕ n))
unfolding of_int
whole_fits n = round-fits binary64 false n 1

pub coarse_is_finite : FiniteFactor packed 2 (ofℕ 2 ∷ ofℕ 1 ∷ ofℕ 2 ∷ [])
coarse_is_finite = coarse_finite 2 coarse (ofℕ 2 ∷ ofℕ 1 ∷ ofℕ 2 ∷ []) held coarse_accepted
  where
    held : (i : ℕ) → i < 2 → T (fits binary64 (entry_in coarse 2 i i))
    held zero l = whole_fits 4
    held (suc zero) l = whole_fits 5
    held (suc (suc i)) l = absurd (omega arith)

-- ---- what would be 19, 20 and 21: setup meets the block first

abbrev smoothed : Options
smoothed = record { block = 1; group = 1; aggregation = Contiguous; basis = JacobiSmoothed; policy = Auto }

abbrev ample : Lengths
ample = record { ints = 8; floats = 8; work_ints = 64; work_floats = 32 }

-- one row, with these numbers stored on the diagonal
abbrev single : List Float → Matrix
single vs = record { rows = 1; cols = 1; row_ptr = 0 ∷ length vs ∷ []; col_idx = replicate (length vs) 0; values = vs }

pub missing_is_15 : setup_of (single []) smoothed ample ≡ refused (BlockPivot 0)
unfolding all_open
missing_is_15 = refl

pub zero_is_15 : setup_of (single (zeroᶠ ∷ [])) smoothed ample ≡ refused (BlockPivot 0)
unfolding all_open
zero_is_15 = refl

pub negative_is_15 : setup_of (single (neg (ofℕ 1) ∷ [])) smoothed ample ≡ refused (BlockPivot 0)
unfolding all_open
negative_is_15 = refl
