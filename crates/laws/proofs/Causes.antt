-- No cause of refusal has the number 0, which a call answers where it is accepted.
use mathlib.Core.Path.{◌≡◌}
use native.Mathlib.Omega.{arith}
use lib.Dec.{T, ltb, ltb→lt}
use Rattle.definitions.specs.Refusal.{number_of, cause_of}
use Rattle.definitions.specs.declared.Refusal.{Refusal}
use Rattle.definitions.specs.declared.Refusal.TheVariants.{TooLarge, RowListLength, ColumnListLength, FirstPointer, LastPointer, PointerFalls, ColumnOutside, ValueNotFinite, NotSquare, BlockSize, GroupSize, NotMultiple, ListTooShort, BlockNotSymmetric, BlockPivot, NoNode, CoarseTooLarge, CoarseListTooShort, MissingDiagonal, ZeroDiagonal, NegativeDiagonal, EstimateFailed, CoarseScale, CoarsePivot, WrongLength, SetupMisfit, NeighbourOffsets, NeighbourOutside, LogTooShort}

some : (r : Refusal) → T (ltb 0 (number_of r))
unfolding number_of cause_of
some TooLarge = tt
some RowListLength = tt
some ColumnListLength = tt
some FirstPointer = tt
some LastPointer = tt
some PointerFalls = tt
some ColumnOutside = tt
some ValueNotFinite = tt
some NotSquare = tt
some BlockSize = tt
some GroupSize = tt
some NotMultiple = tt
some ListTooShort = tt
some (BlockNotSymmetric row) = tt
some (BlockPivot row) = tt
some NoNode = tt
some (CoarseTooLarge c) = tt
some (CoarseListTooShort c) = tt
some (MissingDiagonal row) = tt
some (ZeroDiagonal row) = tt
some (NegativeDiagonal row) = tt
some (EstimateFailed stage) = tt
some CoarseScale = tt
some (CoarsePivot row) = tt
some (WrongLength expected actual) = tt
some SetupMisfit = tt
some NeighbourOffsets = tt
some NeighbourOutside = tt
some LogTooShort = tt

pub no_cause : (r : Refusal) → number_of r ≡ 0 → ⊥
no_cause r e = let h = ltb→lt 0 (number_of r) (some r) in omega arith
