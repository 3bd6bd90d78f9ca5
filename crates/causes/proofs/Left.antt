-- What a call leaves in a list lent for its result: by its number a cause keeps all, or leaves zeros.
use Rattle.std.specs.Prelude.{Err, Ok}
use Prim.Native.Nat.{ℕ}
use mathlib.Core.Path.{◌≡◌, refl, sym, ◌∙◌}
use mathlib.Core.Bool.{false, not, ◌&&◌}
use mathlib.Core.List.{List}
use lib.Dec.{leb}
use lib.ListN.{length, replicate}
use Rattle.definitions.specs.Lists.{padded}
use Rattle.definitions.specs.Refusal.{Outcome, refused, done, result_left, work_left, keeps_all, number_of, cause_of}
use Rattle.definitions.specs.Answers.{answer_of}
use Rattle.definitions.specs.declared.Refusal.{Refusal}
use Rattle.definitions.specs.declared.Refusal.TheVariants.{TooLarge, RowListLength, ColumnListLength, FirstPointer, LastPointer, PointerFalls, ColumnOutside, ValueNotFinite, NotSquare, BlockSize, GroupSize, NotMultiple, ListTooShort, BlockNotSymmetric, BlockPivot, NoNode, CoarseTooLarge, CoarseListTooShort, MissingDiagonal, ZeroDiagonal, NegativeDiagonal, EstimateFailed, CoarseScale, CoarsePivot, WrongLength, SetupMisfit, NeighbourOffsets, NeighbourOutside, LogTooShort}

pub keeps_by_number : (r : Refusal) → keeps_all r ≡ not (leb 14 (number_of r) && leb (number_of r) 24)
unfolding keeps_all number_of cause_of
keeps_by_number TooLarge = refl
keeps_by_number RowListLength = refl
keeps_by_number ColumnListLength = refl
keeps_by_number FirstPointer = refl
keeps_by_number LastPointer = refl
keeps_by_number PointerFalls = refl
keeps_by_number ColumnOutside = refl
keeps_by_number ValueNotFinite = refl
keeps_by_number NotSquare = refl
keeps_by_number BlockSize = refl
keeps_by_number GroupSize = refl
keeps_by_number NotMultiple = refl
keeps_by_number ListTooShort = refl
keeps_by_number (BlockNotSymmetric row) = refl
keeps_by_number (BlockPivot row) = refl
keeps_by_number NoNode = refl
keeps_by_number (CoarseTooLarge c) = refl
keeps_by_number (CoarseListTooShort c) = refl
keeps_by_number (MissingDiagonal row) = refl
keeps_by_number (ZeroDiagonal row) = refl
keeps_by_number (NegativeDiagonal row) = refl
keeps_by_number (EstimateFailed stage) = refl
keeps_by_number CoarseScale = refl
keeps_by_number (CoarsePivot row) = refl
keeps_by_number (WrongLength expected actual) = refl
keeps_by_number SetupMisfit = refl
keeps_by_number NeighbourOffsets = refl
keeps_by_number NeighbourOutside = refl
keeps_by_number LogTooShort = refl

-- ---- the list after a call

module _ {A : Type 0} (z : A) (o : Outcome (List A)) (w : List A) where
  pub left_done : (x : List A) → o ≡ done x → result_left z o w ≡ padded z (length w) x
  unfolding result_left
  left_done x e = rw e

  pub left_refused : (r : Refusal) → o ≡ refused r → result_left z o w ≡ result_left z (refused r) w
  left_refused r e = rw e

  pub left_cleared : (r : Refusal) → o ≡ refused r → keeps_all r ≡ false → result_left z o w ≡ replicate (length w) z
  unfolding result_left
  left_cleared r e k = rw (e, k, result_left)

-- a work list after a refusal, as a result list
pub work_refused : {A B : Type 0} (z : A) (o : Outcome B) (w : List A) (r : Refusal) → o ≡ refused r → work_left z o w ≡ result_left z (refused r) w
unfolding work_left result_left
work_refused z o w r e = rw e

-- ---- with the answer: one whose list the call filled or cleared

module _ {A : Type 0} (z : A) (o : Outcome (List A)) (w v : List A) where
  pub accept_left : (x : List A) → o ≡ done x → v ≡ padded z (length w) x → ((Ok tt) ≡ answer_of o) × (v ≡ result_left z o w)
  unfolding answer_of
  accept_left x e ev = (rw e, ev ∙ sym (left_done z o w x e))

  pub refuse_cleared : (r : Refusal) → o ≡ refused r → keeps_all r ≡ false → v ≡ replicate (length w) z → (Err r ≡ answer_of o) × (v ≡ result_left z o w)
  unfolding answer_of
  refuse_cleared r e k ev = (rw e, ev ∙ sym (left_cleared z o w r e k))

  pub refuse_left : (r : Refusal) → o ≡ refused r → v ≡ result_left z (refused r) w → (Err r ≡ answer_of o) × (v ≡ result_left z o w)
  unfolding answer_of
  refuse_left r e ev = (rw e, ev ∙ sym (left_refused z o w r e))

-- ---- the causes of the coarse part leave zeros

pub large_clears : (c : ℕ) → keeps_all (CoarseTooLarge c) ≡ false
unfolding keeps_all cause_of
large_clears c = refl

pub short_clears : (c : ℕ) → keeps_all (CoarseListTooShort c) ≡ false
unfolding keeps_all cause_of
short_clears c = refl
