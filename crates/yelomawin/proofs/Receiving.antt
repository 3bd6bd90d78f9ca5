-- Values laid over a list of zeros: what the list receives.
use Prim.Native.Nat.{ℕ, zero, suc, ◌-◌}
use mathlib.Core.Path.{◌≡◌, refl, sym, ap, ◌∙◌}
use mathlib.Core.List.{List, [], ◌∷◌, ◌++◌}
use native.Mathlib.Nat.{sub-zero, suc-sub-suc}
use lib.ListN.{length, take, drop, replicate, length-replicate}
use Rattle.definitions.specs.Lists.{padded}
use Rattle.definitions.specs.Refusal.{values_of, cause_of}
use Rattle.definitions.specs.declared.Refusal.{Refusal}
use Rattle.definitions.specs.declared.Refusal.TheVariants.{TooLarge, RowListLength, ColumnListLength, FirstPointer, LastPointer, PointerFalls, ColumnOutside, ValueNotFinite, NotSquare, BlockSize, GroupSize, NotMultiple, ListTooShort, BlockNotSymmetric, BlockPivot, NoNode, CoarseTooLarge, CoarseListTooShort, MissingDiagonal, ZeroDiagonal, NegativeDiagonal, EstimateFailed, CoarseScale, CoarsePivot, WrongLength, SetupMisfit, NeighbourOffsets, NeighbourOutside, LogTooShort}
use Rattle.causes.specs.Told.{told_of}
use Rattle.numbers.specs.Copied.{copied}
use Rattle.yelomawin.specs.Boundary.{received}

-- the first n of some values with zeros after them
pub cut : ℕ → List ℕ → List ℕ
cut zero vs = []
cut (suc n) [] = 0 ∷ cut n []
cut (suc n) (v ∷ vs) = v ∷ cut n vs

zeros_cut : (n : ℕ) → take n (replicate n 0) ≡ cut n []
unfolding cut
zeros_cut zero = refl
zeros_cut (suc n) = ap (λ (l : List ℕ). 0 ∷ l) (zeros_cut n)

pub received_cut : (vs : List ℕ) (n : ℕ) → take n (vs ++ replicate (n - length vs) 0) ≡ cut n vs
unfolding cut
received_cut vs zero = refl
received_cut [] (suc n) = rw (sub-zero (suc n)) (ap (λ (l : List ℕ). 0 ∷ l) (zeros_cut n))
received_cut (v ∷ vs) (suc n) = ap (λ (l : List ℕ). v ∷ l) (rw (suc-sub-suc n (length vs)) (received_cut vs n))

copied_cut : (vs : List ℕ) (n : ℕ) → take n vs ++ drop (length vs) (replicate n 0) ≡ cut n vs
unfolding cut
copied_cut [] zero = refl
copied_cut [] (suc n) = ap (λ (l : List ℕ). 0 ∷ l) (zeros n)
  where
    zeros : (n : ℕ) → replicate n 0 ≡ cut n []
    zeros zero = refl
    zeros (suc n) = ap (λ (l : List ℕ). 0 ∷ l) (zeros n)
copied_cut (v ∷ vs) zero = refl
copied_cut (v ∷ vs) (suc n) = ap (λ (l : List ℕ). v ∷ l) (copied_cut vs n)

-- values laid over zeros
pub receives : (vs lent : List ℕ) → copied vs (replicate (length lent) 0) ≡ received vs lent
unfolding copied received padded
receives vs lent = rw length-replicate (copied_cut vs (length lent) ∙ sym (received_cut vs (length lent)))

-- zeros behind the values make no difference
more_zeros : (vs : List ℕ) (n : ℕ) → cut n (vs ++ (0 ∷ [])) ≡ cut n vs
unfolding cut
more_zeros vs zero = refl
more_zeros [] (suc n) = refl
more_zeros (v ∷ vs) (suc n) = ap (λ (l : List ℕ). v ∷ l) (more_zeros vs n)

cut_of : (vs lent : List ℕ) → received vs lent ≡ cut (length lent) vs
unfolding received padded
cut_of vs lent = received_cut vs (length lent)

pub none_told : (lent : List ℕ) → received (0 ∷ 0 ∷ []) lent ≡ received [] lent
none_told lent = cut_of (0 ∷ 0 ∷ []) lent ∙ more_zeros (0 ∷ []) (length lent) ∙ more_zeros [] (length lent) ∙ sym (cut_of [] lent)

pub one_told : (x : ℕ) (lent : List ℕ) → received (x ∷ 0 ∷ []) lent ≡ received (x ∷ []) lent
one_told x lent = cut_of (x ∷ 0 ∷ []) lent ∙ more_zeros (x ∷ []) (length lent) ∙ sym (cut_of (x ∷ []) lent)

-- the two values of a cause are all that it has
pub told : (r : Refusal) (lent : List ℕ) → received ((told_of r).first ∷ (told_of r).second ∷ []) lent ≡ received (values_of r) lent
unfolding told_of values_of cause_of
told TooLarge l = none_told l
told RowListLength l = none_told l
told ColumnListLength l = none_told l
told FirstPointer l = none_told l
told LastPointer l = none_told l
told PointerFalls l = none_told l
told ColumnOutside l = none_told l
told ValueNotFinite l = none_told l
told NotSquare l = none_told l
told BlockSize l = none_told l
told GroupSize l = none_told l
told NotMultiple l = none_told l
told ListTooShort l = none_told l
told (BlockNotSymmetric x) l = one_told x l
told (BlockPivot x) l = one_told x l
told NoNode l = none_told l
told (CoarseTooLarge x) l = one_told x l
told (CoarseListTooShort x) l = one_told x l
told (MissingDiagonal x) l = one_told x l
told (ZeroDiagonal x) l = one_told x l
told (NegativeDiagonal x) l = one_told x l
told (EstimateFailed x) l = one_told x l
told CoarseScale l = none_told l
told (CoarsePivot x) l = one_told x l
told (WrongLength x y) l = refl
told SetupMisfit l = none_told l
told NeighbourOffsets l = none_told l
told NeighbourOutside l = none_told l
told LogTooShort l = none_told l
