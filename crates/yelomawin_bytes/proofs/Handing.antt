-- What is handed out by a call's number is what 01 says of its lists: a result's bytes are a result list, its room is a work list.
use Prim.Native.Nat.{ℕ, ◌-◌, ◌*◌, ◌≤◌, ◌<◌}
use mathlib.Core.Path.{◌≡◌, refl, sym, ap, ◌∙◌}
use mathlib.Core.Bool.{Bool, true, false, cond, not}
use lib.Dec.{eqb}
use mathlib.Core.List.{List, []}
use native.Mathlib.Omega.{arith}
use lib.Ieee.{Float}
use lib.ListN.{length, replicate}
use Rattle.byte_lists.specs.Bytes.{ints_of, floats_of, bytes_of, bytes_of_ints, bytes_of_numbers, bytes_of_floats}
use Rattle.byte_lists.proofs.Laws.{ints_padded, floats_padded, writable_holds}
use Rattle.definitions.specs.Lists.{tab, padded}
use Rattle.definitions.specs.Numbers.{zeroᶠ}
use Rattle.definitions.specs.Refusal.{Outcome, refused, done, ◌>>=◌, number_of, cause_of, keeps_all, result_left, work_left}
use Rattle.definitions.specs.Groups.{Grouping, grouping_left, grouping_work_left}
use Rattle.definitions.specs.JoiningLog.{Logged, grouping_in, log_left}
use Rattle.definitions.specs.Setup.{Built, Lent, lent_of, setup_left}
use Rattle.definitions.specs.Answers.{answer_of, answer_number, grouping_answer, grouping_log_answer, setup_answer}
use Rattle.definitions.specs.declared.Refusal.{Refusal}
use Rattle.definitions.specs.declared.Refusal.TheVariants.{TooLarge, RowListLength, ColumnListLength, FirstPointer, LastPointer, PointerFalls, ColumnOutside, ValueNotFinite, NotSquare, BlockSize, GroupSize, NotMultiple, ListTooShort, BlockNotSymmetric, BlockPivot, NoNode, CoarseTooLarge, CoarseListTooShort, MissingDiagonal, ZeroDiagonal, NegativeDiagonal, EstimateFailed, CoarseScale, CoarsePivot, WrongLength, SetupMisfit, NeighbourOffsets, NeighbourOutside, LogTooShort}
use Rattle.yelomawin.specs.Boundary.{received, whether}
use Rattle.yelomawin_bytes.specs.Calls.{writes, after, emptied, bytes_left, ids_left, log_bytes_left, answer_left, MatrixEmptied, BothEmptied, ResultLeft, AnswerLeft}
use Rattle.yelomawin_bytes.specs.Results.{LentLeft}
use Rattle.yelomawin_bytes.specs.Handed.{Read, leaves_all, Handed}

-- ---- 01's column "Left", by the number

abbrev Left : {A : Type 0} → A → List A → Refusal → List A → Type 0
Left z lent r l = l ≡ cond (leaves_all (number_of r)) lent (replicate (length lent) z)

left : {A : Type 0} (B : Type 0) (z : A) (lent : List A) (r : Refusal) → Left z lent r (result_left z (refused r) lent) × Left z lent r (work_left {B = B} z (refused r) lent) × (eqb (number_of r) 0 ≡ false)
unfolding result_left work_left keeps_all number_of cause_of leaves_all
left B z lent TooLarge = (refl, refl, refl)
left B z lent RowListLength = (refl, refl, refl)
left B z lent ColumnListLength = (refl, refl, refl)
left B z lent FirstPointer = (refl, refl, refl)
left B z lent LastPointer = (refl, refl, refl)
left B z lent PointerFalls = (refl, refl, refl)
left B z lent ColumnOutside = (refl, refl, refl)
left B z lent ValueNotFinite = (refl, refl, refl)
left B z lent NotSquare = (refl, refl, refl)
left B z lent BlockSize = (refl, refl, refl)
left B z lent GroupSize = (refl, refl, refl)
left B z lent NotMultiple = (refl, refl, refl)
left B z lent ListTooShort = (refl, refl, refl)
left B z lent (BlockNotSymmetric row) = (refl, refl, refl)
left B z lent (BlockPivot row) = (refl, refl, refl)
left B z lent NoNode = (refl, refl, refl)
left B z lent (CoarseTooLarge c) = (refl, refl, refl)
left B z lent (CoarseListTooShort c) = (refl, refl, refl)
left B z lent (MissingDiagonal row) = (refl, refl, refl)
left B z lent (ZeroDiagonal row) = (refl, refl, refl)
left B z lent (NegativeDiagonal row) = (refl, refl, refl)
left B z lent (EstimateFailed stage) = (refl, refl, refl)
left B z lent CoarseScale = (refl, refl, refl)
left B z lent (CoarsePivot row) = (refl, refl, refl)
left B z lent (WrongLength expected actual) = (refl, refl, refl)
left B z lent SetupMisfit = (refl, refl, refl)
left B z lent NeighbourOffsets = (refl, refl, refl)
left B z lent NeighbourOutside = (refl, refl, refl)
left B z lent LogTooShort = (refl, refl, refl)

-- 0, or the number of the cause
unfoldable number_in : {A : Type 0} → Outcome A → ℕ
number_in (done x) = 0
number_in (refused r) = number_of r

answer_number_lem : {A : Type 0} (o : Outcome A) → answer_number (answer_of o) ≡ number_in o
unfolding answer_number answer_of number_in
answer_number_lem (done x) = refl
answer_number_lem (refused r) = refl

setup_number_lem : (s : Outcome Built) → answer_number (setup_answer s) ≡ number_in s
unfolding answer_number setup_answer number_in
setup_number_lem (done x) = refl
setup_number_lem (refused r) = refl

-- a log changes no number
log_number : (g : Outcome Logged) → answer_number (grouping_log_answer g) ≡ answer_number (grouping_answer (grouping_in g))
unfolding answer_number grouping_log_answer grouping_answer grouping_in ◌>>=◌
log_number (done x) = refl
log_number (refused r) = refl

bind_done : {A : Type 0} (o : Outcome A) → (o >>= (λ x. done x)) ≡ o
unfolding ◌>>=◌
bind_done (done x) = refl
bind_done (refused r) = refl

padded_none : {A : Type 0} (z : A) (n : ℕ) → padded z n [] ≡ replicate n z
unfolding padded
padded_none z n = let e : n - 0 ≡ n = omega arith in rw (e)

-- ---- a result, whose zeros are zeros in bytes too

module _ {A B : Type 0} (z : A) (w : ℕ) (some : 0 < w) (spell : List A → List ℕ) (f : B → List A) (none : spell [] ≡ []) (pads : (m n : ℕ) (xs : List A) → length (padded z n xs) * w ≤ m → padded 0 m (spell (padded z n xs)) ≡ padded 0 m (spell xs)) {kept : Bool} (lent : List A) {room room' : List A} {bytes bytes' : List ℕ} (same : length room ≡ length lent) (fits : writes w lent bytes ≡ true) (h : Handed w z spell kept room bytes room' bytes') where
  written : bytes' ≡ cond kept bytes (padded 0 (length bytes) (spell room))
  written = h.written (rw (same) fits)

  fit : length room * w ≤ length bytes
  fit = rw (same) (writable_holds w (length lent) (length bytes) some fits)

  by_cause : (b : Bool) → kept ≡ b → room ≡ cond b lent (replicate (length lent) z) → (room' ≡ cond b lent (replicate (length lent) z)) × (bytes' ≡ cond b bytes (replicate (length bytes) 0))
  by_cause true k e = ((rw (k) at h.cleared) ∙ e, rw (k) at written)
  by_cause false k e =
      let p : room ≡ padded z (length lent) [] = e ∙ sym (padded_none z (length lent)) in (
        (rw (k) at h.cleared) ∙ ap (λ n. replicate n z) same,
        (rw (k) at written) ∙ ap (λ l. padded 0 (length bytes) (spell l)) p ∙ pads (length bytes) (length lent) [] (rw (← p) fit) ∙ ap (padded 0 (length bytes)) none ∙ padded_none 0 (length bytes),
      )

  handed : (o : Outcome B) → kept ≡ leaves_all (number_in o) → room ≡ result_left z (o >>= (λ x. done (f x))) lent → ResultLeft true (work_left z o) (bytes_left (λ x. spell (f x)) o) lent bytes room' bytes'
  unfolding ◌>>=◌ number_in bytes_left leaves_all result_left work_left
  handed (done x) k e = record {
    in_room = (rw (k) at h.cleared) ∙ ap (λ n. replicate n z) same;
    in_bytes = (rw (k) at written) ∙ ap (λ l. padded 0 (length bytes) (spell l)) e ∙ pads (length bytes) (length lent) (f x) (rw (← e) fit);
  }
  handed (refused r) k e =
      let u = left B z lent r in
      let t = by_cause (leaves_all (number_of r)) k (e ∙ u.0) in
      record { in_room = t.0 ∙ sym u.1; in_bytes = t.1 ∙ sym (left B 0 bytes r).0 }

  handed_where : (made : Bool) (other : ℕ) (o : Outcome B) → leaves_all other ≡ true → kept ≡ leaves_all (whether made (number_in o) other) → room ≡ whether made (result_left z (o >>= (λ x. done (f x))) lent) lent → ResultLeft made (work_left z o) (bytes_left (λ x. spell (f x)) o) lent bytes room' bytes'
  unfolding whether
  handed_where true other o a k e = handed o k e
  handed_where false other o a k e = let t = by_cause true (k ∙ a) e in record { in_room = t.0; in_bytes = t.1 }

no_ints : bytes_of_ints [] ≡ []
unfolding bytes_of tab
no_ints = refl

no_floats : bytes_of_floats [] ≡ []
unfolding bytes_of_floats tab
no_floats = refl

-- a list that is no record, and a number that is no policy
no_record : leaves_all 26 ≡ true
unfolding leaves_all
no_record = refl

no_policy_lem : leaves_all 255 ≡ true
unfolding leaves_all
no_policy_lem = refl

-- ---- of every call

pub told_where : {A : Type 0} {l : A} (made : Bool) (x y : A) → l ≡ whether made x y → l ≡ cond made x y
unfolding whether
told_where true x y h = h
told_where false x y h = h

-- room that was read into, and cleared
pub emptied_out : {A : Type 0} (z : A) {w : ℕ} {numbers : List ℕ → List A} {bytes : List ℕ} {lent room room' : List A} → Read w numbers bytes lent room → room' ≡ emptied z room → room' ≡ emptied z lent
emptied_out z r h = h ∙ ap (λ k. replicate k z) r.long

pub both_emptied : {A : Type 0} (z : A) {w u : ℕ} {numbers numbers' : List ℕ → List A} {b c : List ℕ} {xs ys xs₁ ys₁ xs₂ ys₂ : List A} → Read w numbers b xs xs₁ → Read u numbers' c ys ys₁ → xs₂ ≡ emptied z xs₁ → ys₂ ≡ emptied z ys₁ → BothEmptied true z xs ys xs₂ ys₂
both_emptied z r s h k = record { first = emptied_out z r h; second = emptied_out z s k }

pub matrix_emptied : {p i v row col row₁ col₁ row₂ col₂ : List ℕ} {value value₁ value₂ : List Float} → Read 4 ints_of p row row₁ → Read 4 ints_of i col col₁ → Read 8 floats_of v value value₁
    → row₂ ≡ emptied 0 row₁ → col₂ ≡ emptied 0 col₁ → value₂ ≡ emptied zeroᶠ value₁ → MatrixEmptied true row col value row₂ col₂ value₂
matrix_emptied r s t h k l = record { row_room = emptied_out 0 r h; col_room = emptied_out 0 s k; value_room = emptied_out zeroᶠ t l }

-- the four lists of setup, one by one
setup_left_lem : (made : Bool) (s : Outcome Built) (lent left : Lent) → left ≡ whether made (setup_left s lent) lent
    → (left.ints ≡ whether made (result_left 0 (s >>= (λ b. done b.ints)) lent.ints) lent.ints) × (left.floats ≡ whether made (result_left zeroᶠ (s >>= (λ b. done b.floats)) lent.floats) lent.floats)
    × (left.work_ints ≡ after made (work_left 0 s) lent.work_ints) × (left.work_floats ≡ after made (work_left zeroᶠ s) lent.work_floats)
unfolding whether setup_left
setup_left_lem true s lent left e = (ap (λ x. x.ints) e, ap (λ x. x.floats) e, ap (λ x. x.work_ints) e, ap (λ x. x.work_floats) e)
setup_left_lem false s lent left e = (ap (λ x. x.ints) e, ap (λ x. x.floats) e, ap (λ x. x.work_ints) e, ap (λ x. x.work_floats) e)

-- ---- what is handed out; `made` is false where the call is refused before its checks, by a number that leaves all

pub answer_told : (values : List ℕ) {lent room room' bytes bytes' : List ℕ} → writes 8 lent bytes ≡ true → length room ≡ length lent → Handed 8 0 bytes_of_numbers false room bytes room' bytes' → room ≡ received values lent → AnswerLeft true values lent bytes room' bytes'
unfolding answer_left
answer_told values {bytes = bytes} fit same h t = record { in_room = h.cleared ∙ ap (λ n. replicate n 0) same; in_bytes = h.written (rw (same) fit) ∙ ap (λ l. padded 0 (length bytes) (bytes_of_numbers l)) t }

pub floats_made : (made : Bool) (o : Outcome (List Float)) {number : ℕ} {lent room room' : List Float} {bytes bytes' : List ℕ} → writes 8 lent bytes ≡ true → length room ≡ length lent → Handed 8 zeroᶠ bytes_of_floats (leaves_all number) room bytes room' bytes'
    → number ≡ whether made (answer_number (answer_of o)) 26 → room ≡ whether made (result_left zeroᶠ o lent) lent → ResultLeft made (work_left zeroᶠ o) (bytes_left bytes_of_floats o) lent bytes room' bytes'
floats_made made o {lent = lent} fit same h n t =
    handed_where zeroᶠ 8 (omega arith) bytes_of_floats (λ x. x) no_floats floats_padded lent same fit h made 26 o no_record (ap leaves_all (n ∙ ap (λ x. whether made x 26) (answer_number_lem o))) (t ∙ ap (λ p. whether made (result_left zeroᶠ p lent) lent) (sym (bind_done o)))

pub floats_told : (o : Outcome (List Float)) {number : ℕ} {lent room room' : List Float} {bytes bytes' : List ℕ} → writes 8 lent bytes ≡ true → length room ≡ length lent → Handed 8 zeroᶠ bytes_of_floats (leaves_all number) room bytes room' bytes'
    → number ≡ answer_number (answer_of o) → room ≡ result_left zeroᶠ o lent → ResultLeft true (work_left zeroᶠ o) (bytes_left bytes_of_floats o) lent bytes room' bytes'
unfolding whether
floats_told o fit same h n t = floats_made true o fit same h n t

-- grouping alone leaves all after every refusal
pub ids_told : (g : Outcome Grouping) {number : ℕ} {lent room room' bytes bytes' : List ℕ} → writes 4 lent bytes ≡ true → length room ≡ length lent → Handed 4 0 bytes_of_ints (not (eqb number 0)) room bytes room' bytes'
    → number ≡ answer_number (grouping_answer g) → room ≡ grouping_left g lent → ResultLeft true (grouping_work_left g) (ids_left g) lent bytes room' bytes'
unfolding answer_number grouping_answer grouping_left grouping_work_left ids_left ◌>>=◌ number_in leaves_all result_left work_left bytes_left
ids_told (done x) {lent = lent} fit same h n t = handed 0 4 (omega arith) bytes_of_ints (λ (y : Grouping). y.ids) no_ints ints_padded lent same fit h (done x) (rw (n)) t
ids_told (refused r) {lent = lent} fit same h n t =
    let u = by_cause 0 4 (omega arith) bytes_of_ints (λ (y : Grouping). y.ids) no_ints ints_padded lent same fit h true (rw (n, (left ℕ 0 lent r).2)) t in
    record { in_room = u.0; in_bytes = u.1 }

-- and so does grouping with a log
pub logged_ids_told : (g : Outcome Logged) {number : ℕ} {lent room room' bytes bytes' : List ℕ} → writes 4 lent bytes ≡ true → length room ≡ length lent → Handed 4 0 bytes_of_ints (not (eqb number 0)) room bytes room' bytes'
    → number ≡ answer_number (grouping_log_answer g) → room ≡ grouping_left (grouping_in g) lent → ResultLeft true (grouping_work_left (grouping_in g)) (ids_left (grouping_in g)) lent bytes room' bytes'
logged_ids_told g fit same h n t = ids_told (grouping_in g) fit same h (n ∙ log_number g) t

pub log_told : (g : Outcome Logged) {number : ℕ} {lent room room' bytes bytes' : List ℕ} → writes 4 lent bytes ≡ true → length room ≡ length lent → Handed 4 0 bytes_of_ints (not (eqb number 0)) room bytes room' bytes'
    → number ≡ answer_number (grouping_log_answer g) → room ≡ log_left g lent → ResultLeft true (grouping_work_left (grouping_in g)) (log_bytes_left g) lent bytes room' bytes'
unfolding answer_number grouping_log_answer grouping_in grouping_work_left log_left log_bytes_left ◌>>=◌ number_in leaves_all result_left work_left bytes_left
log_told (done x) {lent = lent} fit same h n t = handed 0 4 (omega arith) bytes_of_ints (λ (y : Logged). y.log) no_ints ints_padded lent same fit h (done x) (rw (n)) t
log_told (refused r) {lent = lent} fit same h n t =
    let u = by_cause 0 4 (omega arith) bytes_of_ints (λ (y : Logged). y.log) no_ints ints_padded lent same fit h true (rw (n, (left ℕ 0 lent r).2)) t in
    record { in_room = u.0; in_bytes = u.1 }

pub setup_told : (known : Bool) (s : Outcome Built) (lent : Lent) {number : ℕ} {ints work_ints ints' bytes bytes' : List ℕ} {floats work_floats floats' : List Float} {float_bytes floatBytes' : List ℕ}
    → writes 4 lent.ints bytes ≡ true → writes 8 lent.floats float_bytes ≡ true → length ints ≡ length lent.ints → length floats ≡ length lent.floats
    → Handed 4 0 bytes_of_ints (leaves_all number) ints bytes ints' bytes' → Handed 8 zeroᶠ bytes_of_floats (leaves_all number) floats float_bytes floats' floatBytes'
    → number ≡ whether known (answer_number (setup_answer s)) 255 → lent_of ints floats work_ints work_floats ≡ whether known (setup_left s lent) lent
    → LentLeft known s lent (lent_of ints' floats' work_ints work_floats)
    × ((bytes' ≡ after known (bytes_left (λ (b : Built). bytes_of_ints b.ints) s) bytes) × (floatBytes' ≡ after known (bytes_left (λ (b : Built). bytes_of_floats b.floats) s) float_bytes))
setup_told known s lent fit fit' same same' h h' n t =
    let k = ap leaves_all (n ∙ ap (λ x. whether known x 255) (setup_number_lem s)) in
    let l = setup_left_lem known s lent _ t in
    let u = handed_where 0 4 (omega arith) bytes_of_ints (λ (b : Built). b.ints) no_ints ints_padded lent.ints same fit h known 255 s no_policy_lem k l.0 in
    let v = handed_where zeroᶠ 8 (omega arith) bytes_of_floats (λ (b : Built). b.floats) no_floats floats_padded lent.floats same' fit' h' known 255 s no_policy_lem k l.1 in
    (record { ints = u.in_room; floats = v.in_room; work_ints = l.2; work_floats = l.3 }, (u.in_bytes, v.in_bytes))
