-- The calls on byte lists: inputs are read from their bytes into typed rooms, the call on typed lists is made, and what it yields is written into bytes.
-- An input is bytes, with room for the numbers that they spell; a result is room, as long as the call is to believe it is, with bytes for all of it.
use Rattle.std.specs.Prelude.{ℕ, ◌≡◌, Bool, cond, ◌&&◌, List, Float, length, replicate}
use Rattle.byte_lists.specs.Bytes.{ints_of, floats_of, bytes_of_ints, bytes_of_numbers, readable, writable}
use Rattle.definitions.specs.Lists.{padded}
use Rattle.definitions.specs.Numbers.{zeroᶠ}
use Rattle.definitions.specs.Refusal.{Outcome, done, ◌>>=◌, result_left}
use Rattle.definitions.specs.Matrix.{Matrix, csr}
use Rattle.definitions.specs.Groups.{Grouping, grouping_left}
use Rattle.definitions.specs.JoiningLog.{Logged, log_left}
use Rattle.yelomawin.specs.Boundary.{received}

-- a call with a byte list that is not of whole numbers, or that lacks room, answers this, a number that no cause has, and leaves every list as it was
abbrev pub misfit : ℕ
misfit = 254

-- an input's bytes and its room, a result's room and its bytes, for numbers of w bytes
abbrev pub reads : {A : Type 0} → ℕ → List ℕ → List A → Bool
reads w bytes room = readable w (length bytes) (length room)

abbrev pub writes : {A : Type 0} → ℕ → List A → List ℕ → Bool
writes w room bytes = writable w (length room) (length bytes)

-- the matrix that byte lists spell, and whether they fit
abbrev pub matrix_of : ℕ → ℕ → List ℕ → List ℕ → List ℕ → Matrix
matrix_of rows cols row_ptr col_idx values = csr rows cols (ints_of row_ptr) (ints_of col_idx) (floats_of values)

abbrev pub matrix_fits : List ℕ → List ℕ → List ℕ → List ℕ → List ℕ → List Float → Bool
matrix_fits row_ptr col_idx values row_room col_room value_room = reads 4 row_ptr row_room && (reads 4 col_idx col_room && reads 8 values value_room)

-- ---- what a list holds afterwards

-- f of what it held; or what it held, where the call is not made
abbrev pub after : {A : Type 0} → Bool → (List A → List A) → List A → List A
after made f lent = cond made (f lent) lent

-- room that is written before anything is known of the answer, an input's or an answer's: zeros
abbrev pub emptied : {A : Type 0} → A → List A → List A
emptied z room = replicate (length room) z

-- a result's bytes are a result list of the call, whose elements are the bytes of the result's numbers
unfoldable pub bytes_left : {A : Type 0} → (A → List ℕ) → Outcome A → List ℕ → List ℕ
bytes_left spell o bytes = result_left 0 (o >>= (λ x. done (spell x))) bytes

-- and those of group ids are one of grouping alone
unfoldable pub ids_left : Outcome Grouping → List ℕ → List ℕ
ids_left g bytes = grouping_left (g >>= (λ x. done (record { ids = bytes_of_ints x.ids; count = x.count }))) bytes

-- and those of a log one of grouping with a log
unfoldable pub log_bytes_left : Outcome Logged → List ℕ → List ℕ
log_bytes_left g bytes = log_left (g >>= (λ x. done (record { grouping = x.grouping; joinings = x.joinings; log = bytes_of_ints x.log }))) bytes

-- an answer's bytes: its values, as far as its room has place for them, and zeros
unfoldable pub answer_left : List ℕ → List ℕ → List ℕ → List ℕ
answer_left values room bytes = padded 0 (length bytes) (bytes_of_numbers (received values room))

-- ---- rooms and bytes after a call, by whether it is made

-- the rooms of a matrix are emptied
pub record MatrixEmptied (made : Bool) (rows cols : List ℕ) (values : List Float) (rows' cols' : List ℕ) (values' : List Float) : Type 0 where
  pub row_room : rows' ≡ after made (emptied 0) rows
  pub col_room : cols' ≡ after made (emptied 0) cols
  pub value_room : values' ≡ after made (emptied zeroᶠ) values

-- two rooms of inputs are emptied
pub record BothEmptied {A : Type 0} (made : Bool) (z : A) (xs ys xs' ys' : List A) : Type 0 where
  pub first : xs' ≡ after made (emptied z) xs
  pub second : ys' ≡ after made (emptied z) ys

-- a result's room and its bytes, each by what the call leaves in such a list
pub record ResultLeft {A : Type 0} (made : Bool) (left : List A → List A) (leftBytes : List ℕ → List ℕ) (room : List A) (bytes : List ℕ) (room' : List A) (bytes' : List ℕ) : Type 0 where
  pub in_room : room' ≡ after made left room
  pub in_bytes : bytes' ≡ after made leftBytes bytes

-- an answer's room is emptied, and its bytes are its values
abbrev pub AnswerLeft : Bool → List ℕ → List ℕ → List ℕ → List ℕ → List ℕ → Type 0
AnswerLeft made values room bytes room' bytes' = ResultLeft made (emptied 0) (answer_left values room) room bytes room' bytes'
