-- Reading a text piece by piece: a reader, and the list that its numbers go into.
use Rattle.std.specs.Prelude.{ℕ, ◌+◌, min, true, false, Some, None, List, [], ◌∷◌, length, take, set}
use Rattle.definitions.specs.Text.{is_blank, is_digit, printed}
use Rattle.grouping_text.specs.declared.Reader.{Reader}
use Rattle.grouping_text.specs.Numbers.{grown_by, Spelling, asked_in, answered}

-- before the first byte
abbrev pub fresh : Reader
fresh = record { good = true; value = None; count = 0 }

-- a reader with the list that is lent to it
pub record Held : Type 0 where
  pub reader : Reader
  pub numbers : List ℕ

abbrev pub held : Reader → List ℕ → Held
held r l = record { reader = r; numbers = l }

-- the number that is being read, if there is one, goes into the list, as far as there is room
unfoldable pub closed : Held → Held
closed h = elim h.reader.value [
  | Some n ↦ held (record { good = h.reader.good; value = None; count = min (h.reader.count + 1) (length h.numbers) }) (set h.numbers h.reader.count n)
  | None ↦ h
]

-- a digit more
unfoldable pub grown : ℕ → Held → Held
grown b h = held (record { good = h.reader.good; value = Some (grown_by b h.reader.value); count = h.reader.count }) h.numbers

-- a byte that is neither digit nor blank: the number before it is none, and nothing behind it is looked at
unfoldable pub spoilt : Held → Held
spoilt h = held (record { good = false; value = None; count = h.reader.count }) h.numbers

-- one byte
unfoldable pub byte_in : ℕ → Held → Held
byte_in b h = elim h.reader.good [ true ↦ elim (is_digit b) [ true ↦ grown b h | false ↦ elim (is_blank b) [ true ↦ closed h | false ↦ spoilt h ] ] | false ↦ h ]

-- a piece of the text
unfoldable pub fed : List ℕ → Held → Held
fed [] h = h
fed (b ∷ bs) h = fed bs (byte_in b h)

-- all its pieces
unfoldable pub fed_all : List (List ℕ) → Held → Held
fed_all [] h = h
fed_all (p ∷ ps) h = fed_all ps (fed p h)

-- what was read once the text has ended
unfoldable pub taken : Held → Spelling
taken h = record { numbers = take (closed h).reader.count (closed h).numbers; whole = (closed h).reader.good }

-- what is then printed
unfoldable pub said : Held → List ℕ
said h = printed (answered (asked_in (taken h).numbers (taken h).whole))
