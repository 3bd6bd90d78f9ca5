-- Lists of numbers as lists of bytes, a number's lowest byte first: integers of 4 bytes, 64-bit numbers of 8, floats by their patterns of 8.
use Rattle.std.specs.Prelude.{ℕ, ◌+◌, ◌*◌, ◌/◌, ◌%◌, ◌^◌, Bool, ◌&&◌, List, [], ◌∷◌, ◌++◌, leb, eqb, Float, length, get_or, take, drop}
use Rattle.std.specs.Float.{nan, binary64}
use Rattle.std.specs.Float.Ieee.{to_bits, of_bits}
use Rattle.definitions.specs.Lists.{tab}

-- ---- from bytes

-- the number that bytes spell
unfoldable pub spelled : List ℕ → ℕ
spelled [] = 0
spelled (b ∷ bs) = b + 256 * spelled bs

-- number k of a list of numbers of w bytes each
unfoldable pub word_at : ℕ → List ℕ → ℕ → ℕ
word_at w bytes k = spelled (take w (drop (w * k) bytes))

-- all of them; bytes behind the last whole number are passed over
unfoldable pub words_of : ℕ → List ℕ → List ℕ
words_of w bytes = tab (word_at w bytes) (length bytes / w)

abbrev pub ints_of : List ℕ → List ℕ
ints_of bytes = words_of 4 bytes

abbrev pub numbers_of : List ℕ → List ℕ
numbers_of bytes = words_of 8 bytes

-- any NaN's pattern is read as the NaN
unfoldable pub floats_of : List ℕ → List Float
floats_of bytes = tab (λ k. of_bits binary64 (word_at 8 bytes k)) (length bytes / 8)

-- ---- into bytes

-- byte j of a number
unfoldable pub byte_of : ℕ → ℕ → ℕ
byte_of x j = x / 2 ^ (8 * j) % 256

-- numbers of w bytes each
unfoldable pub bytes_of : ℕ → List ℕ → List ℕ
bytes_of w xs = tab (λ i. byte_of (get_or xs (i / w) 0) (i % w)) (length xs * w)

abbrev pub bytes_of_ints : List ℕ → List ℕ
bytes_of_ints xs = bytes_of 4 xs

abbrev pub bytes_of_numbers : List ℕ → List ℕ
bytes_of_numbers xs = bytes_of 8 xs

-- a NaN is written as 7FF8000000000000
unfoldable pub bytes_of_floats : List Float → List ℕ
bytes_of_floats xs = tab (λ i. byte_of (to_bits binary64 (get_or xs (i / 8) nan)) (i % 8)) (length xs * 8)

-- ---- what fits

-- so many bytes are whole numbers of w bytes, and a list has room for them
unfoldable pub readable : ℕ → ℕ → ℕ → Bool
readable w bytes room = eqb (bytes % w) 0 && leb (bytes / w) room

-- so many bytes are whole numbers of w bytes, and have room for a list of them
unfoldable pub writable : ℕ → ℕ → ℕ → Bool
writable w list bytes = eqb (bytes % w) 0 && leb list (bytes / w)

-- a list with its front written over, the rest kept
unfoldable pub over : {A : Type 0} → List A → List A → List A
over front lent = front ++ drop (length front) lent
