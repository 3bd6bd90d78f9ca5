-- The lists of bytes by example: little end first, and a NaN's pattern both ways.
use mathlib.Core.Path.{◌≡◌, refl}
use mathlib.Core.List.{[], ◌∷◌}
use lib.Ieee.{nan, to_bits, of_bits}
use Rattle.definitions.specs.Lists.{tab}
use Rattle.definitions.specs.Numbers.{oneᶠ}
use Rattle.byte_lists.specs.Bytes.{spelled, word_at, words_of, ints_of, floats_of, byte_of, bytes_of, bytes_of_ints, bytes_of_floats}

pub record Examples : Type 0 where
  pub ints : ints_of (4 ∷ 3 ∷ 2 ∷ 1 ∷ 255 ∷ 0 ∷ 0 ∷ 0 ∷ []) ≡ 0x01020304 ∷ 255 ∷ []
  pub int_bytes : bytes_of_ints (0x01020304 ∷ 255 ∷ []) ≡ 4 ∷ 3 ∷ 2 ∷ 1 ∷ 255 ∷ 0 ∷ 0 ∷ 0 ∷ []
  pub floats : floats_of (0 ∷ 0 ∷ 0 ∷ 0 ∷ 0 ∷ 0 ∷ 0xF0 ∷ 0x3F ∷ 1 ∷ 0 ∷ 0 ∷ 0 ∷ 0 ∷ 0 ∷ 0xF0 ∷ 0xFF ∷ []) ≡ oneᶠ ∷ nan ∷ []
  pub float_bytes : bytes_of_floats (oneᶠ ∷ nan ∷ []) ≡ 0 ∷ 0 ∷ 0 ∷ 0 ∷ 0 ∷ 0 ∷ 0xF0 ∷ 0x3F ∷ 0 ∷ 0 ∷ 0 ∷ 0 ∷ 0 ∷ 0 ∷ 0xF8 ∷ 0x7F ∷ []

pub examples : Examples
unfolding spelled word_at words_of floats_of byte_of bytes_of bytes_of_floats tab of_bits to_bits
examples = record { ints = refl; int_bytes = refl; floats = refl; float_bytes = refl }
