-- What the elements of lists are in bytes: by a number, of a width in bytes.
use Rattle.std.specs.Prelude.{◌≡◌, ℕ, ◌*◌, ◌/◌, ◌%◌, ◌<◌, ◌≤◌, List, length, get_or, refl}
use Rattle.std.specs.Float.{nan, binary64}
use Rattle.std.specs.Float.Ieee.{to_bits, of_bits}
use Rattle.std.proofs.Common.{arith}
use Rattle.definitions.specs.Lists.{tab}
use Rattle.byte_lists.specs.Bytes.{word_at, words_of, ints_of, numbers_of, floats_of, byte_of, bytes_of, bytes_of_ints, bytes_of_numbers, bytes_of_floats}

-- elements of w bytes each, at most 8: a list that bytes spell is the elements of their numbers, and a list's bytes are those of its elements' numbers
pub record ElementLaws {A : Type 0} (w : ℕ) (code : A → ℕ) (element : ℕ → A) (list_of : List ℕ → List A) (list_bytes : List A → List ℕ) : Type 0 where
  pub some : 0 < w
  pub most : w ≤ 8
  pub reads : (bytes : List ℕ) → list_of bytes ≡ tab (λ k. element (word_at w bytes k)) (length bytes / w)
  pub default : A
  pub spells : (xs : List A) → list_bytes xs ≡ tab (λ i. byte_of (code (get_or xs (i / w) default)) (i % w)) (length xs * w)

pub int_laws : ElementLaws 4 (λ x. x) (λ n. n) ints_of bytes_of_ints
unfolding words_of bytes_of
int_laws = record { some = omega arith; most = omega arith; reads = λ bytes. refl; default = 0; spells = λ xs. refl }

pub number_laws : ElementLaws 8 (λ x. x) (λ n. n) numbers_of bytes_of_numbers
unfolding words_of bytes_of
number_laws = record { some = omega arith; most = omega arith; reads = λ bytes. refl; default = 0; spells = λ xs. refl }

pub float_laws : ElementLaws 8 (to_bits binary64) (of_bits binary64) floats_of bytes_of_floats
unfolding floats_of bytes_of_floats
float_laws = record { some = omega arith; most = omega arith; reads = λ bytes. refl; default = nan; spells = λ xs. refl }
