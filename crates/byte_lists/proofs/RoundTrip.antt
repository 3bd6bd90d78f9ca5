-- Reading what was written gives the list back, and zeros behind its bytes as zeros: integers and numbers that fit their bytes, and every float of 64 bits, its NaN among them.
use Prim.Native.Nat.{ℕ, zero, suc, ◌/◌, ◌%◌, ◌*◌, ◌^◌, ◌+◌, ◌<◌, ◌≤◌}
use mathlib.Core.Path.{◌≡◌, refl, sym, ap, ◌∙◌}
use mathlib.Core.List.{List, [], ◌∷◌, ◌++◌, append-nil}
use native.Mathlib.Nat.{mul-suc, mul_comm, zero-lt-suc, mod-add-div, div-one, div-lt_iff_lt-mul, div-div-eq-div-mul, mul-add-div, mul-add-mod_self_left, div-eq_of_lt, mod-eq_of_lt, add-zero, zero-add, suc-add, suc-mul, zero-div, le-div_iff_mul-le}
use native.Mathlib.Omega.{arith}
use lib.Dec.{T}
use lib.Ieee.{Float, nan, binary64, fits, to_bits, of_bits}
use lib.Ieee.Bits.{of_bits-to_bits, to_bits-lt}
use lib.ListN.{length, get_or, replicate, get_or-eq_default}
use lib.Pow.{pow-add, pow_pos}
use Rattle.std.proofs.lemmas.List.{get_or_default}
use Rattle.definitions.specs.Lists.{tab}
use Rattle.definitions.specs.Numbers.{zeroᶠ}
use Rattle.laws.proofs.Lists.{Each, each_imp, each_read, length_tab, get_d_tab, tab_cong, tab_append, tab_same}
use Rattle.byte_lists.specs.Bytes.{spelled, word_at, words_of, ints_of, numbers_of, floats_of, byte_of, bytes_of, bytes_of_ints, bytes_of_numbers, bytes_of_floats}
use Rattle.byte_lists.proofs.Laws.{piece, zero_pattern}

pub power : (j : ℕ) → 2 ^ (8 * suc j) ≡ 256 * 2 ^ (8 * j)
power j = rw (mul-suc 8 j, pow-add 2 (8 * j) 8) (mul_comm (2 ^ (8 * j)) 256)

lowest : (x : ℕ) → byte_of x 0 ≡ x % 256
unfolding byte_of
lowest x = rw (div-one x)

shifted : (x j : ℕ) → byte_of x (suc j) ≡ byte_of (x / 256) j
unfolding byte_of
shifted x j = rw (power j) (ap (λ t. t % 256) (sym (div-div-eq-div-mul x 256 (2 ^ (8 * j)))))

-- the bytes of a number spell it
spelled_back : (w x : ℕ) → x < 2 ^ (8 * w) → spelled (tab (byte_of x) w) ≡ x
unfolding spelled tab
spelled_back zero x h = omega arith
spelled_back (suc w) x h =
    let l : x / 256 < 2 ^ (8 * w) = (div-lt_iff_lt-mul (zero-lt-suc 255)).1 (rw (mul_comm (2 ^ (8 * w)) 256, ← (power w)) h) in
    let rest : spelled (tab (λ j. byte_of x (suc j)) w) ≡ x / 256 = ap spelled (tab_cong _ _ w (λ j _. shifted x j)) ∙ spelled_back w (x / 256) l in
    rw (rest, lowest x) (mod-add-div x 256)

-- numbers f 0, f 1, .. laid out in w bytes each
laid : (ℕ → ℕ) → ℕ → ℕ → ℕ
laid f w i = byte_of (f (i / w)) (i % w)

word_back : (f : ℕ → ℕ) (m w k : ℕ) → 0 < w → w * k + w ≤ m → f k < 2 ^ (8 * w) → word_at w (tab (laid f w) m) k ≡ f k
unfolding word_at laid
word_back f m w k p i l =
    let b = tab (laid f w) m in
    rw (piece w (w * k) b (rw (length_tab (laid f w) m) i))
    (ap spelled (tab_cong (λ j. get_or b (w * k + j) 0) (byte_of (f k)) w (λ j q.
    get_d_tab (laid f w) m (w * k + j) 0 (omega arith)
    ∙ rw (mul-add-div p k j, mul-add-mod_self_left w k j, div-eq_of_lt q, mod-eq_of_lt q, add-zero k)))
    ∙ spelled_back w (f k) l)

words_back : {A : Type 0} (g : ℕ → A) (f : ℕ → ℕ) (m w : ℕ) → 0 < w → (of : ℕ → A) → ((k : ℕ) → (f k < 2 ^ (8 * w)) × (of (f k) ≡ g k))
    → tab (λ k. of (word_at w (tab (laid f w) m) k)) (length (tab (laid f w) m) / w) ≡ tab g (m / w)
words_back g f m w p of back =
    rw (length_tab (laid f w) m) (tab_cong _ g (m / w) (λ k h. ap of (word_back f m w k p (inside k h) (back k).0) ∙ (back k).1))
  where
    inside : (k : ℕ) → k < m / w → w * k + w ≤ m
    inside k h = omega (arith, (le-div_iff_mul-le {x = suc k} p).0 h, suc-mul k w, mul_comm w k)

-- ---- a list, with zeros behind its bytes

elements : {A : Type 0} (z : A) (xs : List A) (n : ℕ) → tab (λ k. get_or xs k z) (length xs + n) ≡ xs ++ replicate n z
unfolding tab
elements z [] n = rw (zero-add n) (tab_same (λ k. get_or [] k z) z n (λ i. refl))
elements z (x ∷ xs) n = rw (suc-add (length xs) n) (ap (λ t. x ∷ t) (elements z xs n))

-- by their patterns, w bytes each; zero's pattern is 0, and d stands where no element is
module _ {A : Type 0} (pattern : A → ℕ) (of : ℕ → A) (z d : A) (none : pattern z ≡ 0) (back : of 0 ≡ z) (w : ℕ) (some : 0 < w) where
  abbrev Held : A → Type 0
  Held x = (pattern x < 2 ^ (8 * w)) × (of (pattern x) ≡ x)

  abbrev bytes : List A → List ℕ
  bytes xs = tab (λ i. byte_of (pattern (get_or xs (i / w) d)) (i % w)) (length xs * w)

  number : List A → ℕ → ℕ
  number xs k = pattern (get_or xs k z)

  zero_held : Held z
  zero_held = (rw none (pow_pos (8 * w)), rw none back)

  spelled_out : (xs : List A) (t : ℕ) → bytes xs ++ replicate t 0 ≡ tab (laid (number xs) w) (length xs * w + t)
  unfolding laid number byte_of
  spelled_out xs t =
      let n = length xs * w in
      sym (tab_append (laid (number xs) w) n t
      ∙ rw (
        tab_cong (laid (number xs) w) (λ i. byte_of (pattern (get_or xs (i / w) d)) (i % w)) n (λ i h. rw (get_or_default xs (i / w) d z ((div-lt_iff_lt-mul some).1 h))),
        tab_same (λ i. laid (number xs) w (n + i)) 0 t (λ i. beyond (n + i) ((le-div_iff_mul-le some).1 (at_most n i))),
      ))
    where
      at_most : (x y : ℕ) → x ≤ x + y
      at_most x y = omega arith

      beyond : (i : ℕ) → length xs ≤ i / w → laid (number xs) w i ≡ 0
      beyond i h = rw (get_or-eq_default xs z h, none, zero-div (2 ^ (8 * (i % w))))

  pub read_back : (xs : List A) (t : ℕ) → Each Held xs
      → tab (λ k. of (word_at w (bytes xs ++ replicate t 0) k)) (length (bytes xs ++ replicate t 0) / w) ≡ xs ++ replicate (t / w) z
  unfolding number
  read_back xs t e =
      rw (spelled_out xs t)
      (words_back (λ k. get_or xs k z) (number xs) (length xs * w + t) w some of (λ k. each_read xs k z e zero_held) ∙ rw (mul_comm (length xs) w, mul-add-div some (length xs) t) (elements z xs (t / w)))

-- ---- for each width

module _ (xs : List ℕ) (t : ℕ) where
  pub ints_behind : Each (λ x. x < 2 ^ 32) xs → ints_of (bytes_of_ints xs ++ replicate t 0) ≡ xs ++ replicate (t / 4) 0
  unfolding words_of bytes_of
  ints_behind e = read_back (λ x. x) (λ x. x) 0 0 refl refl 4 (omega arith) xs t (each_imp (λ x h. (h, refl)) e)

  pub numbers_behind : Each (λ x. x < 2 ^ 64) xs → numbers_of (bytes_of_numbers xs ++ replicate t 0) ≡ xs ++ replicate (t / 8) 0
  unfolding words_of bytes_of
  numbers_behind e = read_back (λ x. x) (λ x. x) 0 0 refl refl 8 (omega arith) xs t (each_imp (λ x h. (h, refl)) e)

pub floats_behind : (xs : List Float) (t : ℕ) → Each (λ x. T (fits binary64 x)) xs → floats_of (bytes_of_floats xs ++ replicate t 0) ≡ xs ++ replicate (t / 8) zeroᶠ
unfolding floats_of bytes_of_floats
floats_behind xs t e =
    read_back (to_bits binary64) (of_bits binary64) zeroᶠ nan zero_pattern refl 8 (omega arith) xs t (each_imp (λ x h. (to_bits-lt binary64 x h, of_bits-to_bits binary64 x h)) e)

-- ---- with nothing behind

pub ints_back : (xs : List ℕ) → Each (λ x. x < 2 ^ 32) xs → ints_of (bytes_of_ints xs) ≡ xs
ints_back xs e = ap ints_of (sym (append-nil (bytes_of_ints xs))) ∙ ints_behind xs 0 e ∙ append-nil xs

pub numbers_back : (xs : List ℕ) → Each (λ x. x < 2 ^ 64) xs → numbers_of (bytes_of_numbers xs) ≡ xs
numbers_back xs e = ap numbers_of (sym (append-nil (bytes_of_numbers xs))) ∙ numbers_behind xs 0 e ∙ append-nil xs

pub floats_back : (xs : List Float) → Each (λ x. T (fits binary64 x)) xs → floats_of (bytes_of_floats xs) ≡ xs
floats_back xs e = ap floats_of (sym (append-nil (bytes_of_floats xs))) ∙ floats_behind xs 0 e ∙ append-nil xs
