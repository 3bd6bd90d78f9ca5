-- What is read stands in the front of its room, and is as long as the bytes say; zeros behind a list that is written are zeros behind its bytes.
use Prim.Native.Nat.{ℕ, zero, suc, ◌/◌, ◌%◌, ◌*◌, ◌^◌, ◌+◌, ◌-◌, ◌<◌, ◌≤◌}
use mathlib.Core.Path.{◌≡◌, refl, sym, ap, ◌∙◌}
use mathlib.Core.Bool.{Bool, true, false}
use mathlib.Core.List.{List, [], ◌∷◌, ◌++◌}
use native.Mathlib.Nat.{add-zero, add-suc, suc-add, zero-div, le_trans, mul-le-mul_right, div-lt_iff_lt-mul, le-div_iff_mul-le}
use native.Mathlib.Omega.{arith}
use Rattle.std.proofs.lemmas.Bool.{and_parts, ltb-true, ltb-false, leb-true}
use lib.Dec.{ltb, leb, eqb}
use lib.Ieee.{Float, nan, binary64, of_bits, to_bits}
use lib.ListN.{length, get_or, take, drop, replicate, length-append, length-replicate, get_or-eq_default}
use Rattle.std.proofs.lemmas.List.{get_or_default}
use lib.Seq.{take_at, drop-cons}
use Rattle.definitions.specs.Lists.{tab, padded}
use Rattle.definitions.specs.Numbers.{zeroᶠ}
use Rattle.laws.proofs.Lists.{length_tab, get_d_tab, tab_cong, tab_is}
use Rattle.byte_lists.specs.Bytes.{over, byte_of, bytes_of, bytes_of_ints, bytes_of_floats, readable, writable}

pub front : {A : Type 0} (f : ℕ → A) (n : ℕ) (room new : List A) → new ≡ over (tab f n) room → take n new ≡ tab f n
unfolding over
front f n room new e = rw (e) (take_at (tab f n) (drop (length (tab f n)) room) n (length_tab f n))

pub room_for_lem : {A : Type 0} (f : ℕ → A) (n : ℕ) (room new : List A) → new ≡ over (tab f n) room → n ≤ length new
unfolding over
room_for_lem f n room new e = rw (e, length-append (tab f n) (drop (length (tab f n)) room), length_tab f n) (omega arith)

-- ---- a number's bytes in a list

pub piece : (w at : ℕ) (b : List ℕ) → at + w ≤ length b → take w (drop at b) ≡ tab (λ j. get_or b (at + j) 0) w
unfolding tab
piece zero at b h = refl
piece (suc w) at b h =
    let l : at < length b = omega arith in
    rw (drop-cons b at 0 l, add-zero at) (ap (λ t. get_or b at 0 ∷ t) (piece w (suc at) b (omega arith) ∙ tab_cong _ _ w (λ j _. rw (suc-add at j, add-suc at j))))

-- ---- a list with zeros behind it, in bytes

byte_of_zero : (j : ℕ) → byte_of 0 j ≡ 0
unfolding byte_of
byte_of_zero j = rw (zero-div (2 ^ (8 * j)))

module _ {A : Type 0} (z : A) where
  get_d_same : (n i : ℕ) → get_or (replicate n z) i z ≡ z
  get_d_same zero i = refl
  get_d_same (suc n) zero = refl
  get_d_same (suc n) (suc i) = get_d_same n i

  get_d_zeros : (xs : List A) (n i : ℕ) → get_or (xs ++ replicate n z) i z ≡ get_or xs i z
  get_d_zeros [] n i = get_d_same n i
  get_d_zeros (x ∷ xs) n zero = refl
  get_d_zeros (x ∷ xs) n (suc i) = get_d_zeros xs n i

-- elements by their patterns, w bytes each, where zero's pattern is 0
module _ {A : Type 0} (pattern : A → ℕ) (z d : A) (none : pattern z ≡ 0) (w : ℕ) (some : 0 < w) where
  abbrev laid : A → List A → ℕ → ℕ
  laid e xs i = byte_of (pattern (get_or xs (i / w) e)) (i % w)

  at : (xs : List A) (m i : ℕ) (inside : Bool) → ltb i (length xs * w) ≡ inside → get_or (padded 0 m (tab (laid d xs) (length xs * w))) i 0 ≡ laid z xs i
  unfolding padded
  at xs m i true e =
      let h : i < length xs * w = ltb-true i (length xs * w) e in
      rw (get_d_zeros 0 (tab (laid d xs) (length xs * w)) (m - length (tab (laid d xs) (length xs * w))) i, get_d_tab (laid d xs) (length xs * w) i 0 h, get_or_default xs (i / w) d z ((div-lt_iff_lt-mul some).1 h))
  at xs m i false e =
      let h : length xs * w ≤ i = ltb-false i (length xs * w) e in
      let l : length (tab (laid d xs) (length xs * w)) ≤ i = rw (length_tab (laid d xs) (length xs * w)) h in
      rw (get_d_zeros 0 (tab (laid d xs) (length xs * w)) (m - length (tab (laid d xs) (length xs * w))) i, get_or-eq_default (tab (laid d xs) (length xs * w)) 0 l, get_or-eq_default xs z ((le-div_iff_mul-le some).1 h), none, byte_of_zero (i % w))

  whole : (m : ℕ) (xs : List A) → length xs * w ≤ m → padded 0 m (tab (laid d xs) (length xs * w)) ≡ tab (laid z xs) m
  unfolding padded
  whole m xs h =
      let long : length (padded 0 m (tab (laid d xs) (length xs * w))) ≡ m = rw (length-append (tab (laid d xs) (length xs * w)) (replicate (m - length (tab (laid d xs) (length xs * w))) 0), length-replicate {A = ℕ} (m - length (tab (laid d xs) (length xs * w))) 0, length_tab (laid d xs) (length xs * w)) (omega arith) in
      tab_is 0 (padded 0 m (tab (laid d xs) (length xs * w))) (laid z xs) m long (λ i _. at xs m i (ltb i (length xs * w)) refl)

  pub laid_padded : (m n : ℕ) (xs : List A) → length (padded z n xs) * w ≤ m → padded 0 m (tab (laid d (padded z n xs)) (length (padded z n xs) * w)) ≡ padded 0 m (tab (laid d xs) (length xs * w))
  unfolding padded
  laid_padded m n xs h =
      let shorter : length xs ≤ length (padded z n xs) = rw (length-append xs (replicate (n - length xs) z)) (omega arith) in
      whole m (padded z n xs) h ∙ tab_cong (laid z (padded z n xs)) (laid z xs) m (λ i _. rw (get_d_zeros z xs (n - length xs) (i / w))) ∙ sym (whole m xs (le_trans (mul-le-mul_right w shorter) h))

pub ints_padded : (m n : ℕ) (xs : List ℕ) → length (padded 0 n xs) * 4 ≤ m → padded 0 m (bytes_of_ints (padded 0 n xs)) ≡ padded 0 m (bytes_of_ints xs)
unfolding bytes_of
ints_padded m n xs h = laid_padded (λ x. x) 0 0 refl 4 (omega arith) m n xs h

pub zero_pattern : to_bits binary64 zeroᶠ ≡ 0
unfolding of_bits to_bits
zero_pattern = refl

pub floats_padded : (m n : ℕ) (xs : List Float) → length (padded zeroᶠ n xs) * 8 ≤ m → padded 0 m (bytes_of_floats (padded zeroᶠ n xs)) ≡ padded 0 m (bytes_of_floats xs)
unfolding bytes_of_floats
floats_padded m n xs h = laid_padded (to_bits binary64) zeroᶠ nan zero_pattern 8 (omega arith) m n xs h

-- ---- what a test that held tells

pub readable_room : (w bytes room : ℕ) → readable w bytes room ≡ true → bytes / w ≤ room
unfolding readable
readable_room w bytes room e = leb-true (bytes / w) room (and_parts (eqb (bytes % w) 0) (leb (bytes / w) room) e).1

pub writable_room : (w list bytes : ℕ) → writable w list bytes ≡ true → list ≤ bytes / w
unfolding writable
writable_room w list bytes e = leb-true list (bytes / w) (and_parts (eqb (bytes % w) 0) (leb list (bytes / w)) e).1

pub writable_holds : (w list bytes : ℕ) → 0 < w → writable w list bytes ≡ true → list * w ≤ bytes
writable_holds w list bytes some e = (le-div_iff_mul-le some).0 (writable_room w list bytes e)
