-- A list whose front a loop writes over, element by element or part by part, and the bytes of one number.
use Prim.Native.Nat.{ℕ, zero, suc, ◌+◌, ◌-◌, ◌*◌, ◌/◌, ◌%◌, ◌^◌, ◌<◌, ◌≤◌}
use mathlib.Core.Path.{◌≡◌, refl, sym, ap, ◌∙◌}
use mathlib.Core.List.{List, [], ◌∷◌, ◌++◌, append_assoc}
use native.Mathlib.Nat.{mul-zero, add-zero, mul-add-div, div-eq_of_lt, div-one, suc-mul, zero-mul, mul-le-mul_right, le-div_iff_mul-le}
use native.Mathlib.Omega.{arith}
use borrow.Rule.Slice.PartMut.{put_mid}
use mathlib.Core.Bool.{Bool, true}
use Rattle.std.proofs.Common.{Fits, w8}
use Rattle.std.specs.Int.{w64, to_le_bytes, from_le_bytes}
use Rattle.std.proofs.lemmas.Nat.{div-mul-add, mod-mul-add}
use lib.ListN.{length, get_or, set, take, drop, replicate, length-append, length-replicate, length-drop}
use Rattle.std.proofs.lemmas.List.{drop-replicate, get_or_read}
use lib.Seq.{drop-drop, take_at, drop_at}
use Rattle.definitions.specs.Lists.{tab, padded}
use Rattle.laws.proofs.Lists.{length_tab, tab_append, tab_cong, tab_is}
use Rattle.laws.proofs.Growing.{tab_more}
use Rattle.byte_lists.specs.Bytes.{spelled, word_at, byte_of, readable, writable, over}
use Rattle.byte_lists.proofs.Laws.{piece, readable_room, writable_room}
use Rattle.byte_lists.proofs.RoundTrip.{power}

module _ {A : Type 0} (f : ℕ → A) (lent : List A) where
  pub over_none_yet : lent ≡ over (tab f 0) lent
  unfolding over tab
  over_none_yet = refl

  over_is : (k : ℕ) → over (tab f k) lent ≡ tab f k ++ drop k lent
  unfolding over
  over_is k = rw (length_tab f k)

  pub over_more : (k : ℕ) (room : List A) (v : A) → room ≡ over (tab f k) lent → k < length lent → v ≡ f k → set room k v ≡ over (tab f (k + 1)) lent
  over_more k room v e l g = tab_more f k room lent v l (e ∙ over_is k) g ∙ sym (over_is (k + 1))

  -- w elements at once
  over_part : (k w : ℕ) (room part : List A) → room ≡ over (tab f k) lent → part ≡ tab (λ j. f (k + j)) w → put_mid k w room part ≡ over (tab f (k + w)) lent
  unfolding over
  over_part k w room part e g =
      rw (e, g, length_tab f k, length_tab f (k + w), take_at (tab f k) (drop k lent) k (length_tab f k), drop_at (tab f k) (drop k lent) k (length_tab f k), drop-drop w k lent, tab_append f k w, append_assoc (tab f k) (tab (λ j. f (k + j)) w) (drop (k + w) lent))

-- over zeros
pub over_zeros : {A : Type 0} (z : A) (f : ℕ → A) (n m : ℕ) → over (tab f n) (replicate m z) ≡ padded z m (tab f n)
unfolding over padded
over_zeros z f n m = rw (drop-replicate (length (tab f n)) m z)

-- ---- element k, of w bytes, by the test that the code makes

whole : (w n m k : ℕ) → 0 < w → n ≤ m / w → k < n → k * w + w ≤ m
whole w n m k some h l = let t : suc k ≤ n = omega arith in omega (arith, suc-mul k w, mul-le-mul_right w t, (le-div_iff_mul-le {x = n} some).0 h)

pub place_in_room : (w m n k : ℕ) {r : Bool} → 0 < w → r ≡ readable w m n → r ≡ true → w * k + w ≤ m → k < n
place_in_room w m n k some e t l = let h : suc k ≤ m / w = (le-div_iff_mul-le {x = suc k} some).1 (omega (arith, suc-mul k w)) in omega (arith, readable_room w m n (sym e ∙ t))

pub end_in_bytes : {w v m n k : ℕ} {r : Bool} → 0 < w → v ≡ w → r ≡ writable w n m → r ≡ true → k < n → (k + 1) * v ≤ m
end_in_bytes {w} {v} {m} {n} {k} some s e t l = let h = whole w n m k some (writable_room w n m (sym e ∙ t)) l in rw (s) (omega arith)

-- ---- bytes of one number

eight : (b : List ℕ) → length b ≡ 8 → from_le_bytes w64 b ≡ spelled b
unfolding spelled tab
eight b h = omega (arith, ap spelled (tab_is 0 b (λ j. get_or b j 0) 8 h (λ j _. refl)))

with_zeros : (b : List ℕ) (n : ℕ) → spelled (b ++ replicate n 0) ≡ spelled b
unfolding spelled
with_zeros [] zero = refl
with_zeros [] (suc n) = rw (with_zeros [] n)
with_zeros (x ∷ b) n = rw (with_zeros b n)

pub spelled_of : (b : List ℕ) (n : ℕ) → length b ≤ 8 → n ≡ from_le_bytes w64 (put_mid 0 (length b) (replicate 8 0) b) → n ≡ spelled b
spelled_of b n h e =
    let zeros = drop (length b) (replicate 8 0) in
    let long : length (b ++ zeros) ≡ 8 = rw (length-append b zeros, drop-replicate {X = ℕ} (length b) 8 0, length-replicate {A = ℕ} (8 - length b) 0) (omega arith) in
    e ∙ eight (b ++ zeros) long ∙ rw (drop-replicate {X = ℕ} (length b) 8 0) (with_zeros b (8 - length b))

below : (f : ℕ → ℕ) (w : ℕ) → ((j : ℕ) → f j < 256) → spelled (tab f w) < 2 ^ (8 * w)
unfolding spelled tab
below f zero h = omega arith
below f (suc w) h = let r = below (λ j. f (suc j)) w (λ j. h (suc j)) in rw (power w) (omega (arith, h 0))

-- what is left of bytes after k chunks of w
pub record Left (w : ℕ) (bytes rest : List ℕ) (k : ℕ) : Type 0 where
  pub within : w * k ≤ length bytes
  pub same : rest ≡ drop (w * k) bytes

pub left_all : (w : ℕ) (bytes : List ℕ) → Left w bytes bytes 0
left_all w bytes = record { within = omega arith; same = rw (mul-zero w) }

module _ {w k : ℕ} {bytes rest : List ℕ} (some : 0 < w) (h : Left w bytes rest k) where
  pub chunk_more : (chunk next : List ℕ) → rest ≡ chunk ++ next → length chunk ≡ w → Left w bytes next (k + 1) × ((w * k + w ≤ length bytes) × (spelled chunk ≡ word_at w bytes k))
  unfolding word_at
  chunk_more chunk next e l =
      let t = sym h.same ∙ e in
      let inside : w * k + w ≤ length bytes = omega (arith, h.within, length-drop (w * k) bytes, ap length t, length-append chunk next) in
      let n : w * (k + 1) ≡ w * k + w = omega arith in
      (record { within = rw (n) inside; same = rw (n, ← drop-drop w (w * k) bytes, t) (sym (drop_at chunk next w l)) }, (inside, ap spelled (sym (rw (t) (take_at chunk next w l)))))

  pub chunk_last : length rest < w → k ≡ length bytes / w
  chunk_last l =
      let r = length bytes - w * k in
      let e : length bytes ≡ w * k + r = omega (arith, h.within) in
      let b : r < w = omega (arith, ap length h.same, length-drop (w * k) bytes) in
      sym (ap (λ t. t / w) e ∙ mul-add-div some k r ∙ ap (λ t. k + t) (div-eq_of_lt b) ∙ add-zero k)

pub word_below : (w k : ℕ) (b : List ℕ) → ((i : ℕ) → Fits w8 (get_or b i 0)) → w * k + w ≤ length b → word_at w b k < 2 ^ (8 * w)
unfolding word_at
word_below w k b h l = rw (piece w (w * k) b l) (below (λ j. get_or b (w * k + j) 0) w (λ j. let f = h (w * k + j) in omega arith))

all_bytes : (n : ℕ) → to_le_bytes w64 n ≡ tab (byte_of n) 8
unfolding tab byte_of
all_bytes n = rw (div-one n)

pub low_bytes : (n w : ℕ) → w ≤ 8 → take w (to_le_bytes w64 n) ≡ tab (byte_of n) w
low_bytes n w h =
    let e : w + (8 - w) ≡ 8 = omega arith in
    ap (take w) (all_bytes n ∙ ap (tab (byte_of n)) (sym e) ∙ tab_append (byte_of n) w (8 - w)) ∙ take_at (tab (byte_of n) w) (tab (λ i. byte_of n (w + i)) (8 - w)) w (length_tab (byte_of n) w)

-- ---- a list's bytes, element by element

module _ {A : Type 0} (code : A → ℕ) (d : A) (xs : List A) (w : ℕ) where
  abbrev pub laid : ℕ → ℕ
  laid i = byte_of (code (get_or xs (i / w) d)) (i % w)

  here : (x : A) (k : ℕ) → x ≡ get_or xs k d → tab (byte_of (code x)) w ≡ tab (λ j. laid (k * w + j)) w
  here x k e = tab_cong _ _ w (λ j h. rw (div-mul-add k w j h, mod-mul-add k w j h, ← e))

  pub over_none : (lent : List ℕ) → lent ≡ over (tab laid (0 * w)) lent
  unfolding over tab
  over_none lent = rw (zero-mul w)

  pub over_next : (v k : ℕ) (x : A) (lent bytes part : List ℕ) → v ≡ w → bytes ≡ over (tab laid (k * w)) lent → x ≡ get_or xs k x → k < length xs → part ≡ tab (byte_of (code x)) w
      → put_mid (k * v) ((k + 1) * v - k * v) bytes part ≡ over (tab laid ((k + 1) * w)) lent
  over_next v k x lent bytes part s e f l g =
      let t : (k + 1) * w - k * w ≡ w = omega arith in
      let n : (k + 1) * w ≡ k * w + w = omega arith in
      rw (s, t, n) (over_part laid lent (k * w) w bytes part e (g ∙ here x k (get_or_read xs k x l f d)))
