-- One list laid over the front of another, element by element: the loops that clear and that copy.
use mathlib.Core.Path.{◌≡◌, refl, ap}
use mathlib.Core.List.{List, [], ◌∷◌, ◌++◌, append-nil}
use mathlib.Core.Logic.{◌⊎◌, ⊎_elim, inl, inr}
use Prim.Native.Nat.{ℕ, zero, suc, ◌+◌, ◌<◌, ◌≤◌}
use Rattle.std.specs.Prelude.{min}
use native.Mathlib.Nat.{not-suc-le-zero, le_of_suc-le-suc}
use native.Mathlib.Decide.{dec_le}
use native.Mathlib.Numerals.{add-one}
use lib.ListN.{length, get_or, set, take, drop, replicate, length-set, drop_of_length-le}
use native.Mathlib.Omega.{arith}
use lib.Seq.{take_all, drop-length}
use Rattle.numbers.specs.Copied.{copied}

module _ {A : Type 0} (z : A) where
  over_suc : (n : ℕ) (s d : List A) → n < length s → n < length d → set (take n s ++ drop n d) n (get_or s n z) ≡ take (suc n) s ++ drop (suc n) d
  over_suc n [] d h k = absurd (not-suc-le-zero h)
  over_suc n (x ∷ s) [] h k = absurd (not-suc-le-zero k)
  over_suc zero (x ∷ s) (y ∷ d) h k = refl
  over_suc (suc n) (x ∷ s) (y ∷ d) h k = ap (λ (t : List A). x ∷ t) (over_suc n s d (le_of_suc-le-suc h) (le_of_suc-le-suc k))

  over_more : (n : ℕ) (s d l : List A) → n < length s → n < length d → l ≡ take n s ++ drop n d → set l n (get_or s n z) ≡ take (n + 1) s ++ drop (n + 1) d
  over_more n s d l h k e = rw (e, add-one) (over_suc n s d h k)

-- the first n elements of a list are a source's, the others as they were
pub record Over {A : Type 0} (s d l : List A) (n : ℕ) : Type 0 where
  pub in_target : n ≤ length d
  pub in_source : n ≤ length s
  pub long : length l ≡ length d
  pub front : l ≡ take n s ++ drop n d

module _ {A : Type 0} {s d l : List A} {n : ℕ} where
  pub over_next : (z : A) → Over s d l n → n < length s → n < length d → Over s d (set l n (get_or s n z)) (n + 1)
  over_next z o h k = record { in_target = omega arith; in_source = omega arith; long = simp length-set o.long; front = over_more z n s d l h k o.front }

  -- the source is passed whole, or the target is full
  pub over_source : Over s d l n → length s ≤ n → l ≡ copied s d
  unfolding copied
  over_source o h =
      let m : n ≡ length s = omega arith in
      let g : length s ≤ length d = omega arith in
      rw (o.front, m, take_all (length s) s (omega arith), take_all (length d) s g)

  pub over_target : Over s d l n → length d ≤ n → l ≡ copied s d
  unfolding copied
  over_target o h =
      let m : n ≡ length d = omega arith in
      let g : length d ≤ length s = omega arith in
      rw (o.front, m, drop-length d, drop_of_length-le d g)

-- the front that both lists have is the source's, the rest the target's
pub copied_at : {A : Type 0} (s d : List A) (n : ℕ) → n ≡ min (length s) (length d) → take n s ++ drop n d ≡ copied s d
unfolding copied
copied_at s d n e = ⊎_elim shorter longer (either (length s) (length d))
  where
    either : (a b : ℕ) → (a ≤ b) ⊎ (b ≤ a)
    either a b = elim (dec_le a b) [ yes h ↦ inl h | no h ↦ inr (omega arith) ]

    shorter : length s ≤ length d → take n s ++ drop n d ≡ take (length d) s ++ drop (length s) d
    shorter h = let m : n ≡ length s = omega arith in rw (m, take_all (length s) s (omega arith), take_all (length d) s h)

    longer : length d ≤ length s → take n s ++ drop n d ≡ take (length d) s ++ drop (length s) d
    longer h = let m : n ≡ length d = omega arith in rw (m, drop-length d, drop_of_length-le d h)

-- a source as long as its target is all of it
pub copied_whole : {A : Type 0} (s d : List A) → length s ≡ length d → copied s d ≡ s
unfolding copied
copied_whole s d h = let e : length d ≤ length s = omega arith in rw (take_all (length d) s (omega arith), drop_of_length-le d e) (append-nil s)

-- the first n elements of a list are v, the others as they were
pub record Filled {A : Type 0} (v : A) (d l : List A) (n : ℕ) : Type 0 where
  pub within : n ≤ length d
  pub long : length l ≡ length d
  pub front : l ≡ replicate n v ++ drop n d

module _ {A : Type 0} (v : A) where
  fill_suc : (n : ℕ) (d : List A) → n < length d → set (replicate n v ++ drop n d) n v ≡ replicate (suc n) v ++ drop (suc n) d
  fill_suc n [] h = absurd (not-suc-le-zero h)
  fill_suc zero (x ∷ d) h = refl
  fill_suc (suc n) (x ∷ d) h = ap (λ (t : List A). v ∷ t) (fill_suc n d (le_of_suc-le-suc h))

module _ {A : Type 0} {v : A} {d l : List A} {n : ℕ} where
  pub filled_more : Filled v d l n → n < length d → Filled v d (set l n v) (n + 1)
  filled_more o h = record { within = omega arith; long = simp length-set o.long; front = rw (o.front, add-one) (fill_suc v n d h) }

  pub filled : Filled v d l n → length d ≤ n → l ≡ replicate (length d) v
  filled o h = let m : n ≡ length d = omega arith in rw (o.front, m, drop-length d, append-nil)
