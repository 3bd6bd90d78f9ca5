-- A pass that looks at one element a turn: what was found, or is found in what is left.
use mathlib.Core.Path.{◌≡◌, refl, sym, ◌∙◌}
use mathlib.Core.Bool.{Bool, true, false, ◌||◌}
use mathlib.Core.List.{List, [], ◌∷◌, foldl-append}
use Prim.Native.Nat.{ℕ, suc, ◌+◌, ◌-◌, ◌<◌, ◌≤◌}
use native.Mathlib.Numerals.{add-one}
use native.Mathlib.Omega.{arith}
use lib.Dec.{leb}
use lib.ListN.{length, get_or, take, drop, length-drop}
use lib.Seq.{drop-cons, drop-length, take-suc}
use lib.Ieee.{Float, nan}
use borrow.Author.Tests.{lt-ltb, le-ltb, lt-leb}
use Rattle.definitions.specs.Lists.{any, falls}
use Rattle.definitions.specs.Numbers.{zeroᶠ, magnitude, larger, largest}

module _ {A : Type 0} (f : A → Bool) (xs : List A) (i : ℕ) (d : A) (h : i < length xs) where
  any_found : f (get_or xs i d) ≡ true → any f (drop i xs) ≡ true
  unfolding any
  any_found e = rw (drop-cons xs i d h, e)

  any_passed : f (get_or xs i d) ≡ false → any f (drop i xs) ≡ any f (drop (i + 1) xs)
  unfolding any
  any_passed e = rw (drop-cons xs i d h, e, add-one)

any_end : {A : Type 0} (f : A → Bool) (xs : List A) (i : ℕ) → i ≡ length xs → any f (drop i xs) ≡ false
unfolding any
any_end f xs i h = rw (h, drop-length xs)

-- A scan that goes on to the end: something was found, or is found in what is left.
module _ (whole left found : Bool) (e : whole ≡ (found || left)) where
  pub went_hit : (now next : Bool) → now ≡ true → left ≡ true → whole ≡ (now || next)
  went_hit now next n t = e ∙ rw (t, n) (either found)
    where
      either : (b : Bool) → (b || true) ≡ true
      either true = refl
      either false = refl

  pub went_miss : (now next : Bool) → now ≡ found → left ≡ next → whole ≡ (now || next)
  went_miss now next n t = e ∙ rw (t, n)

  pub went_end : left ≡ false → found ≡ whole
  went_end t = sym (e ∙ rw t (alone found))
    where
      alone : (b : Bool) → (b || false) ≡ b
      alone true = refl
      alone false = refl

module _ {A : Type 0} (f : A → Bool) (xs : List A) (i : ℕ) (found : Bool) (e : any f xs ≡ (found || any f (drop i xs))) where
  module _ (d : A) (h : i < length xs) (now : Bool) where
    pub scan_hit : now ≡ true → f (get_or xs i d) ≡ true → any f xs ≡ (now || any f (drop (i + 1) xs))
    scan_hit n t = went_hit _ _ found e now _ n (any_found f xs i d h t)

    pub scan_miss : now ≡ found → f (get_or xs i d) ≡ false → any f xs ≡ (now || any f (drop (i + 1) xs))
    scan_miss n t = went_miss _ _ found e now _ n (any_passed f xs i d h t)

  pub scan_end : i ≡ length xs → found ≡ any f xs
  scan_end h = went_end _ _ found e (any_end f xs i h)

-- a pointer and the one before it
module _ (p : List ℕ) (i : ℕ) (k : 0 < i) (h : i < length p) where
  two : drop (i - 1) p ≡ get_or p (i - 1) 0 ∷ (get_or p i 0 ∷ drop (suc i) p)
  two = let e : suc (i - 1) ≡ i = omega arith in rw (drop-cons p (i - 1) 0 (omega arith), e, drop-cons p i 0 h)

  pub falls_found : get_or p i 0 < get_or p (i - 1) 0 → falls (drop (i - 1) p) ≡ true
  unfolding falls
  falls_found e = rw (two, lt-ltb _ _ e)

  pub falls_passed : get_or p (i - 1) 0 ≤ get_or p i 0 → falls (drop (i - 1) p) ≡ falls (drop (i + 1 - 1) p)
  unfolding falls
  falls_passed e = let q : i + 1 - 1 ≡ i = omega arith in rw (two, le-ltb _ _ e, q, drop-cons p i 0 h)

short : (l : List ℕ) → length l ≤ 1 → falls l ≡ false
unfolding falls
short [] e = refl
short (x ∷ []) e = refl
short (x ∷ (y ∷ l)) e = absurd (omega arith)

-- at most one is left
pub falls_end : (p : List ℕ) (i : ℕ) → 0 < i → length p ≤ i → falls (drop (i - 1) p) ≡ false
falls_end p i k h = short (drop (i - 1) p) (simp length-drop (omega arith))

-- none reaches a bound that every number is below
pub none_reaches : (n : ℕ) (xs : List ℕ) → ((k : ℕ) → get_or xs k 0 < n) → any (λ x. leb n x) xs ≡ false
unfolding any
none_reaches n [] h = refl
none_reaches n (x ∷ xs) h = rw (lt-leb n x (h 0)) (none_reaches n xs (λ k. h (suc k)))

-- the largest magnitude of the numbers passed
pub largest_none : (xs : List Float) → zeroᶠ ≡ largest (take 0 xs)
unfolding largest
largest_none xs = refl

module _ (xs : List Float) (k : ℕ) (s : Float) (es : s ≡ largest (take k xs)) where
  pub largest_more : (u t : Float) → k < length xs → u ≡ magnitude (get_or xs k nan) → t ≡ larger s u → t ≡ largest (take (k + 1) xs)
  unfolding largest
  largest_more u t h eu et = et ∙ rw (add-one, take-suc xs k nan h, foldl-append (λ s x. larger s (magnitude x)) zeroᶠ (take k xs) (get_or xs k nan ∷ []), es, eu)
