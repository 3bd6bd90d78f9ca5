-- A list made by a test on the numbers below n is no longer than any list that holds every number which passes: each of its elements accounts for at most one.
use mathlib.Core.Path.{◌≡◌, refl, sym, ap, ◌∙◌, subst}
use mathlib.Core.Bool.{Bool, true, false, not, ◌||◌}
use mathlib.Core.List.{List, [], ◌∷◌, flat_map}
use Prim.Native.Nat.{ℕ, zero, suc, ◌+◌, ◌-◌, ◌≤◌, ◌<◌}
use native.Mathlib.Nat.{zero-lt-suc, le_refl, le_trans}
use native.Mathlib.Omega.{arith}
use lib.Dec.{T, eqb, eqb→eq, eqb-suc-zero, eqb-zero-suc}
use lib.Ieee.Fits.{eq→eqb}
use lib.ListN.{length, get_or, length-append}
use Rattle.definitions.specs.Lists.{tab, keep, any, falls}
use Rattle.laws.proofs.Lists.{up_lt}
use Rattle.laws.proofs.Scans.{no_falls}

abbrev one : Bool → ℕ
one true = 1
one false = 0

-- how many numbers below n pass
tally : (ℕ → Bool) → ℕ → ℕ
tally q zero = 0
tally q (suc n) = one (q 0) + tally (λ j. q (suc j)) n

keep_tally : {A : Type 0} (p : A → Bool) (f : ℕ → A) (n : ℕ) → length (keep p (tab f n)) ≡ tally (λ j. p (f j)) n
unfolding keep tab tally
keep_tally p f zero = refl
keep_tally {A} p f (suc n) = go (p (f 0)) (keep_tally p (λ j. f (suc j)) n)
  where
    go : (b : Bool) → length (keep p (tab (λ j. f (suc j)) n)) ≡ tally (λ j. p (f (suc j))) n
        → length {A = A} (elim b [ true ↦ f 0 ∷ keep p (tab (λ j. f (suc j)) n) | false ↦ keep p (tab (λ j. f (suc j)) n) ]) ≡ one b + tally (λ j. p (f (suc j))) n
    go true e = ap suc e ∙ front (tally (λ j. p (f (suc j))) n)
      where
        front : (x : ℕ) → suc x ≡ 1 + x
        front x = omega arith
    go false e = e ∙ plain (tally (λ j. p (f (suc j))) n)
      where
        plain : (x : ℕ) → x ≡ 0 + x
        plain x = omega arith

tally_mono : (q r : ℕ → Bool) (n : ℕ) → ((j : ℕ) → j < n → T (q j) → T (r j)) → tally q n ≤ tally r n
unfolding tally
tally_mono q r zero h = le_refl 0
tally_mono q r (suc n) h = go (q 0) (r 0) (h 0 (zero-lt-suc n)) (tally_mono (λ j. q (suc j)) (λ j. r (suc j)) n (λ j l. h (suc j) (up_lt l)))
  where
    go : (x y : Bool) → (T x → T y) → tally (λ j. q (suc j)) n ≤ tally (λ j. r (suc j)) n → one x + tally (λ j. q (suc j)) n ≤ one y + tally (λ j. r (suc j)) n
    go true true f k = omega arith
    go true false f k = absurd (f tt)
    go false true f k = omega arith
    go false false f k = omega arith

tally_or : (q r : ℕ → Bool) (n : ℕ) → tally (λ j. q j || r j) n ≤ tally q n + tally r n
unfolding tally
tally_or q r zero = le_refl 0
tally_or q r (suc n) = go (q 0) (r 0) (tally_or (λ j. q (suc j)) (λ j. r (suc j)) n)
  where
    go : (x y : Bool) → tally (λ j. q (suc j) || r (suc j)) n ≤ tally (λ j. q (suc j)) n + tally (λ j. r (suc j)) n
        → one (x || y) + tally (λ j. q (suc j) || r (suc j)) n ≤ one x + tally (λ j. q (suc j)) n + (one y + tally (λ j. r (suc j)) n)
    go true true k = omega arith
    go true false k = omega arith
    go false true k = omega arith
    go false false k = omega arith

tally_none : (n : ℕ) → tally (λ j. false) n ≡ 0
unfolding tally
tally_none zero = refl
tally_none (suc n) = ap (λ (x : ℕ). 0 + x) (tally_none n)

tally_one : (x n : ℕ) → tally (λ j. eqb x j) n ≤ 1
unfolding tally
tally_one x zero = omega arith
tally_one zero (suc n) = go (tally_mono (λ j. eqb 0 (suc j)) (λ j. false) n (λ j l t. subst T (eqb-zero-suc j) t)) (tally_none n)
  where
    go : tally (λ j. eqb 0 (suc j)) n ≤ tally (λ j. false) n → tally (λ j. false) n ≡ 0 → one (eqb 0 0) + tally (λ j. eqb 0 (suc j)) n ≤ 1
    go k e = omega arith
tally_one (suc x) (suc n) =
    subst (λ (b : Bool). one b + tally (λ j. eqb (suc x) (suc j)) n ≤ 1) (sym (eqb-suc-zero x))
    (go (tally_mono (λ j. eqb (suc x) (suc j)) (λ j. eqb x j) n (λ j l t. eq→eqb (down x j (eqb→eq (suc x) (suc j) t)))) (tally_one x n))
  where
    down : (y z : ℕ) → suc y ≡ suc z → y ≡ z
    down y z e = omega arith

    go : tally (λ j. eqb (suc x) (suc j)) n ≤ tally (λ j. eqb x j) n → tally (λ j. eqb x j) n ≤ 1 → 0 + tally (λ j. eqb (suc x) (suc j)) n ≤ 1
    go k l = omega arith

tally_any : (xs : List ℕ) (n : ℕ) → tally (λ j. any (λ x. eqb x j) xs) n ≤ length xs
unfolding any
tally_any [] n = subst (λ (x : ℕ). x ≤ 0) (sym (tally_none n)) (le_refl 0)
tally_any (x ∷ xs) n = go (tally_or (λ j. eqb x j) (λ j. any (λ y. eqb y j) xs) n) (tally_one x n) (tally_any xs n)
  where
    go : tally (λ j. eqb x j || any (λ y. eqb y j) xs) n ≤ tally (λ j. eqb x j) n + tally (λ j. any (λ y. eqb y j) xs) n → tally (λ j. eqb x j) n ≤ 1
        → tally (λ j. any (λ y. eqb y j) xs) n ≤ length xs
        → tally (λ j. eqb x j || any (λ y. eqb y j) xs) n ≤ suc (length xs)
    go k l m = omega arith

pub keep_count : {A : Type 0} (p : A → Bool) (f : ℕ → A) (n : ℕ) (xs : List ℕ) → ((j : ℕ) → j < n → T (p (f j)) → T (any (λ x. eqb x j) xs)) → length (keep p (tab f n)) ≤ length xs
keep_count p f n xs h = subst (λ (x : ℕ). x ≤ length xs) (sym (keep_tally p f n)) (le_trans (tally_mono (λ j. p (f j)) (λ j. any (λ x. eqb x j) xs) n h) (tally_any xs n))

-- ---- rows no longer than the steps of rising numbers, and one

pub rises_at : (xs : List ℕ) (i : ℕ) → T (not (falls xs)) → suc i < length xs → get_or xs i 0 ≤ get_or xs (suc i) 0
rises_at xs i t l = no_falls xs (go (falls xs) t) i l
  where
    go : (b : Bool) → T (not b) → b ≡ false
    go true u = absurd u
    go false u = refl

pub rows_within : {A : Type 0} (f : ℕ → List A) (p : ℕ → ℕ) (n : ℕ) → ((i : ℕ) → i < n → p i ≤ p (suc i)) → ((i : ℕ) → i < n → length (f i) ≤ suc (p (suc i) - p i))
    → (length (flat_map (λ row. row) (tab f n)) ≤ n + (p n - p 0)) × (p 0 ≤ p n)
unfolding flat_map tab
rows_within f p zero R L = (omega arith, le_refl (p 0))
rows_within f p (suc n) R L =
    let k = rows_within (λ i. f (suc i)) (λ i. p (suc i)) n (λ i l. R (suc i) (up_lt l)) (λ i l. L (suc i) (up_lt l)) in (
      subst (λ (x : ℕ). x ≤ suc n + (p (suc n) - p 0)) (sym (length-append (f 0) (flat_map (λ row. row) (tab (λ i. f (suc i)) n))))
          (go (length (f 0)) (length (flat_map (λ row. row) (tab (λ i. f (suc i)) n))) (p 0) (p 1) (p (suc n)) (R 0 (zero-lt-suc n)) (L 0 (zero-lt-suc n)) k.0 k.1),
      le_trans (R 0 (zero-lt-suc n)) k.1,
    )
  where
    go : (x y a b c : ℕ) → a ≤ b → x ≤ suc (b - a) → y ≤ n + (c - b) → b ≤ c → x + y ≤ suc n + (c - a)
    go x y a b c h i j k = omega arith
