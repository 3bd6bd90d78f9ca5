-- A triangular solve makes its list one entry at a time: what holds of an entry whenever it holds of those made before, holds of all.
use mathlib.Core.Path.{◌≡◌, sym, ap, ◌∙◌, subst}
use mathlib.Core.Logic.{◌⊎◌, inl, inr}
use mathlib.Core.List.{List, [], ◌∷◌, ◌++◌}
use Prim.Native.Nat.{ℕ, zero, suc, ◌+◌, ◌-◌, ◌≤◌, ◌<◌}
use native.Mathlib.Nat.{le_refl, not-suc-le-zero, le_of_suc-le-suc, le_of_suc-le, eq-or-lt_of_le, add-zero}
use native.Mathlib.Numerals.{add-one}
use native.Mathlib.Omega.{arith}
use lib.ListN.{length, get_or, length-append, get_or-append}
use lib.Seq.{get_or_at}
use lib.Ieee.{Float, nan}

-- ---- forward: each entry goes behind those before it

module _ (F : ℕ → List Float) (f : ℕ → List Float → Float) (first : F 0 ≡ []) (next : (i : ℕ) → F (suc i) ≡ F i ++ (f i (F i) ∷ [])) where
  pub grown_length : (n : ℕ) → length (F n) ≡ n
  grown_length zero = ap length first
  grown_length (suc n) = ap length (next n) ∙ length-append (F n) (f n (F n) ∷ []) ∙ ap (λ (k : ℕ). k + 1) (grown_length n) ∙ add-one n

  grown_last : (n : ℕ) → get_or (F (suc n)) n nan ≡ f n (F n)
  grown_last n = ap (λ (l : List Float). get_or l n nan) (next n) ∙ get_or_at (F n) (f n (F n)) [] nan n (grown_length n)

  grown_keeps : (n i : ℕ) → i < n → get_or (F (suc n)) i nan ≡ get_or (F n) i nan
  grown_keeps n i h = ap (λ (l : List Float). get_or l i nan) (next n) ∙ get_or-append (F n) (f n (F n) ∷ []) nan i (subst (λ (k : ℕ). i < k) (sym (grown_length n)) h)

module _ (R : ℕ → Float → Float → Type 0) (F F' : ℕ → List Float) (f f' : ℕ → List Float → Float)
    (first : F 0 ≡ []) (first' : F' 0 ≡ []) (next : (i : ℕ) → F (suc i) ≡ F i ++ (f i (F i) ∷ [])) (next' : (i : ℕ) → F' (suc i) ≡ F' i ++ (f' i (F' i) ∷ []))
    (c : ℕ) (step : (i : ℕ) → i < c → (y y' : List Float) → ((k : ℕ) → k < i → R k (get_or y k nan) (get_or y' k nan)) → R i (f i y) (f' i y')) where
  pub grown_all : (n : ℕ) → n ≤ c → (i : ℕ) → i < n → R i (get_or (F n) i nan) (get_or (F' n) i nan)
  grown_all zero l i h = absurd (not-suc-le-zero h)
  grown_all (suc n) l i h = go (grown_all n (le_of_suc-le l)) (eq-or-lt_of_le (le_of_suc-le-suc h))
    where
      go : ((k : ℕ) → k < n → R k (get_or (F n) k nan) (get_or (F' n) k nan)) → (i ≡ n) ⊎ (i < n) → R i (get_or (F (suc n)) i nan) (get_or (F' (suc n)) i nan)
      go all (inl e) =
          subst (λ (j : ℕ). R j (get_or (F (suc n)) j nan) (get_or (F' (suc n)) j nan)) (sym e)
          (subst (λ (x : Float). R n x (get_or (F' (suc n)) n nan)) (sym (grown_last F f first next n))
          (subst (λ (x : Float). R n (f n (F n)) x) (sym (grown_last F' f' first' next' n)) (step n l (F n) (F' n) all)))
      go all (inr g) =
          subst (λ (x : Float). R i x (get_or (F' (suc n)) i nan)) (sym (grown_keeps F f first next n i g))
          (subst (λ (x : Float). R i (get_or (F n) i nan) x) (sym (grown_keeps F' f' first' next' n i g)) (all i g))

-- ---- backward: the last k of c entries, each before those after it

pub stacked_length : (F : ℕ → List Float) (f : ℕ → List Float → Float) → F 0 ≡ [] → ((k : ℕ) → F (suc k) ≡ f k (F k) ∷ F k) → (n : ℕ) → length (F n) ≡ n
stacked_length F f first next zero = ap length first
stacked_length F f first next (suc n) = ap length (next n) ∙ ap suc (stacked_length F f first next n)

place_after : (c k m : ℕ) → k < c → c - suc k + suc m ≡ c - k + m
place_after c k m h = omega arith

module _ (R : ℕ → Float → Float → Type 0) (F F' : ℕ → List Float) (f f' : ℕ → List Float → Float)
    (next : (k : ℕ) → F (suc k) ≡ f k (F k) ∷ F k) (next' : (k : ℕ) → F' (suc k) ≡ f' k (F' k) ∷ F' k)
    (c : ℕ) (step : (k : ℕ) → k < c → (x x' : List Float) → ((m : ℕ) → m < k → R (c - k + m) (get_or x m nan) (get_or x' m nan)) → R (c - suc k) (f k x) (f' k x')) where
  stacked_from : (n : ℕ) → n ≤ c → (m : ℕ) → m < n → R (c - n + m) (get_or (F n) m nan) (get_or (F' n) m nan)
  stacked_from zero l m h = absurd (not-suc-le-zero h)
  stacked_from (suc k) l zero h =
      subst (λ (j : ℕ). R j (get_or (F (suc k)) 0 nan) (get_or (F' (suc k)) 0 nan)) (sym (add-zero (c - suc k)))
      (subst (λ (xs : List Float). R (c - suc k) (get_or xs 0 nan) (get_or (F' (suc k)) 0 nan)) (sym (next k))
      (subst (λ (xs : List Float). R (c - suc k) (f k (F k)) (get_or xs 0 nan)) (sym (next' k))
      (step k l (F k) (F' k) (stacked_from k (le_of_suc-le l)))))
  stacked_from (suc k) l (suc m) h =
      subst (λ (j : ℕ). R j (get_or (F (suc k)) (suc m) nan) (get_or (F' (suc k)) (suc m) nan)) (sym (place_after c k m l))
      (subst (λ (xs : List Float). R (c - k + m) (get_or xs (suc m) nan) (get_or (F' (suc k)) (suc m) nan)) (sym (next k))
      (subst (λ (xs : List Float). R (c - k + m) (get_or (F k) m nan) (get_or xs (suc m) nan)) (sym (next' k))
      (stacked_from k (le_of_suc-le l) m (le_of_suc-le-suc h))))

  pub stacked_all : (i : ℕ) → i < c → R i (get_or (F c) i nan) (get_or (F' c) i nan)
  stacked_all i h = subst (λ (j : ℕ). R j (get_or (F c) i nan) (get_or (F' c) i nan)) (whole c i) (stacked_from c (le_refl c) i h)
    where
      whole : (n k : ℕ) → n - n + k ≡ k
      whole n k = omega arith
