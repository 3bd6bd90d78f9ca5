-- Lists by index and sums, grown by one: what a loop that counts needs of each step.
use Prim.Native.Nat.{ℕ, zero, suc, ◌+◌, ◌-◌, ◌<◌, ◌≤◌}
use mathlib.Core.Path.{◌≡◌, refl, ap, sym, ◌∙◌}
use mathlib.Core.List.{List, [], ◌∷◌, ◌++◌, flat_map, foldl-append, append-nil, append_assoc}
use native.Mathlib.Omega.{arith}
use native.Mathlib.Numerals.{add-one}
use native.Mathlib.Decide.{ℕ_discrete}
use lib.ListN.{length, get_or, set, drop}
use lib.Seq.{drop-cons, drop-length, set_at, get_or_at}
use lib.Ieee.{Float}
use Rattle.definitions.specs.Lists.{tab, up_to}
use Rattle.definitions.specs.Numbers.{◌+ᶠ◌, ◌-ᶠ◌, minus_zero, summed, reduced}
use Rattle.laws.proofs.Lists.{length_tab}

-- ---- one element more

-- a fact of every index below i, and of i
pub upto : (P : ℕ → Type 0) (i : ℕ) → ((j : ℕ) → j < i → P j) → P i → (j : ℕ) → j < i + 1 → P j
upto P i h p j q = step (ℕ_discrete j i)
  where
    step : Dec (j ≡ i) → P j
    step (yes e) = rw e p
    step (no n) = h j (omega arith)

pub tab_snoc : {A : Type 0} (f : ℕ → A) (n : ℕ) → tab f (suc n) ≡ tab f n ++ (f n ∷ [])
unfolding tab
tab_snoc f zero = refl
tab_snoc f (suc n) = ap (λ l. f zero ∷ l) (tab_snoc (λ i. f (suc i)) n)

pub up_to_snoc : (n : ℕ) → up_to (suc n) ≡ up_to n ++ (n ∷ [])
unfolding up_to
up_to_snoc n = tab_snoc (λ i. i) n

pub flat_map_snoc : {A B : Type 0} (f : A → List B) (xs : List A) (x : A) → flat_map f (xs ++ (x ∷ [])) ≡ flat_map f xs ++ f x
unfolding flat_map
flat_map_snoc f [] x = append-nil (f x)
flat_map_snoc f (y ∷ ys) x = rw (flat_map_snoc f ys x) (sym (append_assoc (f y) (flat_map f ys) (f x)))

pub rows_none : {B : Type 0} (f : ℕ → List B) → flat_map f (up_to zero) ≡ []
unfolding flat_map up_to tab
rows_none f = refl

-- ---- a list s that held d, filled up to i

module _ {A : Type 0} where
  pub tab_none : (f : ℕ → A) (d : List A) → d ≡ tab f 0 ++ drop 0 d
  unfolding tab
  tab_none f d = refl

  pub tab_more : (f : ℕ → A) (i : ℕ) (s d : List A) (v : A) → i < length d → s ≡ tab f i ++ drop i d → v ≡ f i → set s i v ≡ tab f (i + 1) ++ drop (i + 1) d
  tab_more f i s d v l e g =
      rw (e, g, add-one, drop-cons d i v l, set_at (tab f i) (get_or d i v) (drop (suc i) d) (f i) i (length_tab f i), tab_snoc f i, append_assoc (tab f i) (f i ∷ []) (drop (suc i) d))

  pub tab_all : (f : ℕ → A) (i : ℕ) (s d : List A) → i ≡ length d → s ≡ tab f i ++ drop i d → s ≡ tab f (length d)
  tab_all f i s d l e = rw (e, l, drop-length d, append-nil)

  -- an element that the filling has not reached
  pub tab_unread : (d : A) (f : ℕ → A) (i : ℕ) (s l : List A) → i < length l → s ≡ tab f i ++ drop i l → get_or s i d ≡ get_or l i d
  tab_unread d f i s l h e = rw (e, drop-cons l i d h) (get_or_at (tab f i) (get_or l i d) (drop (suc i) l) d i (length_tab f i))

-- ---- sums, and numbers reduced by the terms of a sum

abbrev plus : Float → Float → Float
plus s x = s +ᶠ x

abbrev less : Float → Float → Float
less s x = s -ᶠ x

pub summed_none : (f : ℕ → Float) → minus_zero ≡ summed (tab f 0)
unfolding summed tab
summed_none f = refl

pub summed_more : (f : ℕ → Float) (n : ℕ) (s t x : Float) → s ≡ summed (tab f n) → x ≡ f n → t ≡ s +ᶠ x → t ≡ summed (tab f (n + 1))
unfolding summed
summed_more f n s t x e ex et = et ∙ rw (add-one, tab_snoc f n, foldl-append plus, ex, e)

-- a sum over j from `first` on
pub summed_from : (f : ℕ → Float) (first j : ℕ) (s t : Float) → first ≤ j → s ≡ summed (tab f (j - first)) → t ≡ s +ᶠ f (j - first) → t ≡ summed (tab f (j + 1 - first))
summed_from f first j s t h e q = let z : j + 1 - first ≡ j - first + 1 = omega arith in rw z (summed_more f (j - first) s t (f (j - first)) e refl q)

pub reduced_none : (x : Float) (f : ℕ → Float) → x ≡ reduced x (tab f 0)
unfolding reduced tab
reduced_none x f = refl

pub reduced_more : (x : Float) (f : ℕ → Float) (k : ℕ) (s t y : Float) → s ≡ reduced x (tab f k) → y ≡ f k → t ≡ s -ᶠ y → t ≡ reduced x (tab f (k + 1))
unfolding reduced
reduced_more x f k s t y es ey et = et ∙ rw (add-one, tab_snoc f k, foldl-append less, ey, es)
