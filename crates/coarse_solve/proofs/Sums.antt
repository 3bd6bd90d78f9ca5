-- Sums, a product more: one alone, and eight side by side.
use Prim.Native.Nat.{ℕ, ◌+◌, ◌<◌}
use mathlib.Core.Path.{◌≡◌, refl, ap, sym, ◌∙◌}
use mathlib.Core.List.{List, ◌++◌, foldl-append}
use native.Mathlib.Numerals.{add-one}
use lib.ListN.{length, get_or, set, drop, replicate}
use lib.Ieee.{Float, nan}
use Rattle.definitions.specs.Lists.{tab}
use Rattle.definitions.specs.Numbers.{◌+ᶠ◌, ◌*ᶠ◌, minus_zero, summed}
use Rattle.laws.proofs.Lists.{tab_cong, tab_same, tab_append, get_d_tab}
use Rattle.laws.proofs.Growing.{tab_snoc, summed_none, summed_more, tab_more, tab_unread}
use Rattle.coarse_solve.specs.RowSums.{added, product, row_sum, row_sums, with_terms}

-- ---- one sum

abbrev plus : Float → Float → Float
plus s x = s +ᶠ x

pub added_none : (x : Float) (f : ℕ → Float) → x ≡ added x (tab f 0)
unfolding added tab
added_none x f = refl

pub products_more : (x : Float) (a b : List Float) (n m : ℕ) (s p q : Float) → s ≡ added x (tab (product a b) n) → p ≡ get_or a n nan → q ≡ get_or b n nan → m ≡ n + 1
    → s +ᶠ p *ᶠ q ≡ added x (tab (product a b) m)
unfolding added
products_more x a b n m s p q e ep eq em = rw (em, add-one, tab_snoc (product a b) n, foldl-append plus, ep, eq, e)

pub from_minus_zero : (xs : List Float) (s : Float) → s ≡ added minus_zero xs → s ≡ summed xs
unfolding added summed
from_minus_zero xs s e = e

-- the terms f from m on, given as products
pub added_on : (f : ℕ → Float) (a b : List Float) (m n : ℕ) (s t : Float) → s ≡ summed (tab f m) → ((k : ℕ) → k < n → product a b k ≡ f (m + k)) → t ≡ added s (tab (product a b) n) → t ≡ summed (tab f (m + n))
unfolding added summed
added_on f a b m n s t es h et = et ∙ rw (es, tab_cong (product a b) (λ k. f (m + k)) n h, tab_append f m n, foldl-append plus)

pub products_are : (f : ℕ → Float) (a b : List Float) (m n : ℕ) (s : Float) → m ≡ n → ((k : ℕ) → k < n → product a b k ≡ f k) → s ≡ summed (tab (product a b) m) → s ≡ summed (tab f n)
products_are f a b m n s e h es = es ∙ rw e (ap summed (tab_cong (product a b) f n h))

-- ---- m sums

module _ (l y : List Float) (starts : List ℕ) (m : ℕ) where
  pub sums_none : replicate m minus_zero ≡ row_sums l y 0 starts m
  sums_none = sym (tab_same (λ r. row_sum l y 0 (get_or starts r 0)) minus_zero m (λ r. sym (summed_none (λ k. get_or l (get_or starts r 0 + k) nan *ᶠ get_or y k nan))))

  pub sums_more : (sums sums' : List Float) (k : ℕ) → sums ≡ row_sums l y k starts m → sums' ≡ with_terms sums l starts k (get_or y k nan) m → sums' ≡ row_sums l y (k + 1) starts m
  sums_more sums sums' k e e' = e' ∙ tab_cong (λ r. get_or sums r nan +ᶠ term r k) (λ r. row_sum l y (k + 1) (get_or starts r 0)) m step
    where
      term : ℕ → ℕ → Float
      term r k = get_or l (get_or starts r 0 + k) nan *ᶠ get_or y k nan

      step : (r : ℕ) → r < m → get_or sums r nan +ᶠ term r k ≡ row_sum l y (k + 1) (get_or starts r 0)
      step r h = summed_more (term r) k (get_or sums r nan) (get_or sums r nan +ᶠ term r k) (term r k) (rw e (get_d_tab (λ r. row_sum l y k (get_or starts r 0)) m r nan h)) refl refl

-- one sum more with its product, in place
pub terms_more : (l sums₀ sums : List Float) (starts : List ℕ) (k r : ℕ) (x : Float) → r < length sums₀ → sums ≡ with_terms sums₀ l starts k x r ++ drop r sums₀
    → set sums r (get_or sums r nan +ᶠ get_or l (get_or starts r 0 + k) nan *ᶠ x) ≡ with_terms sums₀ l starts k x (r + 1) ++ drop (r + 1) sums₀
terms_more l sums₀ sums starts k r x h e =
    let f : ℕ → Float = λ r. get_or sums₀ r nan +ᶠ get_or l (get_or starts r 0 + k) nan *ᶠ x in
    tab_more f r sums sums₀ _ h e (ap (λ a. a +ᶠ get_or l (get_or starts r 0 + k) nan *ᶠ x) (tab_unread nan f r sums sums₀ h e))

-- one of the sums that were made
pub sum_at : (l y : List Float) (m n r : ℕ) (starts : List ℕ) (sums : List Float) → r < m → sums ≡ row_sums l y n starts m → get_or sums r nan ≡ row_sum l y n (get_or starts r 0)
sum_at l y m n r starts sums h e = rw e (get_d_tab (λ r. row_sum l y n (get_or starts r 0)) m r nan h)
