-- Scattering, element by element: what stands at j is what stood there and the numbers put there, in order.
use Prim.Native.Nat.{ℕ, zero, suc, ◌+◌, ◌<◌}
use mathlib.Core.Path.{◌≡◌, refl, sym, ◌∙◌}
use mathlib.Core.Bool.{Bool, true, false}
use mathlib.Core.List.{List, [], ◌∷◌, flat_map, foldl, foldl-append}
use native.Mathlib.Omega.{arith}
use native.Mathlib.Nat.{add-zero, add-suc}
use native.Mathlib.Numerals.{add-one}
use lib.Dec.{eqb}
use lib.ListN.{length, get_or, length-set}
use lib.Seq.{get_or-set_same, get_or-set_other}
use lib.Ieee.{Float, nan}
use borrow.Author.Tests.{eqb-true, eqb-false}
use Rattle.definitions.specs.Lists.{tab, up_to}
use Rattle.definitions.specs.Numbers.{◌+ᶠ◌, zeroᶠ, total}
use Rattle.definitions.specs.Matrix.{Entry, values_where}
use Rattle.laws.proofs.Lists.{length_tab, get_d_tab, tab_is}
use Rattle.laws.proofs.Growing.{up_to_snoc, flat_map_snoc, rows_none}
use Rattle.laws.proofs.Kept.{where_hit, where_miss, where_none}
use Rattle.laws.specs.Scatter.{bump, scatter, scattered, single}

-- ---- the law of scattering

pub length_scatter : (es : List Entry) (l : List Float) → length (scatter es l) ≡ length l
unfolding scatter
length_scatter [] l = refl
length_scatter (e ∷ es) l = length_scatter es (bump l e) ∙ simp length-set

-- the numbers put at j, in order
abbrev pub puts_at : ℕ → List Entry → List Float
puts_at j es = values_where (λ k. eqb k j) es

abbrev pub plus : Float → Float → Float
plus s x = s +ᶠ x

bump_hit : (l : List Float) (e : Entry) (j : ℕ) → j < length l → e.col ≡ j → get_or (bump l e) j nan ≡ get_or l j nan +ᶠ e.value
bump_hit l e j h q = rw q (get_or-set_same l j (get_or l j nan +ᶠ e.value) nan h)

bump_miss : (l : List Float) (e : Entry) (j : ℕ) → (e.col ≡ j → ⊥) → get_or (bump l e) j nan ≡ get_or l j nan
bump_miss l e j q = get_or-set_other l e.col j (get_or l e.col nan +ᶠ e.value) nan (λ r. q (sym r))

pub scatter_at : (es : List Entry) (l : List Float) (j : ℕ) → j < length l → get_or (scatter es l) j nan ≡ foldl plus (get_or l j nan) (puts_at j es)
unfolding scatter
scatter_at [] l j h = rw (where_none (λ k. eqb k j))
scatter_at (e ∷ es) l j h = scatter_at es (bump l e) j (simp length-set h) ∙ step (eqb e.col j) refl
  where
    step : (b : Bool) → eqb e.col j ≡ b → foldl plus (get_or (bump l e) j nan) (puts_at j es) ≡ foldl plus (get_or l j nan) (puts_at j (e ∷ es))
    step true q = rw (bump_hit l e j h (eqb-true e.col j q), where_hit (λ k. eqb k j) e es q)
    step false q = rw (bump_miss l e j (eqb-false e.col j q), where_miss (λ k. eqb k j) e es q)

module _ (puts : ℕ → List Entry) (l : List Float) where
  pub length_scattered : (n : ℕ) → length (scattered puts n l) ≡ length l
  unfolding scattered
  length_scattered zero = refl
  length_scattered (suc n) = length_scatter (puts n) (scattered puts n l) ∙ length_scattered n

  pub scattered_at : (n j : ℕ) → j < length l → get_or (scattered puts n l) j nan ≡ foldl plus (get_or l j nan) (flat_map (λ r. puts_at j (puts r)) (up_to n))
  unfolding scattered
  scattered_at zero j h = rw (rows_none (λ r. puts_at j (puts r)))
  scattered_at (suc n) j h =
      scatter_at (puts n) (scattered puts n l) j (rw (length_scattered n) h)
      ∙ rw (up_to_snoc n, flat_map_snoc (λ r. puts_at j (puts r)) (up_to n) n, foldl-append plus, scattered_at n j h)

-- from zeros: element j is the sum of what the rows put there. `terms` is how a definition lists those
pub scatter_law : (puts : ℕ → List Entry) (n c : ℕ) (terms : ℕ → List Float) → ((j : ℕ) → flat_map (λ r. puts_at j (puts r)) (up_to n) ≡ terms j)
    → scattered puts n (tab (λ _. zeroᶠ) c) ≡ tab (λ j. total (terms j)) c
unfolding total
scatter_law puts n c terms same =
    tab_is nan (scattered puts n blank) (λ j. total (terms j)) c (length_scattered puts blank n ∙ length_tab (λ _. zeroᶠ) c)
    (λ j h. scattered_at puts blank n j (rw (length_tab (λ _. zeroᶠ) c) h) ∙ rw (get_d_tab (λ _. zeroᶠ) c j nan h, same j))
  where
    blank : List Float
    blank = tab (λ _. zeroᶠ) c

-- ---- steps of loops

pub none_step : (puts : ℕ → List Entry) (l₀ : List Float) → l₀ ≡ scattered puts 0 l₀
unfolding scattered
none_step puts l₀ = refl

-- a row more, by its list of puts
pub rows_step : (puts : ℕ → List Entry) (l₀ l m : List Float) (i : ℕ) → l ≡ scattered puts i l₀ → m ≡ scatter (puts i) l → m ≡ scattered puts (i + 1) l₀
unfolding scattered
rows_step puts l₀ l m i e q = rw (q, e, add-one)

scattered_add : (puts : ℕ → List Entry) (l : List Float) (m k : ℕ) → scattered puts (m + k) l ≡ scattered (λ j. puts (m + j)) k (scattered puts m l)
unfolding scattered
scattered_add puts l m zero = rw add-zero
scattered_add puts l m (suc k) = rw (add-suc m k, scattered, scattered_add puts l m k)

scattered_cong : (f g : ℕ → List Entry) (l : List Float) (n : ℕ) → ((j : ℕ) → j < n → f j ≡ g j) → scattered f n l ≡ scattered g n l
unfolding scattered
scattered_cong f g l zero h = refl
scattered_cong f g l (suc n) h = rw (scattered_cong f g l n (λ j k. h j (omega arith)), h n (omega arith))

-- a node's rows more
pub node_step : (p q : ℕ → ℕ) (x y : ℕ → Float) (l₀ l m : List Float) (first size : ℕ)
    → ((j : ℕ) → j < size → q j ≡ p (first + j)) → ((j : ℕ) → j < size → y j ≡ x (first + j))
    → l ≡ scattered (single p x) first l₀ → m ≡ scattered (single q y) size l → m ≡ scattered (single p x) (first + size) l₀
node_step p q x y l₀ l m first size h k e f =
    f ∙ scattered_cong (single q y) (λ j. single p x (first + j)) l size (λ j b. rw (h j b, k j b)) ∙ rw e (sym (scattered_add (single p x) l₀ first size))
