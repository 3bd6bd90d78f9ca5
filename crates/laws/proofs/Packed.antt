-- A packed factor: where its rows begin and end, and the solves with it in place, a number more.
use Prim.Native.Nat.{ℕ, zero, suc, ◌+◌, ◌-◌, ◌*◌, ◌<◌, ◌≤◌}
use mathlib.Core.Path.{◌≡◌, refl, ap, sym, ◌∙◌}
use mathlib.Core.List.{List, [], ◌∷◌, ◌++◌, append-nil, append_assoc}
use native.Mathlib.Omega.{arith}
use native.Mathlib.Nat.{mul-add-div, mul-le-mul}
use native.Mathlib.Numerals.{add-one}
use native.Mathlib.Decide.{ℕ_discrete}
use lib.ListN.{length, get_or, set, take, drop, length-append, get_or-append}
use lib.Seq.{drop-cons, set_at, get_or_at, take-suc, take-length, length-take-le, get_or-append-add}
use lib.Ieee.{Float, nan}
use Rattle.definitions.specs.Lists.{tab}
use Rattle.definitions.specs.Numbers.{◌-ᶠ◌, ◌*ᶠ◌, ◌/ᶠ◌, summed}
use Rattle.definitions.specs.Coarse.{packed, packed_entry, packed_length, packed_forward, packed_backward, packed_solve}
use Rattle.definitions.specs.Setup.{max_coarse}
use Rattle.laws.specs.Packed.{ahead}
use Rattle.laws.proofs.Lists.{tab_cong}

-- ---- triangular numbers

pub tri_step : (i : ℕ) → packed_length (suc i) ≡ packed_length i + suc i
tri_step i = let e : suc i * (suc i + 1) ≡ 2 * suc i + i * (i + 1) = omega arith in rw e (mul-add-div (omega arith) (suc i) (i * (i + 1)) ∙ omega arith)

-- row i lies within the factor of more rows
pub tri_row : (i c : ℕ) → i < c → packed_length i + suc i ≤ packed_length c
tri_row i zero h = absurd (omega arith)
tri_row i (suc c) h = step (ℕ_discrete i c) (tri_row i c)
  where
    step : Dec (i ≡ c) → (i < c → packed_length i + suc i ≤ packed_length c) → packed_length i + suc i ≤ packed_length (suc c)
    step (yes e) ih = rw e (omega (arith, tri_step c))
    step (no d) ih = omega (arith, tri_step c, ih (omega arith))

pub tri_next : (start i : ℕ) → start ≡ packed_length i → start + (i + 1) ≡ packed_length (i + 1)
tri_next start i e = rw (add-one i, e) (sym (tri_step i))

pub tri_back : (end i : ℕ) → end ≡ packed_length (i + 1) → (end ≡ packed_length i + (i + 1)) × (packed i i ≡ end - 1)
tri_back end i e = let q : end ≡ packed_length i + (i + 1) = e ∙ sym (tri_next (packed_length i) i refl) in (q, omega arith)

-- the number below, in the column
pub next_at : (at i j : ℕ) → at ≡ packed j i → at + (j + 1) ≡ packed (j + 1) i
next_at at i j e = omega (arith, tri_next (packed_length j) j refl)

pub triangle_small : (n : ℕ) → n ≤ max_coarse → n * (n + 1) ≤ 4_196_352
triangle_small n h = let q : n + 1 ≤ 2_049 = omega arith in mul-le-mul h q

-- ---- forward

pub length_forward : (l b : List Float) (i : ℕ) → length (packed_forward l b i) ≡ i
unfolding packed_forward
length_forward l b zero = refl
length_forward l b (suc i) = rw (length-append, length_forward l b i) (add-one i)

module _ (l b y : List Float) (i : ℕ) (h : i < length b) (e : y ≡ ahead l b i) where
  here : y ≡ packed_forward l b i ++ get_or b i nan ∷ drop (suc i) b
  here = e ∙ ap (λ t. packed_forward l b i ++ t) (drop-cons b i nan h)

  pub forward_at : get_or y i nan ≡ get_or b i nan
  forward_at = rw here (get_or_at (packed_forward l b i) (get_or b i nan) (drop (suc i) b) nan i (length_forward l b i))

  forward_below : (k : ℕ) → k < i → get_or y k nan ≡ get_or (packed_forward l b i) k nan
  forward_below k q = rw e (get_or-append (packed_forward l b i) (drop i b) nan k (rw (length_forward l b i) q))

  forward_sum : summed (tab (λ k. packed_entry l i k *ᶠ get_or y k nan) i) ≡ summed (tab (λ k. packed_entry l i k *ᶠ get_or (packed_forward l b i) k nan) i)
  forward_sum = ap summed (tab_cong (λ k. packed_entry l i k *ᶠ get_or y k nan) (λ k. packed_entry l i k *ᶠ get_or (packed_forward l b i) k nan) i (λ k q. rw (forward_below k q)))

  pub forward_step : (sum v : Float) → sum ≡ summed (tab (λ k. packed_entry l i k *ᶠ get_or y k nan) i) → v ≡ (get_or y i nan -ᶠ sum) /ᶠ packed_entry l i i
      → set y i v ≡ ahead l b (i + 1)
  unfolding packed_forward
  forward_step sum v es ev =
      ap (λ t. set t i v) here ∙ set_at (packed_forward l b i) (get_or b i nan) (drop (suc i) b) v i (length_forward l b i)
      ∙ rw (add-one, ev, forward_at, es, forward_sum) (sym (append_assoc (packed_forward l b i) _ (drop (suc i) b)))

-- ---- backward

module _ (l y₀ y : List Float) (k i : ℕ) (h : k < length y₀) (ei : i ≡ length y₀ - suc k) (e : y ≡ take (length y₀ - k) y₀ ++ packed_backward l (length y₀) y₀ k) where
  back_all : y ≡ take (suc i) y₀ ++ packed_backward l (length y₀) y₀ k
  back_all = let q : length y₀ - k ≡ suc i = omega arith in e ∙ ap (λ n. take n y₀ ++ packed_backward l (length y₀) y₀ k) q

  back_here : y ≡ take i y₀ ++ get_or y₀ i nan ∷ packed_backward l (length y₀) y₀ k
  back_here = back_all ∙ rw (take-suc y₀ i nan (omega arith)) (append_assoc (take i y₀) (get_or y₀ i nan ∷ []) (packed_backward l (length y₀) y₀ k))

  back_at : get_or y i nan ≡ get_or y₀ i nan
  back_at = ap (λ t. get_or t i nan) back_here ∙ get_or_at (take i y₀) (get_or y₀ i nan) (packed_backward l (length y₀) y₀ k) nan i (length-take-le i y₀ (omega arith))

  back_above : (m : ℕ) → get_or y (suc i + m) nan ≡ get_or (packed_backward l (length y₀) y₀ k) m nan
  back_above m =
      let q : length (take (suc i) y₀) ≡ suc i = length-take-le (suc i) y₀ (omega arith) in
      ap (λ t. get_or t (suc i + m) nan) back_all ∙ ap (λ n. get_or (take (suc i) y₀ ++ packed_backward l (length y₀) y₀ k) (n + m) nan) (sym q)
      ∙ get_or-append-add (take (suc i) y₀) (packed_backward l (length y₀) y₀ k) m nan

  back_sum : length y ≡ length y₀ → summed (tab (λ m. packed_entry l (suc i + m) i *ᶠ get_or y (suc i + m) nan) (length y - suc i))
      ≡ summed (tab (λ m. packed_entry l (suc i + m) i *ᶠ get_or (packed_backward l (length y₀) y₀ k) m nan) k)
  back_sum n = let q : length y - suc i ≡ k = omega arith in
      ap (λ a. summed (tab (λ m. packed_entry l (suc i + m) i *ᶠ get_or y (suc i + m) nan) a)) q
      ∙ ap summed (tab_cong (λ m. packed_entry l (suc i + m) i *ᶠ get_or y (suc i + m) nan) (λ m. packed_entry l (suc i + m) i *ᶠ get_or (packed_backward l (length y₀) y₀ k) m nan) k (λ m p. rw (back_above m)))

  pub backward_step : (sum v : Float) → length y ≡ length y₀ → sum ≡ summed (tab (λ m. packed_entry l (suc i + m) i *ᶠ get_or y (suc i + m) nan) (length y - suc i))
      → v ≡ (get_or y i nan -ᶠ sum) /ᶠ packed_entry l i i → set y i v ≡ take (length y₀ - (k + 1)) y₀ ++ packed_backward l (length y₀) y₀ (k + 1)
  unfolding packed_backward
  backward_step sum v n es ev =
      ap (λ t. set t i v) back_here ∙ set_at (take i y₀) (get_or y₀ i nan) (packed_backward l (length y₀) y₀ k) v i (length-take-le i y₀ (omega arith))
      ∙ rw (add-one, ← ei, ev, back_at, es, back_sum n)

pub backward_none : (l y : List Float) (c : ℕ) → y ≡ take (length y - 0) y ++ packed_backward l c y 0
unfolding packed_backward
backward_none l y c = let e : length y - 0 ≡ length y = omega arith in rw (e, take-length y, append-nil)

-- ---- both

length_backward : (l y : List Float) (c k : ℕ) → length (packed_backward l c y k) ≡ k
unfolding packed_backward
length_backward l y c zero = refl
length_backward l y c (suc k) = ap suc (length_backward l y c k)

pub length_solve : (c : ℕ) (l b : List Float) → length (packed_solve c l b) ≡ c
unfolding packed_solve
length_solve c l b = length_backward l (packed_forward l b c) c c
