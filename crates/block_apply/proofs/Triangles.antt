-- The solves with one block's factor, in place: forward from the front, backward from the end.
use Prim.Native.Nat.{ℕ, zero, suc, ◌+◌, ◌-◌, ◌<◌, ◌≤◌}
use mathlib.Core.Path.{◌≡◌, refl, ap, sym, ◌∙◌}
use mathlib.Core.List.{List, [], ◌∷◌, ◌++◌, append-nil, append_assoc}
use native.Mathlib.Omega.{arith}
use native.Mathlib.Numerals.{add-one}
use lib.ListN.{length, get_or, set, take, drop, length-append, get_or-append}
use lib.Seq.{drop-cons, set_at, get_or_at, take-suc, take-length, length-take-le, get_or-append-add}
use lib.Ieee.{Float, nan}
use Rattle.definitions.specs.Lists.{tab}
use Rattle.definitions.specs.Numbers.{◌-ᶠ◌, ◌*ᶠ◌, ◌/ᶠ◌, reduced}
use Rattle.definitions.specs.Block.{lower, forward, backward, block_solve}
use Rattle.laws.proofs.Lists.{tab_cong}
use Rattle.laws.proofs.Growing.{reduced_none}
use Rattle.block_apply.proofs.Sums.{reduced_from}

-- ---- forward

length_forward : (l : List Float) (w : ℕ) (r : List Float) (i : ℕ) → length (forward l w r i) ≡ i
unfolding forward
length_forward l w r zero = refl
length_forward l w r (suc i) = rw (length-append, length_forward l w r i) (add-one i)

module _ (l r z₀ z : List Float) (w i : ℕ) (h : i < length z₀) (e : z ≡ forward l w r i ++ drop i z₀) where
  here : z ≡ forward l w r i ++ get_or z₀ i nan ∷ drop (suc i) z₀
  here = e ∙ ap (λ t. forward l w r i ++ t) (drop-cons z₀ i nan h)

  below : (k : ℕ) → k < i → get_or z k nan ≡ get_or (forward l w r i) k nan
  below k q = rw e (get_or-append (forward l w r i) (drop i z₀) nan k (rw (length_forward l w r i) q))

  forward_sum : (x : Float) → reduced x (tab (λ k. lower l w i k *ᶠ get_or z k nan) i) ≡ reduced x (tab (λ k. lower l w i k *ᶠ get_or (forward l w r i) k nan) i)
  forward_sum x = ap (reduced x) (tab_cong (λ k. lower l w i k *ᶠ get_or z k nan) (λ k. lower l w i k *ᶠ get_or (forward l w r i) k nan) i (λ k q. rw (below k q)))

  pub forward_step : (sum v : Float) → sum ≡ reduced (get_or r i nan) (tab (λ k. lower l w i k *ᶠ get_or z k nan) i) → v ≡ sum /ᶠ lower l w i i
      → set z i v ≡ forward l w r (i + 1) ++ drop (i + 1) z₀
  unfolding forward
  forward_step sum v es ev =
      ap (λ t. set t i v) here ∙ set_at (forward l w r i) (get_or z₀ i nan) (drop (suc i) z₀) v i (length_forward l w r i)
      ∙ rw (add-one, ev, es, forward_sum (get_or r i nan)) (sym (append_assoc (forward l w r i) _ (drop (suc i) z₀)))

pub forward_none : (l : List Float) (w : ℕ) (r z : List Float) → z ≡ forward l w r 0 ++ drop 0 z
unfolding forward
forward_none l w r z = refl

-- ---- backward

length_backward : (l : List Float) (w : ℕ) (y : List Float) (k : ℕ) → length (backward l w y k) ≡ k
unfolding backward
length_backward l w y zero = refl
length_backward l w y (suc k) = ap suc (length_backward l w y k)

-- the products of column i, below the diagonal
abbrev pub column_term : List Float → ℕ → List Float → ℕ → ℕ → Float
column_term l w z i m = lower l w (suc i + m) i *ᶠ get_or z (suc i + m) nan

module _ (l : List Float) (w : ℕ) (z : List Float) (x : Float) (i : ℕ) where
  pub column_none : x ≡ reduced x (tab (column_term l w z i) (i + 1 - suc i))
  column_none = let e : i + 1 - suc i ≡ 0 = omega arith in rw e (reduced_none x (column_term l w z i))

  pub column_step : (m : ℕ) (s : Float) → suc i ≤ m → s ≡ reduced x (tab (column_term l w z i) (m - suc i))
      → s -ᶠ lower l w m i *ᶠ get_or z m nan ≡ reduced x (tab (column_term l w z i) (m + 1 - suc i))
  column_step m s h e =
      let q : suc i + (m - suc i) ≡ m = omega arith in
      reduced_from x (column_term l w z i) (suc i) m s (s -ᶠ lower l w m i *ᶠ get_or z m nan) h e (rw q)

-- the numbers from i on are solved
module _ (l z₀ z : List Float) (w i j : ℕ) (h : i < length z₀) (n : length z₀ ≡ w) (ej : j ≡ suc i) (e : z ≡ take j z₀ ++ backward l w z₀ (w - j)) where
  abbrev solved : List Float
  solved = backward l w z₀ (w - suc i)

  back_all : z ≡ take (suc i) z₀ ++ solved
  back_all = rw ej at e

  back_here : z ≡ take i z₀ ++ get_or z₀ i nan ∷ solved
  back_here = back_all ∙ rw (take-suc z₀ i nan h) (append_assoc (take i z₀) (get_or z₀ i nan ∷ []) solved)

  back_at : get_or z i nan ≡ get_or z₀ i nan
  back_at = ap (λ t. get_or t i nan) back_here ∙ get_or_at (take i z₀) (get_or z₀ i nan) solved nan i (length-take-le i z₀ (omega arith))

  back_above : (m : ℕ) → get_or z (suc i + m) nan ≡ get_or solved m nan
  back_above m =
      let q : length (take (suc i) z₀) ≡ suc i = length-take-le (suc i) z₀ (omega arith) in
      ap (λ t. get_or t (suc i + m) nan) back_all ∙ ap (λ n. get_or (take (suc i) z₀ ++ solved) (n + m) nan) (sym q)
      ∙ get_or-append-add (take (suc i) z₀) solved m nan

  back_sum : (x : Float) → reduced x (tab (column_term l w z i) (w - suc i)) ≡ reduced x (tab (λ m. lower l w (suc i + m) i *ᶠ get_or solved m nan) (w - suc i))
  back_sum x = ap (reduced x) (tab_cong (column_term l w z i) (λ m. lower l w (suc i + m) i *ᶠ get_or solved m nan) (w - suc i) (λ m p. rw (back_above m)))

  pub backward_step : (sum v : Float) → sum ≡ reduced (get_or z i nan) (tab (column_term l w z i) (w - suc i)) → v ≡ sum /ᶠ lower l w i i
      → set z i v ≡ take i z₀ ++ backward l w z₀ (w - i)
  unfolding backward
  backward_step sum v es ev =
      let k : w - i ≡ suc (w - suc i) = omega arith in
      let q : w - suc (w - suc i) ≡ i = omega arith in
      ap (λ t. set t i v) back_here ∙ set_at (take i z₀) (get_or z₀ i nan) solved v i (length-take-le i z₀ (omega arith))
      ∙ rw (k, backward, q, ev, es, back_at, back_sum (get_or z₀ i nan))

pub backward_none : (l z : List Float) (w : ℕ) → length z ≡ w → z ≡ take w z ++ backward l w z (w - w)
unfolding backward
backward_none l z w h = let e : w - w ≡ 0 = omega arith in rw (e, ← h, take-length z, append-nil)

-- ---- both

pub length_solve : (l : List Float) (w : ℕ) (r : List Float) → length (block_solve l w r) ≡ w
unfolding block_solve
length_solve l w r = length_backward l w (forward l w r w) w

pub solve_law : (l : List Float) (w : ℕ) (r y z : List Float) → y ≡ forward l w r w → z ≡ backward l w y w → z ≡ block_solve l w r
unfolding block_solve
solve_law l w r y z e q = q ∙ rw e
