-- The factor of a matrix with no entry between two sets has none either. Each entry left of the diagonal is what is left of the matrix's, over the pivot of its column
-- (`coarse_rows`, in crate laws), and each product taken off has a factor between the sets.
use mathlib.Core.Path.{◌≡◌, sym, subst}
use mathlib.Core.Logic.{◌⊎◌, inl, inr}
use mathlib.Core.Bool.{Bool, true, false}
use mathlib.Core.List.{List}
use Prim.Native.Nat.{ℕ, zero, suc, ◌<◌}
use native.Mathlib.Nat.{not-suc-le-zero, le_refl, le_trans, le_of_lt, lt_of_lt_of_le, le_of_suc-le-suc}
use lib.Dec.{T}
use lib.Ieee.{Float, unlike}
use Rattle.definitions.specs.Numbers.{◌*ᶠ◌, ◌/ᶠ◌}
use Rattle.definitions.specs.Refusal.{done}
use Rattle.definitions.specs.Factor.{entry, products, rest}
use Rattle.definitions.specs.Coarse.{packed, packed_entry, coarse_factor, entry_in}
use Rattle.laws.proofs.Lists.{each_tab}
use Rattle.laws.proofs.Near.{Vanishing, vanish_div, vanish_reduced, vanish_mul_l, vanish_mul_r}
use Rattle.laws.proofs.Factor.{coarse_rows}
use Rattle.separation.proofs.SolveApart.{Parted}

-- ---- no entry between two sets

either : (p q r : Bool) → T (unlike p q) → T (unlike p r) ⊎ T (unlike q r)
either true true r h = absurd h
either true false true h = inr tt
either true false false h = inl tt
either false true true h = inl tt
either false true false h = inr tt
either false false r h = absurd h

module _ (place : ℕ → ℕ → ℕ) (n : ℕ) (a : ℕ → ℕ → Float) (l : List Float) (P : ℕ → Bool)
    (R : (i j : ℕ) → i < n → j < i → entry place l i j ≡ rest place a l i j /ᶠ entry place l j j)
    (A : (i j : ℕ) → j < i → i < n → T (unlike (P i) (P j)) → Vanishing (a i j)) where
  vanish_below : (m i j : ℕ) → j < m → j < i → i < n → T (unlike (P i) (P j)) → Vanishing (entry place l i j)
  unfolding rest products
  vanish_below zero i j g h t u = absurd (not-suc-le-zero g)
  vanish_below (suc m) i j g h t u =
      subst Vanishing (sym (R i j t h))
      (vanish_div (rest place a l i j) (entry place l j j)
      (vanish_reduced (A i j h t u) (each_tab (λ k. entry place l i k *ᶠ entry place l j k) j
      (λ k b. term k b (either (P i) (P j) (P k) u)
      (vanish_below m i k (lt_of_lt_of_le b (le_of_suc-le-suc g)) (le_trans b (le_of_lt h)) t)
      (vanish_below m j k (lt_of_lt_of_le b (le_of_suc-le-suc g)) b (le_trans h (le_of_lt t)))))))
    where
      term : (k : ℕ) → k < j → T (unlike (P i) (P k)) ⊎ T (unlike (P j) (P k)) → (T (unlike (P i) (P k)) → Vanishing (entry place l i k))
          → (T (unlike (P j) (P k)) → Vanishing (entry place l j k))
          → Vanishing (entry place l i k *ᶠ entry place l j k)
      term k b (inl v) x y = vanish_mul_l (entry place l i k) (entry place l j k) (x v)
      term k b (inr v) x y = vanish_mul_r (entry place l i k) (entry place l j k) (y v)

  pub factor_vanish : Parted n (entry place l) P
  factor_vanish i j h t u = vanish_below (suc j) i j (le_refl (suc j)) h t u

-- the coarse factor
pub coarse_factor_vanish : (c : ℕ) (m l : List Float) (P : ℕ → Bool) → coarse_factor c m ≡ done l
    → ((i j : ℕ) → j < i → i < c → T (unlike (P i) (P j)) → Vanishing (entry_in m c i j)) → Parted c (packed_entry l) P
coarse_factor_vanish c m l P e A = factor_vanish packed c (entry_in m c) l P (coarse_rows c m l e).left A
