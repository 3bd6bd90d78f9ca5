-- A block is factored in the front of an array of 64 numbers: that front is the factor.
use Prim.Native.Nat.{ℕ, zero, suc, ◌+◌, ◌-◌, ◌≤◌, ◌<◌}
use mathlib.Core.Path.{◌≡◌, refl, ap, sym, ◌∙◌}
use mathlib.Core.Bool.{Bool, true, false}
use mathlib.Core.List.{List}
use native.Mathlib.Omega.{arith}
use native.Mathlib.Nat.{le_refl}
use lib.ListN.{set, take, replicate, length-replicate, replicate-append-replicate}
use lib.Seq.{get_or-take, take-set-lt, take_at}
use lib.Ieee.{Float, nan}
use Rattle.definitions.specs.Numbers.{◌*ᶠ◌, ◌/ᶠ◌, rootᶠ, zeroᶠ, reduced, above}
use Rattle.definitions.specs.Refusal.{Outcome, refused, done, ◌>>=◌}
use Rattle.definitions.specs.Factor.{entry, products, rest, below_diagonal, factor_rows}
use Rattle.definitions.specs.declared.Refusal.{Refusal}
use Rattle.laws.proofs.Lists.{tab_cong}
use Rattle.laws.proofs.Factor.{Placing}
use Rattle.block_factor.specs.Dense.{blank}

pub blank_front : (n : ℕ) → n ≤ 64 → take n blank ≡ replicate n zeroᶠ
unfolding blank
blank_front n h =
    let q : n + (64 - n) ≡ 64 = omega arith in
    ap (λ l. take n l) (ap (λ k. replicate k zeroᶠ) (sym q) ∙ sym (replicate-append-replicate n (64 - n) zeroᶠ)) ∙ take_at (replicate n zeroᶠ) (replicate (64 - n) zeroᶠ) n (length-replicate n zeroᶠ)

module _ (place : ℕ → ℕ → ℕ) (a : ℕ → ℕ → Float) (w n : ℕ) (placing : Placing place w n) where
  entry_front : (l : List Float) (i j : ℕ) → j ≤ i → i < w → entry place (take n l) i j ≡ entry place l i j
  entry_front l i j p q = get_or-take n l (place i j) nan (placing.inside i j p q)

  rest_front : (l : List Float) (i j : ℕ) → j ≤ i → i < w → rest place a (take n l) i j ≡ rest place a l i j
  unfolding rest products
  rest_front l i j p q =
      ap (λ t. reduced (a i j) t)
      (tab_cong (λ k. entry place (take n l) i k *ᶠ entry place (take n l) j k) (λ k. entry place l i k *ᶠ entry place l j k) j
      (λ k h. rw (entry_front l i k (omega arith) q, entry_front l j k (omega arith) (omega arith))))

  left_front : (i j : ℕ) (l : List Float) → j ≤ i → i < w → below_diagonal place a i j (take n l) ≡ take n (below_diagonal place a i j l)
  unfolding below_diagonal
  left_front i zero l p q = refl
  left_front i (suc j) l p q =
      let m = below_diagonal place a i j l in
      rw (left_front i j l (omega arith) q, rest_front m i j (omega arith) q, entry_front m j j (le_refl j) (omega arith))
      (sym (take-set-lt n m (place i j) (rest place a m i j /ᶠ entry place m j j) (placing.inside i j (omega arith) q)))

  pub factor_front : (bad : ℕ → Refusal) (tol : Float) (left i : ℕ) (l : List Float) → i + left ≡ w
      → factor_rows place bad a tol left i (take n l) ≡ (factor_rows place bad a tol left i l >>= (λ r. done (take n r)))
  unfolding factor_rows ◌>>=◌
  factor_front bad tol zero i l e = refl
  factor_front bad tol (suc left) i l e =
      ap (λ t. by t (rest place a t i i)) (left_front i i l (le_refl i) (omega arith))
      ∙ ap (λ y. by (take n m) y) (rest_front m i i (le_refl i) (omega arith))
      ∙ go (above tol pivot) (factor_front bad tol left (suc i) (set m (place i i) (rootᶠ pivot)) (omega arith))
    where
      m : List Float
      m = below_diagonal place a i i l

      pivot : Float
      pivot = rest place a m i i

      -- row i and those after it, by the row left of the diagonal and its pivot
      by : List Float → Float → Outcome (List Float)
      by t y = elim (above tol y) [ true ↦ factor_rows place bad a tol left (suc i) (set t (place i i) (rootᶠ y)) | false ↦ refused (bad i) ]

      go : (b : Bool) → factor_rows place bad a tol left (suc i) (take n (set m (place i i) (rootᶠ pivot))) ≡ (factor_rows place bad a tol left (suc i) (set m (place i i) (rootᶠ pivot)) >>= (λ r. done (take n r)))
          → ◌≡◌ {A = Outcome (List Float)} (elim b [ true ↦ factor_rows place bad a tol left (suc i) (set (take n m) (place i i) (rootᶠ pivot)) | false ↦ refused (bad i) ])
          (elim b [ true ↦ factor_rows place bad a tol left (suc i) (set m (place i i) (rootᶠ pivot)) | false ↦ refused (bad i) ] >>= (λ r. done (take n r)))
      go true ih = ap (λ z. factor_rows place bad a tol left (suc i) z) (sym (take-set-lt n m (place i i) (rootᶠ pivot) (placing.inside i i (le_refl i) (omega arith)))) ∙ ih
      go false ih = refl
