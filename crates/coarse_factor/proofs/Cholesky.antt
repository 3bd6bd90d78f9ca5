-- The packed factor, a row at a time.
use Prim.Native.Nat.{ℕ, suc, ◌+◌, ◌-◌, ◌<◌, ◌≤◌}
use mathlib.Core.Path.{◌≡◌, refl}
use mathlib.Core.Bool.{true, false}
use mathlib.Core.List.{List}
use native.Mathlib.Omega.{arith}
use native.Mathlib.Numerals.{add-one}
use lib.ListN.{set}
use lib.Ieee.{Float}
use Rattle.definitions.specs.Numbers.{above, rootᶠ}
use Rattle.definitions.specs.Factor.{below_diagonal, rest, factor_rows}
use Rattle.definitions.specs.Refusal.{refused, done}
use Rattle.definitions.specs.declared.Refusal.TheVariants.{CoarsePivot}
use Rattle.definitions.specs.Coarse.{packed, packed_length, entry_in}

-- ---- the entries of a row, left to right

pub left_none : (a : ℕ → ℕ → Float) (i : ℕ) (l : List Float) → l ≡ below_diagonal packed a i 0 l
unfolding below_diagonal
left_none a i l = refl

-- ---- the rows, one by one: n - i are left

module _ (m : List Float) (c : ℕ) (tol : Float) (i : ℕ) (l : List Float) (k : List Float) (d : Float) (h : i < c) (start : ℕ) (es : start ≡ packed_length i)
    (ek : k ≡ below_diagonal packed (entry_in m c) i i l) (ed : d ≡ rest packed (entry_in m c) k i i) where
  pivot_is : d ≡ rest packed (entry_in m c) (below_diagonal packed (entry_in m c) i i l) i i
  pivot_is = rw ek at ed

  pub rows_on : {w : List Float} {r : Float} → above tol d ≡ true → r ≡ rootᶠ d → w ≡ set k (start + i) r
      → factor_rows packed (λ i. CoarsePivot i) (entry_in m c) tol (c - i) i l ≡ factor_rows packed (λ i. CoarsePivot i) (entry_in m c) tol (c - (i + 1)) (i + 1) w
  unfolding factor_rows
  rows_on p q e = let n : c - i ≡ suc (c - suc i) = omega arith in let t = rw pivot_is at p in rw (add-one, n, t, factor_rows) (rw (e, q, es, ek, pivot_is))

  pub rows_stop : above tol d ≡ false → factor_rows packed (λ i. CoarsePivot i) (entry_in m c) tol (c - i) i l ≡ refused (CoarsePivot i)
  unfolding factor_rows
  rows_stop p = let n : c - i ≡ suc (c - suc i) = omega arith in let t = rw pivot_is at p in rw (n, t, factor_rows)

pub rows_end : (m : List Float) (c : ℕ) (tol : Float) (i : ℕ) (l : List Float) → c ≤ i → factor_rows packed (λ i. CoarsePivot i) (entry_in m c) tol (c - i) i l ≡ done l
unfolding factor_rows
rows_end m c tol i l h = let n : c - i ≡ 0 = omega arith in rw n
