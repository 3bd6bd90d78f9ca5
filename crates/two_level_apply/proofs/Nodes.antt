-- Loops over nodes: a node's rows and its group's columns lie within, and the puts of its rows are those of its part.
use Prim.Native.Nat.{ℕ, ◌+◌, ◌*◌, ◌<◌, ◌≤◌}
use mathlib.Core.Path.{◌≡◌, refl, ap, sym, ◌∙◌}
use mathlib.Core.List.{List}
use native.Mathlib.Omega.{arith}
use native.Mathlib.Nat.{mul-le-mul_right}
use lib.ListN.{length, get_or}
use lib.Ieee.{Float, nan}
use Rattle.definitions.specs.Transfer.{coarse_column}
use Rattle.laws.specs.Scatter.{scattered}
use Rattle.two_level_apply.specs.Scatter.{part_puts, restrict_puts, prolong_puts, Grouped}
use Rattle.laws.proofs.Scattering.{node_step}
use Rattle.two_level_apply.proofs.Restricting.{column_at}

module _ {size n c : ℕ} {ids : List ℕ} (g : Grouped size ids n c) (first node : ℕ) (e : first ≡ node * size) where
  pub rows_within : node < length ids → first + size ≤ n
  rows_within h = omega (arith, g.rows, mul-le-mul_right size h)

  pub columns_within : (w : ℕ) → w ≡ get_or ids node 0 → node < length ids → w * size + size ≤ c
  columns_within w q h = rw q (g.within node h)

  pub rows_passed : node ≡ length ids → first ≡ n
  rows_passed h = e ∙ rw h (sym g.rows)

module _ (size : ℕ) (ids : List ℕ) (first node w : ℕ) (e : first ≡ node * size) (q : w ≡ get_or ids node 0) where
  columns_are : (j : ℕ) → j < size → w * size + j ≡ coarse_column size ids (first + j)
  columns_are j h = rw (e, q) (sym (column_at size ids node j h))

  pub restrict_node : (r l₀ l m : List Float) → l ≡ scattered (restrict_puts (coarse_column size ids) r) first l₀ → m ≡ scattered (part_puts r first (w * size)) size l
      → m ≡ scattered (restrict_puts (coarse_column size ids) r) (first + size) l₀
  restrict_node r l₀ l m inv f =
      node_step (coarse_column size ids) (λ j. w * size + j) (λ i. get_or r i nan) (λ j. get_or r (first + j) nan) l₀ l m first size columns_are (λ j h. refl) inv f

  pub prolong_node : (sol l₀ l m : List Float) → l ≡ scattered (prolong_puts (coarse_column size ids) sol) first l₀ → m ≡ scattered (part_puts sol (w * size) first) size l
      → m ≡ scattered (prolong_puts (coarse_column size ids) sol) (first + size) l₀
  prolong_node sol l₀ l m inv f =
      node_step (λ i. i) (λ j. first + j) (λ i. get_or sol (coarse_column size ids i) nan) (λ j. get_or sol (w * size + j) nan) l₀ l m first size (λ j h. refl)
      (λ j h. ap (λ k. get_or sol k nan) (columns_are j h)) inv f
