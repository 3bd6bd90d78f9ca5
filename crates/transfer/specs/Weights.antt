-- A row's weights in a list with a place for each coarse column.
use Rattle.std.specs.Prelude.{ℕ, ◌+◌, ◌<◌, ◌≤◌, ◌≡◌, Bool, true, cond, eqb, length, get_or, take, Float}
use Rattle.std.proofs.Math.Seq.{slice}
use mathlib.Core.List.{List, ◌∷◌, ◌++◌, map}
use Rattle.std.specs.Float.{nan}
use Rattle.std.specs.Float.Ieee.{ne}
use Rattle.definitions.specs.Numbers.{◌*ᶠ◌, ◌/ᶠ◌, zeroᶠ, oneᶠ, reduced}
use Rattle.definitions.specs.Lists.{any, keep, padded, pointers_from, joined_lists}
use Rattle.definitions.specs.Matrix.{Matrix, Entry, values_where, stored}
use Rattle.definitions.specs.Transfer.{coarse_column}
use Rattle.transfer.specs.Touched.{named, Visited}

-- the weights at the columns t are a row's: 1 at its own, else 0, less what its entries take off
abbrev pub RowWeights : (ℕ → ℕ) → Float → Float → ℕ → List Entry → List ℕ → List Float → Type 0
RowWeights column damping inv own es t w = (j : ℕ) → j < length w → any (λ x. eqb x j) t ≡ true → get_or w j nan ≡ reduced (cond (eqb j own) oneᶠ zeroᶠ) (map (λ v. damping *ᶠ v *ᶠ inv) (values_where (λ k. eqb (column k) j) es))

-- a weight that is stored
abbrev pub counts : List Float → ℕ → Bool
counts w j = ne (get_or w j nan) zeroᶠ

-- the first r of t are columns below c, among them all that row i touches, and there w has the row's weights
pub record Weighed (a : Matrix) (d : List Float) (damping : Float) (size : ℕ) (ids : List ℕ) (c i : ℕ) (t : List ℕ) (w : List Float) (r : ℕ) : Type 0 where
  pub visited : Visited (coarse_column size ids i ∷ named (coarse_column size ids) (slice (get_or a.row_ptr i 0) (get_or a.row_ptr (i + 1) 0) a.col_idx)) c t r
  pub weights : RowWeights (coarse_column size ids) damping (oneᶠ /ᶠ get_or d i nan) (coarse_column size ids i) (stored a.col_idx a.values (get_or a.row_ptr i 0) (get_or a.row_ptr (i + 1) 0)) (take r t) w

-- those of the columns t whose weight counts, and these weights, behind the first `at` of two lists, which then are r
pub record Stored (t : List ℕ) (w : List Float) (at : ℕ) (columns columns' : List ℕ) (weights weights' : List Float) (r : ℕ) : Type 0 where
  pub columns_after : take r columns' ≡ take at columns ++ keep (counts w) t
  pub weights_after : take r weights' ≡ take at weights ++ map (λ j. get_or w j nan) (keep (counts w) t)
  pub many : r ≡ at + length (keep (counts w) t)

-- rows in three lists: where each begins, then their columns and their weights, of which there are r
pub record Built (rows : List (List Entry)) (pointers columns : List ℕ) (weights : List Float) (r : ℕ) : Type 0 where
  pub starts : pointers ≡ pointers_from 0 rows
  pub names : take r columns ≡ map (λ (e : Entry). e.col) (joined_lists rows)
  pub numbers : take r weights ≡ map (λ (e : Entry). e.value) (joined_lists rows)
  pub many : r ≡ length (joined_lists rows)
  pub room : (r ≤ length columns) × (r ≤ length weights)

-- what the two lists hold when all is done: zeros behind pointers and columns, and behind the weights
pub record Left (rows : List (List Entry)) (r : ℕ) (ints ints' : List ℕ) (floats floats' : List Float) : Type 0 where
  pub many : r ≡ length (joined_lists rows)
  pub columns : ints' ≡ padded 0 (length ints) (pointers_from 0 rows ++ map (λ (e : Entry). e.col) (joined_lists rows))
  pub weights : floats' ≡ padded zeroᶠ (length floats) (map (λ (e : Entry). e.value) (joined_lists rows))
