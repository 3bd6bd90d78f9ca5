-- Cholesky's steps as the code takes them.
use Prim.Native.Nat.{ℕ, suc, ◌+◌, ◌-◌, ◌<◌}
use mathlib.Core.Path.{◌≡◌, refl, ap, sym, ◌∙◌}
use mathlib.Core.Bool.{Bool, true, false}
use mathlib.Core.List.{List}
use native.Mathlib.Omega.{arith}
use native.Mathlib.Numerals.{add-one}
use lib.ListN.{get_or, set}
use lib.Ieee.{Float, nan}
use Rattle.definitions.specs.Numbers.{◌*ᶠ◌, ◌/ᶠ◌, rootᶠ, above, symmetry_tol, pivot_tol}
use Rattle.definitions.specs.Refusal.{refused, done}
use Rattle.definitions.specs.Factor.{rest, below_diagonal, factor_rows}
use Rattle.definitions.specs.Block.{in_block, top_of, skewed}
use Rattle.definitions.specs.declared.Refusal.{Refusal}
use Rattle.definitions.specs.declared.Refusal.TheVariants.{BlockNotSymmetric}
use Rattle.block_factor.specs.Dense.{blank, dense_entry}
use Rattle.block_factor.specs.Factored.{pivot_row, factor_of, FactorRows}

module _ (place : ℕ → ℕ → ℕ) (a : ℕ → ℕ → Float) where
  pub left_none : (i : ℕ) (l : List Float) → l ≡ below_diagonal place a i 0 l
  unfolding below_diagonal
  left_none i l = refl

  pub left_more : (i j : ℕ) (l₀ l m : List Float) (x y z : Float) → l ≡ below_diagonal place a i j l₀ → x ≡ rest place a l i j → y ≡ get_or l (place j j) nan → z ≡ x /ᶠ y → m ≡ set l (place i j) z
      → m ≡ below_diagonal place a i (j + 1) l₀
  unfolding below_diagonal
  left_more i j l₀ l m x y z e ex ey ez em = em ∙ rw (add-one, ez, ex, ey, e)

  -- one row more, where i rows are there: m is l with the row's entries left of the diagonal, d its pivot
  module _ (bad : ℕ → Refusal) (tol : Float) (w i : ℕ) (l m : List Float) (d : Float) (t : Bool) (h : i < w)
      (em : m ≡ below_diagonal place a i i l) (ed : d ≡ rest place a m i i) (et : t ≡ above tol d) where
    here : above tol (rest place a (below_diagonal place a i i l) i i) ≡ t
    here = rw (← em, ← ed) (sym et)

    pub row_more : (r : Float) (n : List Float) → t ≡ true → r ≡ rootᶠ d → n ≡ set m (place i i) r
        → factor_rows place bad a tol (w - i) i l ≡ factor_rows place bad a tol (w - (i + 1)) (i + 1) n
    unfolding factor_rows
    row_more r n p er en = let e : w - i ≡ suc (w - suc i) = omega arith in rw (add-one, e, en, er, ed, em) (rw (here ∙ p, factor_rows))

    pub row_refused : t ≡ false → factor_rows place bad a tol (w - i) i l ≡ refused (bad i)
    unfolding factor_rows
    row_refused p = let e : w - i ≡ suc (w - suc i) = omega arith in rw e (rw (here ∙ p, factor_rows))

  pub rows_all : (bad : ℕ → Refusal) (tol : Float) (w i : ℕ) (l : List Float) → i ≡ w → factor_rows place bad a tol (w - i) i l ≡ done l
  unfolding factor_rows
  rows_all bad tol w i l h = let e : w - i ≡ 0 = omega arith in rw e

-- the same for a block of a pair, wherever it begins: the rows left to do give, from the rows there, what all give
module _ (w : ℕ) (a : List Float) (tol : Float) where
  abbrev pub RowsLeft : ℕ → List Float → Type 0
  RowsLeft i l = (first : ℕ) → factor_rows (in_block w) (pivot_row first) (dense_entry w a) tol (w - i) i l ≡ factor_rows (in_block w) (pivot_row first) (dense_entry w a) tol w 0 blank

  pub rows_step : (i : ℕ) (l m n : List Float) (d : Float) (t : Bool) (r : Float) → RowsLeft i l → i < w → m ≡ below_diagonal (in_block w) (dense_entry w a) i i l → d ≡ rest (in_block w) (dense_entry w a) m i i → t ≡ above tol d
      → t ≡ true → r ≡ rootᶠ d → n ≡ set m (in_block w i i) r → RowsLeft (i + 1) n
  rows_step i l m n d t r inv h em ed et p er en first = sym (row_more (in_block w) (dense_entry w a) (pivot_row first) tol w i l m d t h em ed et r n p er en) ∙ inv first

  pub rows_end : (i : ℕ) (l : List Float) → RowsLeft i l → i ≡ w → FactorRows w a tol l
  rows_end i l inv h first = sym (inv first) ∙ rows_all (in_block w) (dense_entry w a) (pivot_row first) tol w i l h

module _ (first w : ℕ) (d : List Float) where
  pub factor_skewed : skewed d w (symmetry_tol *ᶠ top_of d) ≡ true → factor_of first w d ≡ refused (BlockNotSymmetric first)
  unfolding factor_of
  factor_skewed p = rw (p, factor_of)

  pub factor_goes : skewed d w (symmetry_tol *ᶠ top_of d) ≡ false
      → factor_of first w d ≡ factor_rows (in_block w) (pivot_row first) (λ i j. get_or d (in_block w i j) nan) (pivot_tol *ᶠ top_of d) w 0 blank
  unfolding factor_of
  factor_goes p = rw (p, factor_of)

-- the same from the scale that the code has
module _ (first w : ℕ) (d : List Float) (top : Float) (et : top ≡ top_of d) (t : Bool) (ef : t ≡ skewed d w (symmetry_tol *ᶠ top)) where
  pub stopped : t ≡ true → factor_of first w d ≡ refused (BlockNotSymmetric first)
  stopped p = factor_skewed first w d (rw (← et) (sym ef ∙ p))

  pub goes : t ≡ false → factor_of first w d ≡ factor_rows (in_block w) (pivot_row first) (λ i j. get_or d (in_block w i j) nan) (pivot_tol *ᶠ top) w 0 blank
  goes p = factor_goes first w d (rw (← et) (sym ef ∙ p)) ∙ ap (λ u. factor_rows (in_block w) (pivot_row first) (λ i j. get_or d (in_block w i j) nan) (pivot_tol *ᶠ u) w 0 blank) (sym et)
