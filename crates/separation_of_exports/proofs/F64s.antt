-- Every float that an accepted setup stores, and every float of a corrected vector, is an f64: a result of an operation, or a constant.
use Prim.Native.Nat.{ℕ, zero, suc, ◌*◌, ◌+◌}
use mathlib.Core.Path.{◌≡◌, subst, sym}
use mathlib.Core.Bool.{Bool, true, false}
use mathlib.Core.List.{List, [], ◌++◌, map, flat_map}
use native.Mathlib.Nat.{zero-add}
use lib.Dec.{T, eqb}
use lib.ListN.{get_or, replicate}
use lib.Ieee.{Float, nan, binary64, fits, ne}
use lib.Ieee.Fits.{cond-fits, nan-fits, add-fits, div-fits}
use lib.Ieee.Bits.{of_bits-fits}
use Rattle.definitions.specs.Lists.{up_to}
use Rattle.definitions.specs.Numbers.{◌*ᶠ◌, ◌/ᶠ◌, rootᶠ, zeroᶠ, oneᶠ, pivot_tol, symmetry_tol, larger, largest}
use Rattle.definitions.specs.Refusal.{Outcome, refused, done}
use Rattle.definitions.specs.Matrix.{Matrix, Entry, stored_at}
use Rattle.definitions.specs.Factor.{entry, products, rest, below_diagonal, factor_rows}
use Rattle.definitions.specs.Block.{block_of, block_entry, top_of, in_block, skewed, block_factor, width_of, factors_from, factors_of}
use Rattle.definitions.specs.Transfer.{tentative, smoothing_terms, weight_at, transfer_row, transfer_of, coarse_column}
use Rattle.definitions.specs.Coarse.{packed, packed_length, coarse_factor, packed_forward, packed_backward, packed_solve, unit, inverse_of, entry_in, coarse_part}
use Rattle.definitions.specs.Setup.{Transfer, transfer_for, transfer_floats, coarse_matrix, built_from}
use Rattle.definitions.specs.Apply.{applied}
use Rattle.definitions.specs.declared.Setup.{Setup}
use Rattle.definitions.specs.declared.Options.{Options}
use Rattle.definitions.specs.declared.Refusal.{Refusal}
use Rattle.definitions.specs.declared.Refusal.TheVariants.{BlockPivot, BlockNotSymmetric, CoarseScale, CoarsePivot}
use Rattle.definitions.specs.declared.TwoLevelBasis.{TwoLevelBasis}
use Rattle.definitions.specs.declared.TwoLevelBasis.TheVariants.{PiecewiseConstant, JacobiSmoothed}
use Rattle.definitions.specs.declared.TwoLevelCoarseApplyPolicy.{TwoLevelCoarseApplyPolicy}
use Rattle.definitions.specs.declared.TwoLevelCoarseApplyPolicy.TheVariants.{Auto, FactorSolve, ExplicitInverse}
use Rattle.laws.proofs.Lists.{Each, none, more, each_any, each_read, each_set, each_replicate, each_square, each_append, each_tab, each_map, each_flat_map, each_keep}
use Rattle.laws.proofs.Outcomes.{done_inj, refused_not_done, bind_done, test_passed}
use Rattle.laws.proofs.RootLaws.{root_fits}
use Rattle.laws.proofs.Factor.{factor_induct, pivot_of}
use Rattle.laws.proofs.FiniteFactor.{reduced_fits, total_fits}
use Rattle.laws.proofs.Record.{averages_fit, matrix_fits_lem}
use Rattle.separation.proofs.Stages.{Stages, dimension, coarse_averaged, built}
use Rattle.separation.proofs.ApplyApart.{constant_weights, smoothed_weights}

abbrev pub F64s : List Float → Type 0
F64s xs = Each (λ x. T (fits binary64 x)) xs

zero_fits : T (fits binary64 zeroᶠ)
zero_fits = of_bits-fits binary64 0

-- ---- factors

module _ (place : ℕ → ℕ → ℕ) (a : ℕ → ℕ → Float) (own : (i j : ℕ) → T (fits binary64 (a i j))) where
  below_fits : (i j : ℕ) (l : List Float) → F64s l → F64s (below_diagonal place a i j l)
  unfolding below_diagonal
  below_fits i zero l e = e
  below_fits i (suc j) l e =
      let m = below_diagonal place a i j l in
      each_set m (place i j) (rest place a m i j /ᶠ entry place m j j) (below_fits i j l e) (div-fits binary64 (rest place a m i j) (entry place m j j))

  rest_fits : (l : List Float) (i j : ℕ) → T (fits binary64 (rest place a l i j))
  unfolding rest
  rest_fits l i j = reduced_fits (a i j) (products place l i j) (own i j)

  rows_fit_lem : (bad : ℕ → Refusal) (tol : Float) (n : ℕ) (l m : List Float) → F64s l → factor_rows place bad a tol n 0 l ≡ done m → F64s m
  rows_fit_lem bad tol n l m e d =
      factor_induct place a bad tol n (λ i x. F64s x)
      (λ i x h t f. each_set (below_diagonal place a i i x) (place i i) (rootᶠ (pivot_of place a i x)) (below_fits i i x f) (root_fits binary64 (pivot_of place a i x) (rest_fits (below_diagonal place a i i x) i i)))
      n 0 l m (zero-add n) e d

block_fits : (a : Matrix) (start w : ℕ) (l : List Float) → block_factor a start w ≡ done l → F64s l
unfolding block_factor block_of block_entry
block_fits a start w l e = go (skewed (block_of a start w) w (symmetry_tol *ᶠ top_of (block_of a start w))) e
  where
    d : List Float
    d = block_of a start w

    all_fit : F64s (block_of a start w)
    all_fit = each_square w (block_entry a start) (λ i j. total_fits (stored_at a (start + i) (start + j)))

    go : (b : Bool) → ◌≡◌ {A = Outcome (List Float)} (elim b [ true ↦ refused (BlockNotSymmetric start) | false ↦ factor_rows (in_block w) (λ i. BlockPivot (start + i)) (λ i j. get_or d (in_block w i j) nan) (pivot_tol *ᶠ top_of d) w 0 (replicate (w * w) zeroᶠ) ]) (done l) → F64s l
    go true u = absurd (refused_not_done u)
    go false u =
        rows_fit_lem (in_block w) (λ i j. get_or d (in_block w i j) nan) (λ i j. each_read d (in_block w i j) nan all_fit (nan-fits binary64)) (λ i. BlockPivot (start + i)) (pivot_tol *ᶠ top_of d) w (replicate (w * w) zeroᶠ) l
        (each_replicate (w * w) zeroᶠ zero_fits) u

factors_fit : (a : Matrix) (size left k : ℕ) (l m : List Float) → F64s l → factors_from a size left k l ≡ done m → F64s m
unfolding factors_from
factors_fit a size zero k l m f e = subst F64s (done_inj e) f
factors_fit a size (suc left) k l m f e =
    let y = bind_done (block_factor a (k * size) (width_of a.rows size k)) _ m e in
    factors_fit a size left (suc k) (l ++ y.0) m (each_append f (block_fits a (k * size) (width_of a.rows size k) y.0 y.1)) y.2

coarse_fits : (c : ℕ) (m l : List Float) → F64s m → coarse_factor c m ≡ done l → F64s l
unfolding coarse_factor
coarse_fits c m l f e =
    rows_fit_lem packed (entry_in m c) (λ i j. each_read m (i * c + j) nan f (nan-fits binary64)) (λ i. CoarsePivot i) (pivot_tol *ᶠ larger (largest m) oneᶠ) c (replicate (packed_length c) zeroᶠ) l
    (each_replicate (packed_length c) zeroᶠ zero_fits) (test_passed _ CoarseScale _ l e).1

-- ---- the inverse: each number of a solve is a quotient

backward_fits : (l : List Float) (c : ℕ) (y : List Float) (k : ℕ) → F64s (packed_backward l c y k)
unfolding packed_backward
backward_fits l c y zero = none
backward_fits l c y (suc k) = more (div-fits binary64 _ _) (backward_fits l c y k)

part_fits : (policy : TwoLevelCoarseApplyPolicy) (c : ℕ) (l : List Float) → F64s l → F64s (coarse_part policy c l)
unfolding coarse_part inverse_of packed_solve
part_fits Auto c l f = f
part_fits FactorSolve c l f = f
part_fits ExplicitInverse c l f =
    averages_fit c (flat_map (λ i. packed_solve c l (unit c i)) (up_to c)) (each_flat_map (λ i. packed_solve c l (unit c i)) (each_any (up_to c) (λ i. backward_fits l c (packed_forward l (unit c i) c) c)))

-- ---- the transfer's weights

weights_fit : (basis : TwoLevelBasis) (a : Matrix) (size : ℕ) (ids : List ℕ) (c : ℕ) (t : Transfer) → transfer_for basis a size ids c ≡ done t → F64s (transfer_floats t.weights)
unfolding transfer_floats transfer_of transfer_row weight_at tentative flat_map
weights_fit PiecewiseConstant a size ids c t e = subst (λ (ws : List (List Entry)). F64s (flat_map (λ row. map (λ e. e.value) row) ws)) (sym (constant_weights a size ids c t e)) none
weights_fit JacobiSmoothed a size ids c t e =
    let w = smoothed_weights a size ids c t e in
    subst (λ (ws : List (List Entry)). F64s (flat_map (λ row. map (λ e. e.value) row) ws)) (sym w.2)
    (each_flat_map (λ row. map (λ e. e.value) row) (each_tab (transfer_row a w.0 w.1 size ids c) a.rows
    (λ i l. each_map (λ e. e.value) (each_keep (λ e. ne e.value zeroᶠ) (each_tab (λ j. record { col = j; value = weight_at a w.0 w.1 size ids i j }) c
    (λ j m u. reduced_fits (tentative size ids i j) (smoothing_terms a w.0 w.1 size ids i j) (cond-fits binary64 (eqb j (coarse_column size ids i)) oneᶠ zeroᶠ (of_bits-fits binary64 _) zero_fits)))))))

-- ---- an accepted setup, and what an apply computes with it

module _ {a : Matrix} {o : Options} (s : Stages a o) where
  pub built_fits : F64s (built s).floats
  unfolding built_from factors_of
  built_fits =
      each_append (each_append (factors_fit a o.block _ 0 [] s.factors none s.factored) (weights_fit o.basis a o.block s.groups.ids (dimension s) s.transfer s.transferred))
      (part_fits _ (dimension s) s.factor (coarse_fits (dimension s) (coarse_averaged s) s.factor (averages_fit (dimension s) (coarse_matrix a o s.groups s.transfer) (matrix_fits_lem a o s.groups s.transfer)) s.coarse))

pub applied_fits : (x : Setup) (ints : List ℕ) (floats r : List Float) → F64s (applied x ints floats r)
unfolding applied
applied_fits x ints floats r = each_tab _ x.rows (λ i _. add-fits binary64 _ _)
