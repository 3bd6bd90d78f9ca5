-- Every refusal from the blocks on leaves zeros.
use Prim.Native.Nat.{ℕ, zero, suc, ◌+◌, ◌*◌}
use mathlib.Core.Path.{◌≡◌, refl}
use mathlib.Core.Bool.{Bool, true, false}
use mathlib.Core.List.{List, [], ◌∷◌, ◌++◌}
use lib.ListN.{get_or, replicate, set}
use lib.Ieee.{Float, nan}
use Rattle.definitions.specs.Numbers.{◌*ᶠ◌, zeroᶠ, rootᶠ, above, symmetry_tol, pivot_tol, total}
use Rattle.definitions.specs.Refusal.{refused, keeps_all, cause_of}
use Rattle.definitions.specs.Matrix.{Matrix, stored_at}
use Rattle.definitions.specs.Diagonal.{diagonal_from, diagonal_of}
use Rattle.definitions.specs.Factor.{factor_rows, below_diagonal, rest}
use Rattle.definitions.specs.Block.{block_of, top_of, skewed, in_block, block_factor, factors_from, factors_of, block_count, width_of}
use Rattle.definitions.specs.Coarse.{coarse_factor}
use Rattle.definitions.specs.Places.{Lengths}
use Rattle.definitions.specs.Setup.{grouping_of, graph_of, transfer_for}
use Rattle.definitions.specs.declared.Options.{Options}
use Rattle.definitions.specs.declared.Refusal.{Refusal}
use Rattle.definitions.specs.declared.Refusal.TheVariants.{BlockNotSymmetric, BlockPivot, MissingDiagonal, CoarsePivot}
use Rattle.definitions.specs.declared.TwoLevelAggregation.{TwoLevelAggregation}
use Rattle.definitions.specs.declared.TwoLevelAggregation.TheVariants.{Contiguous, Graph, StrongGraph}
use Rattle.definitions.specs.declared.TwoLevelBasis.{TwoLevelBasis}
use Rattle.definitions.specs.declared.TwoLevelBasis.TheVariants.{PiecewiseConstant, JacobiSmoothed}
use Rattle.laws.proofs.Clearing.{Clears, clears_require, clears_then, clears_done, clears_estimate}
use Rattle.two_level_setup.specs.Stages.{fine_of, room_checked, transfer_stage, matrix_of, coarse_stage, coarse_level_of, build_of}

-- ---- Cholesky

clears_factor : (place : ℕ → ℕ → ℕ) (bad : ℕ → Refusal) (a : ℕ → ℕ → Float) (tol : Float) → ((i : ℕ) → keeps_all (bad i) ≡ false) → (left i : ℕ) (l : List Float) → Clears (factor_rows place bad a tol left i l)
unfolding factor_rows Clears
clears_factor place bad a tol k zero i l = tt
clears_factor place bad a tol k (suc left) i l = go (above tol (rest place a (below_diagonal place a i i l) i i)) (clears_factor place bad a tol k left (suc i) (set (below_diagonal place a i i l) (place i i) (rootᶠ (rest place a (below_diagonal place a i i l) i i))))
  where
    go : (b : Bool) → Clears (factor_rows place bad a tol left (suc i) (set (below_diagonal place a i i l) (place i i) (rootᶠ (rest place a (below_diagonal place a i i l) i i)))) → Clears {A = List Float} (elim b [ true ↦ factor_rows place bad a tol left (suc i) (set (below_diagonal place a i i l) (place i i) (rootᶠ (rest place a (below_diagonal place a i i l) i i))) | false ↦ refused (bad i) ])
    go true h = h
    go false h = k i

clears_block : (a : Matrix) (start w : ℕ) → Clears (block_factor a start w)
unfolding block_factor Clears keeps_all cause_of
clears_block a start w = go (skewed (block_of a start w) w (symmetry_tol *ᶠ top_of (block_of a start w)))
  where
    go : (b : Bool) → Clears {A = List Float} (elim b [
      | true ↦ refused (BlockNotSymmetric start)
      | false ↦ factor_rows (in_block w) (λ i. BlockPivot (start + i)) (λ i j. get_or (block_of a start w) (in_block w i j) nan) (pivot_tol *ᶠ top_of (block_of a start w)) w 0 (replicate (w * w) zeroᶠ)
    ])
    go true = refl
    go false = clears_factor (in_block w) (λ i. BlockPivot (start + i)) _ _ (λ i. refl) w 0 (replicate (w * w) zeroᶠ)

clears_blocks : (a : Matrix) (size left k : ℕ) (factors : List Float) → Clears (factors_from a size left k factors)
unfolding factors_from
clears_blocks a size zero k factors = clears_done factors
clears_blocks a size (suc left) k factors = clears_then _ _ (clears_block a (k * size) (width_of a.rows size k)) (λ l. clears_blocks a size left (suc k) (factors ++ l))

clears_factors : (a : Matrix) (size : ℕ) → Clears (factors_of a size)
unfolding factors_of
clears_factors a size = clears_blocks a size (block_count a.rows size) 0 []

-- ---- the groups

clears_graph : (lists : List (List ℕ)) (nodes size : ℕ) → Clears (graph_of lists nodes size)
unfolding graph_of keeps_all cause_of
clears_graph lists nodes size = clears_then _ _ (clears_require _ _ refl) (λ _. clears_done _)

clears_groups : (k : TwoLevelAggregation) (a : Matrix) (o : Options) → Clears (grouping_of k a o)
unfolding grouping_of
clears_groups Contiguous a o = clears_done _
clears_groups Graph a o = clears_graph _ _ _
clears_groups StrongGraph a o = clears_graph _ _ _

-- ---- the transfer

clears_diagonal : (a : Matrix) (left i : ℕ) (sums : List Float) → Clears (diagonal_from a left i sums)
unfolding diagonal_from Clears keeps_all cause_of
clears_diagonal a zero i sums = tt
clears_diagonal a (suc left) i sums = go (stored_at a i i) (clears_diagonal a left (suc i) (sums ++ (total (stored_at a i i) ∷ [])))
  where
    go : (s : List Float) → Clears (diagonal_from a left (suc i) (sums ++ (total (stored_at a i i) ∷ []))) → Clears {A = List Float} (elim s [ [] ↦ refused (MissingDiagonal i) | v ∷ vs ↦ diagonal_from a left (suc i) (sums ++ (total (stored_at a i i) ∷ [])) ])
    go [] h = refl
    go (v ∷ vs) h = h

clears_transfer : (basis : TwoLevelBasis) (a : Matrix) (size : ℕ) (ids : List ℕ) (c : ℕ) → Clears (transfer_for basis a size ids c)
unfolding transfer_for diagonal_of
clears_transfer PiecewiseConstant a size ids c = clears_done _
clears_transfer JacobiSmoothed a size ids c = clears_then _ _ (clears_diagonal a a.rows 0 []) (λ d. clears_then _ _ (clears_estimate a d) (λ e. clears_done _))

-- ---- the coarse part, and all

clears_coarse : (c : ℕ) (m : List Float) → Clears (coarse_factor c m)
unfolding coarse_factor keeps_all cause_of
clears_coarse c m = clears_then _ _ (clears_require _ _ refl) (λ _. clears_factor _ (λ i. CoarsePivot i) _ _ (λ i. refl) c 0 _)

pub clears_all : (a : Matrix) (o : Options) (room : Lengths) → Clears (build_of a o room)
unfolding build_of fine_of coarse_level_of room_checked transfer_stage coarse_stage keeps_all cause_of
clears_all a o room =
    clears_then _ _ (clears_then _ _ (clears_factors a o.block) (λ factors. clears_then _ _ (clears_groups o.aggregation a o) (λ g. clears_done _))) (λ p.
    clears_then _ _ (clears_then _ _ (clears_require _ _ refl) (λ _. clears_require _ _ refl)) (λ _.
    clears_then _ _ (clears_then _ _ (clears_transfer p.setup.basis a p.setup.block p.ids p.setup.coarse) (λ t. clears_done _)) (λ q.
    clears_then _ _ (clears_coarse q.setup.coarse (matrix_of a q)) (λ l. clears_done _))))
