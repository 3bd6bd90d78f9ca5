-- One apply, with the parts of an accepted setup: residuals that are near on the part give corrections that are near on the part. The block solves stay inside a node; the
-- restriction of a column of the part sums rows of the part; the coarse solve keeps the sides apart; and what a row of the part gains comes from columns of the part.
use Rattle.std.proofs.lemmas.Nat.{div-mul-add}
use mathlib.Core.Path.{◌≡◌, refl, sym, ap, ◌∙◌, subst}
use mathlib.Core.Logic.{◌⊎◌, inl, inr}
use mathlib.Core.Bool.{Bool, not}
use mathlib.Core.List.{List, [], map, flat_map}
use Prim.Native.Nat.{ℕ, ◌+◌, ◌-◌, ◌*◌, ◌/◌, ◌%◌, ◌≤◌, ◌<◌}
use native.Mathlib.Nat.{le_trans, le_of_lt, mod-lt, div-lt_iff_lt-mul, div-add-mod'}
use native.Mathlib.Omega.{arith}
use lib.Dec.{T, eqb, eqb→eq}
use lib.ListN.{length, get_or, drop}
use lib.Seq.{get_or-take, get_or-drop}
use lib.Ieee.{Float, nan}
use Rattle.definitions.specs.Lists.{tab, up_to, keep, between}
use Rattle.definitions.specs.Numbers.{◌+ᶠ◌, ◌*ᶠ◌, total, summed}
use Rattle.definitions.specs.Refusal.{done}
use Rattle.definitions.specs.Matrix.{Matrix, Entry, entries_of, values_where}
use Rattle.definitions.specs.Links.{unconnected}
use Rattle.definitions.specs.Diagonal.{diagonal_of}
use Rattle.definitions.specs.Estimate.{estimate_of}
use Rattle.definitions.specs.Block.{width_of, block_part, block_solve, block_applied}
use Rattle.definitions.specs.Transfer.{coarse_column, transfer_row, transfer_of}
use Rattle.definitions.specs.Coarse.{weights_at, coarse_part, coarse_solve, resolved, packed_entry}
use Rattle.definitions.specs.Places.{node_count}
use Rattle.definitions.specs.Setup.{Transfer, transfer_for, coarse_entry, coarse_matrix}
use Rattle.definitions.specs.Apply.{constant_restriction_terms, smoothed_restriction_terms, prolongation_terms}
use Rattle.definitions.specs.Separation.{follows_graph}
use Rattle.definitions.specs.declared.Options.{Options}
use Rattle.definitions.specs.declared.TwoLevelBasis.{TwoLevelBasis}
use Rattle.definitions.specs.declared.TwoLevelBasis.TheVariants.{PiecewiseConstant, JacobiSmoothed}
use Rattle.definitions.specs.declared.TwoLevelCoarseApplyPolicy.{TwoLevelCoarseApplyPolicy}
use Rattle.laws.proofs.Lists.{Each, none, each_imp, each_any, each_both, each_keep, each_up_to, get_d_tab, get_d_rows}
use Rattle.laws.proofs.Near.{Near, Nears, both_none, near_add, near_scale, nears_map, nears_flat_map}
use Rattle.laws.proofs.NearSums.{near_total, near_summed}
use Rattle.laws.proofs.Outcomes.{done_inj, bind_done}
use Rattle.separation.proofs.SolveApart.{Parted, split, differ_back, coarse_near, block_near, block_length}
use Rattle.separation.proofs.FactorApart.{coarse_factor_vanish}
use Rattle.separation.proofs.Parts.{entries_apart, row_of_node}
use Rattle.laws.proofs.GroupIds.{ids_length, ids_below}
use Rattle.laws.proofs.SetupLists.{blocks_are_nodes, width_is_size}
use Rattle.separation.proofs.Columns.{nodes_apart, column_below, column_side, column_side_lem}
use Rattle.separation.proofs.CoarseApart.{entries_inside, weights_apart, weights_none, entry_vanish, average_vanish}
use Rattle.separation.proofs.Stages.{Stages, dimension, coarse_averaged, sound}

-- ---- the blocks: one for each node, each as wide as the block size

part_at : (r : List Float) (s w j : ℕ) → j < w → get_or (between s (s + w) r) j nan ≡ get_or r (s + j) nan
part_at r s w j h = get_or-take (s + w - s) (drop s r) j nan (subst (λ (x : ℕ). j < x) (sym (back s w)) h) ∙ get_or-drop s r j nan
  where
    back : (x y : ℕ) → x + y - x ≡ y
    back x y = omega arith

module _ (rows size : ℕ) (p : 1 ≤ size) (w : rows / size * size ≡ rows) (factors : List Float) where
  -- the solve of the block k, and where it stands
  solved : List Float → ℕ → List Float
  solved r k = block_solve (block_part size (width_of rows size k) k factors) (width_of rows size k) (between (k * size) (k * size + width_of rows size k) r)

  blocks_at : (r : List Float) (i : ℕ) → i < rows → get_or (block_applied rows size factors r) i nan ≡ get_or (solved r (i / size)) (i % size) nan
  unfolding block_applied solved up_to
  blocks_at r i h =
      ap (λ (n : ℕ). get_or (flat_map (solved r) (tab (λ k. k) n)) i nan) (blocks_are_nodes rows size p w)
      ∙ ap (λ (x : ℕ). get_or (flat_map (solved r) (tab (λ k. k) (rows / size))) x nan) (sym (div-add-mod' i size))
      ∙ get_d_rows (solved r) size (λ k. k) (rows / size) (i / size) (i % size) nan
      (λ k l. block_length (block_part size (width_of rows size k) k factors) (width_of rows size k) (between (k * size) (k * size + width_of rows size k) r) ∙ width_is_size rows size k w l)
      ((div-lt_iff_lt-mul p).1 (subst (λ (x : ℕ). i < x) (sym w) h)) (mod-lt i p)

  pub blocks_near : (P : ℕ → Bool) (r r' : List Float) → ((i : ℕ) → i < rows → T (P (i / size)) → Near (get_or r i nan) (get_or r' i nan))
      → (i : ℕ) → i < rows → T (P (i / size)) → Near (get_or (block_applied rows size factors r) i nan) (get_or (block_applied rows size factors r') i nan)
  unfolding solved
  blocks_near P r r' R i h q =
      subst (λ (x : Float). Near x (get_or (block_applied rows size factors r') i nan)) (sym (blocks_at r i h))
      (subst (λ (x : Float). Near (get_or (solved r v) (i % size) nan) x) (sym (blocks_at r' i h))
      (block_near (block_part size (width_of rows size v) v factors) (width_of rows size v) (between (v * size) (v * size + width_of rows size v) r) (between (v * size) (v * size + width_of rows size v) r')
      inside (i % size) (subst (λ (x : ℕ). i % size < x) (sym wide) (mod-lt i p))))
    where
      v : ℕ
      v = i / size

      below : v < rows / size
      below = (div-lt_iff_lt-mul p).1 (subst (λ (x : ℕ). i < x) (sym w) h)

      wide : width_of rows size v ≡ size
      wide = width_is_size rows size v w below

      inside : (j : ℕ) → j < width_of rows size v
          → Near (get_or (between (v * size) (v * size + width_of rows size v) r) j nan) (get_or (between (v * size) (v * size + width_of rows size v) r') j nan)
      inside j l =
          let g : j < size = subst (λ (x : ℕ). j < x) wide l in
          subst (λ (x : Float). Near x (get_or (between (v * size) (v * size + width_of rows size v) r') j nan)) (sym (part_at r (v * size) (width_of rows size v) j l))
          (subst (λ (x : Float). Near (get_or r (v * size + j) nan) x) (sym (part_at r' (v * size) (width_of rows size v) j l))
          (R (v * size + j) (row_of_node rows size v j below g) (subst (λ (x : ℕ). T (P x)) (sym (div-mul-add v size j g)) q)))

-- ---- the weights that a setup stores

pub constant_weights : (a : Matrix) (size : ℕ) (ids : List ℕ) (c : ℕ) (t : Transfer) → transfer_for PiecewiseConstant a size ids c ≡ done t → t.weights ≡ []
unfolding transfer_for
constant_weights a size ids c t e = ap (λ (x : Transfer). x.weights) (sym (done_inj e))

pub smoothed_weights : (a : Matrix) (size : ℕ) (ids : List ℕ) (c : ℕ) (t : Transfer) → transfer_for JacobiSmoothed a size ids c ≡ done t
    → (d : List Float) × (damping : Float) × (t.weights ≡ transfer_of a d damping size ids c)
unfolding transfer_for
smoothed_weights a size ids c t e =
    let s1 = bind_done (diagonal_of a) _ t e in
    let s2 = bind_done (estimate_of a s1.0) _ t s1.2 in
    (s1.0, s2.0.damping, ap (λ (x : Transfer). x.weights) (sym (done_inj s2.2)))

-- ---- what an apply computes, from the stages of a setup

module _ {a : Matrix} {o : Options} (s : Stages a o) where
  abbrev pub policy_by : TwoLevelCoarseApplyPolicy
  policy_by = resolved o.policy (dimension s)

  abbrev pub column_by : ℕ → ℕ
  column_by i = coarse_column o.block s.groups.ids i

  abbrev pub weights_by : ℕ → List Entry
  weights_by i = get_or s.transfer.weights i []

  unfoldable pub parts_by : TwoLevelBasis → List Float → ℕ → List Float
  parts_by PiecewiseConstant r j = constant_restriction_terms column_by r j
  parts_by JacobiSmoothed r j = smoothed_restriction_terms weights_by r j

  unfoldable pub restricted_by : List Float → List Float
  restricted_by r = tab (λ j. total (parts_by o.basis r j)) (dimension s)

  unfoldable pub solution_by : List Float → List Float
  solution_by r = coarse_solve policy_by (dimension s) (coarse_part policy_by (dimension s) s.factor) (restricted_by r)

  unfoldable pub gained_by : TwoLevelBasis → List Float → ℕ → Float
  gained_by PiecewiseConstant sol i = get_or sol (column_by i) nan
  gained_by JacobiSmoothed sol i = summed (prolongation_terms (weights_by i) sol)

  unfoldable pub applied_by : List Float → List Float
  applied_by r = tab (λ i. get_or (block_applied a.rows o.block s.factors r) i nan +ᶠ gained_by o.basis (solution_by r) i) a.rows

-- ---- the sides

module _ {a : Matrix} {o : Options} (s : Stages a o) (part : ℕ → Bool) (graph : T (follows_graph o.aggregation)) (unlinked : T (unconnected a o.block [] part)) where
  row_side : ℕ → Bool
  row_side i = part (i / o.block)

  side : ℕ → Bool
  side = column_side part (node_count a o) o.block s.groups.ids

  node_below : (i : ℕ) → i < a.rows → i / o.block < node_count a o
  node_below i h = (div-lt_iff_lt-mul (sound s).block_some).1 (subst (λ (x : ℕ). i < x) (sym (sound s).whole) h)

  own : (i : ℕ) → i < a.rows → side (column_by s i) ≡ row_side i
  unfolding side row_side
  own i h =
      column_side_lem part (node_count a o) o.block s.groups.ids (sound s).block_some
      (nodes_apart a o s.groups part graph unlinked (sound s).group_some s.grouped) i (node_below i h)

  in_range : (i : ℕ) → i < a.rows → column_by s i < dimension s
  in_range =
      column_below a.rows o.block s.groups.count s.groups.ids (sound s).block_some (sound s).whole
      (ids_length a o s.groups o.aggregation s.grouped) (ids_below a o s.groups o.aggregation (sound s).group_some s.grouped)

  linked : (i : ℕ) → i < a.rows → Each (λ e. (e.col < a.rows) × (row_side i ≡ row_side e.col)) (entries_of a i)
  unfolding row_side
  linked i h = each_both (entries_inside a (sound s).idx_inside i) (entries_apart a o.block part unlinked i h)

  weights_side : (basis : TwoLevelBasis) → transfer_for basis a o.block s.groups.ids (dimension s) ≡ done s.transfer
      → (i : ℕ) → i < a.rows → Each (λ e. (e.col < dimension s) × (row_side i ≡ side e.col)) (weights_by s i)
  unfolding transfer_of
  weights_side PiecewiseConstant e i h =
      subst (λ (ws : List (List Entry)). Each (λ e. (e.col < dimension s) × (row_side i ≡ side e.col)) (get_or ws i [])) (sym (constant_weights a o.block s.groups.ids (dimension s) s.transfer e)) none
  weights_side JacobiSmoothed e i h =
      let w = smoothed_weights a o.block s.groups.ids (dimension s) s.transfer e in
      subst (λ (ws : List (List Entry)). Each (λ e. (e.col < dimension s) × (row_side i ≡ side e.col)) (get_or ws i [])) (sym w.2) (row w.0 w.1)
    where
      row : (d : List Float) (x : Float) → Each (λ e. (e.col < dimension s) × (row_side i ≡ side e.col)) (get_or (transfer_of a d x o.block s.groups.ids (dimension s)) i [])
      row d x =
          subst (Each (λ e. (e.col < dimension s) × (row_side i ≡ side e.col))) (sym (get_d_tab (transfer_row a d x o.block s.groups.ids (dimension s)) a.rows i [] h))
          (weights_apart a o.block s.groups.ids row_side side own linked d x (dimension s) i h)

  weights_here : (i : ℕ) → i < a.rows → Each (λ e. (e.col < dimension s) × (row_side i ≡ side e.col)) (weights_by s i)
  weights_here = weights_side o.basis s.transferred

  weights_same : (i : ℕ) → i < a.rows → Each (λ e. row_side i ≡ side e.col) (weights_by s i)
  weights_same i h = each_imp (λ e k. k.1) (weights_here i h)

  factor_parted : Parted (dimension s) (packed_entry s.factor) side
  unfolding coarse_matrix
  factor_parted =
      coarse_factor_vanish (dimension s) (coarse_averaged s) s.factor side s.coarse
      (λ i j l h u. average_vanish (dimension s) (coarse_entry o.basis a o.block s.groups.ids s.transfer.weights) side
      (entry_vanish a o.block s.groups.ids row_side side own linked (weights_by s) weights_same o.basis s.transfer.weights refl) i j h (le_trans l (le_of_lt h)) u)

  module _ (r r' : List Float) (long : length r ≡ a.rows) (long' : length r' ≡ a.rows) (R : (i : ℕ) → i < a.rows → T (part (i / o.block)) → Near (get_or r i nan) (get_or r' i nan)) where
    parts_near : (basis : TwoLevelBasis) (j : ℕ) → T (side j) → Nears (parts_by s basis r j) (parts_by s basis r' j)
    unfolding parts_by constant_restriction_terms smoothed_restriction_terms row_side weights_at
    parts_near PiecewiseConstant j q =
        subst (λ (n : ℕ). Nears (map (λ i. get_or r i nan) (keep (λ i. eqb (column_by s i) j) (up_to n))) (map (λ i. get_or r' i nan) (keep (λ i. eqb (column_by s i) j) (up_to (length r'))))) (sym long)
        (subst (λ (n : ℕ). Nears (map (λ i. get_or r i nan) (keep (λ i. eqb (column_by s i) j) (up_to a.rows))) (map (λ i. get_or r' i nan) (keep (λ i. eqb (column_by s i) j) (up_to n)))) (sym long')
        (nears_map (λ i. get_or r i nan) (λ i. get_or r' i nan) (each_keep (λ i. eqb (column_by s i) j) (each_up_to a.rows
        (λ i h t. R i h (subst T (sym (ap side (eqb→eq (column_by s i) j t)) ∙ own i h) q))))))
    parts_near JacobiSmoothed j q =
        subst (λ (n : ℕ). Nears (flat_map (weights_times r) (up_to n)) (flat_map (weights_times r') (up_to (length r')))) (sym long)
        (subst (λ (n : ℕ). Nears (flat_map (weights_times r) (up_to a.rows)) (flat_map (weights_times r') (up_to n))) (sym long')
        (nears_flat_map (weights_times r) (weights_times r') (each_up_to a.rows (λ i h. row i h (split (row_side i))))))
      where
        weights_times : List Float → ℕ → List Float
        weights_times x i = map (λ w. w *ᶠ get_or x i nan) (values_where (λ c. eqb c j) (weights_by s i))

        row : (i : ℕ) → i < a.rows → T (row_side i) ⊎ T (not (row_side i)) → Nears (weights_times r i) (weights_times r' i)
        row i h (inl t) =
            nears_map (λ w. w *ᶠ get_or r i nan) (λ w. w *ᶠ get_or r' i nan) (each_any (values_where (λ c. eqb c j) (weights_by s i)) (λ w. near_scale w (get_or r i nan) (get_or r' i nan) (R i h t)))
        row i h (inr t) =
            subst (λ (vs : List Float). Nears (map (λ w. w *ᶠ get_or r i nan) vs) (map (λ w. w *ᶠ get_or r' i nan) vs))
            (sym (weights_none a o.block s.groups.ids row_side side own linked (weights_by s) weights_same i j h (differ_back (side j) (row_side i) q t))) both_none

    restricted_near : (j : ℕ) → j < dimension s → T (side j) → Near (get_or (restricted_by s r) j nan) (get_or (restricted_by s r') j nan)
    unfolding restricted_by
    restricted_near j h q =
        subst (λ (x : Float). Near x (get_or (restricted_by s r') j nan)) (sym (get_d_tab (λ k. total (parts_by s o.basis r k)) (dimension s) j nan h))
        (subst (λ (x : Float). Near (total (parts_by s o.basis r j)) x) (sym (get_d_tab (λ k. total (parts_by s o.basis r' k)) (dimension s) j nan h)) (near_total (parts_near o.basis j q)))

    solution_near : (j : ℕ) → j < dimension s → T (side j) → Near (get_or (solution_by s r) j nan) (get_or (solution_by s r') j nan)
    unfolding solution_by
    solution_near = coarse_near (dimension s) s.factor side factor_parted (policy_by s) (restricted_by s r) (restricted_by s r') restricted_near

    gained_near : (basis : TwoLevelBasis) (i : ℕ) → i < a.rows → T (row_side i) → Near (gained_by s basis (solution_by s r) i) (gained_by s basis (solution_by s r') i)
    unfolding gained_by prolongation_terms
    gained_near PiecewiseConstant i h q = solution_near (column_by s i) (in_range i h) (subst T (sym (own i h)) q)
    gained_near JacobiSmoothed i h q =
        near_summed (nears_map (λ e. e.value *ᶠ get_or (solution_by s r) e.col nan) (λ e. e.value *ᶠ get_or (solution_by s r') e.col nan)
        (each_imp (λ e k. near_scale e.value (get_or (solution_by s r) e.col nan) (get_or (solution_by s r') e.col nan) (solution_near e.col k.0 (subst T k.1 q))) (weights_here i h)))

    -- CORRECTIONS ARE NEAR ON THE PART
    pub applied_near : (i : ℕ) → i < a.rows → T (part (i / o.block)) → Near (get_or (applied_by s r) i nan) (get_or (applied_by s r') i nan)
    unfolding applied_by row_side
    applied_near i h q =
        let z = get_or (block_applied a.rows o.block s.factors r) i nan in
        let z' = get_or (block_applied a.rows o.block s.factors r') i nan in
        let g = gained_by s o.basis (solution_by s r) i in
        let g' = gained_by s o.basis (solution_by s r') i in
        subst (λ (x : Float). Near x (get_or (applied_by s r') i nan)) (sym (get_d_tab (λ k. get_or (block_applied a.rows o.block s.factors r) k nan +ᶠ gained_by s o.basis (solution_by s r) k) a.rows i nan h))
        (subst (λ (x : Float). Near (z +ᶠ g) x) (sym (get_d_tab (λ k. get_or (block_applied a.rows o.block s.factors r') k nan +ᶠ gained_by s o.basis (solution_by s r') k) a.rows i nan h))
        (near_add z z' g g' (blocks_near a.rows o.block (sound s).block_some (sound s).whole s.factors part r r' R i h q) (gained_near o.basis i h q)))
