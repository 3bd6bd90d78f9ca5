-- The two lists of a setup read back as what was stored, whatever stands behind them: each part is as long as its record says.
use mathlib.Core.Path.{◌≡◌, refl, sym, ap, ◌∙◌, subst}
use mathlib.Core.List.{List, ◌++◌, map, flat_map, append_assoc}
use Prim.Native.Nat.{ℕ, ◌+◌, ◌*◌, ◌<◌}
use lib.Dec.{eqb}
use lib.ListN.{length, get_or, take, length-append}
use lib.Seq.{take_at}
use lib.Ieee.{Float, nan}
use Rattle.definitions.specs.Lists.{tab, up_to, between, pointers_from}
use Rattle.definitions.specs.Numbers.{◌+ᶠ◌, ◌*ᶠ◌, total, summed}
use Rattle.definitions.specs.Refusal.{done}
use Rattle.definitions.specs.Matrix.{Matrix, Entry, row_of, values_where}
use Rattle.definitions.specs.Block.{block_applied}
use Rattle.definitions.specs.Transfer.{coarse_column, transfer_row, transfer_of}
use Rattle.definitions.specs.Coarse.{packed_length, averaged_square, averaged, entry_in, coarse_length, coarse_part, coarse_solve, inverse_of, packed_solve, unit}
use Rattle.definitions.specs.Places.{node_count, ids_in, pointers_in, columns_in, factors_in, weights_in, coarse_in}
use Rattle.definitions.specs.Setup.{Transfer, transfer_for, transfer_ints, transfer_floats, built_from}
use Rattle.definitions.specs.Apply.{constant_restriction_terms, smoothed_restriction_terms, prolongation_terms, transfer_in, restriction_terms, restricted, coarse_solution, gained, applied}
use Rattle.definitions.specs.declared.Options.{Options}
use Rattle.definitions.specs.declared.TwoLevelBasis.{TwoLevelBasis}
use Rattle.definitions.specs.declared.TwoLevelBasis.TheVariants.{PiecewiseConstant, JacobiSmoothed}
use Rattle.definitions.specs.declared.TwoLevelCoarseApplyPolicy.{TwoLevelCoarseApplyPolicy}
use Rattle.definitions.specs.declared.TwoLevelCoarseApplyPolicy.TheVariants.{Auto, FactorSolve, ExplicitInverse}
use Rattle.laws.proofs.Lists.{each_up_to, flat_map_cong, tab_cong, length_tab, length_square, part_mid}
use Rattle.laws.proofs.Csr.{row_back_lem, numbers_of}
use Rattle.laws.proofs.Factor.{coarse_factor_length}
use Rattle.laws.proofs.GroupIds.{ids_length}
use Rattle.laws.proofs.SetupLists.{factors_length, pointers_read, columns_read}
use Rattle.separation.proofs.Stages.{Stages, dimension, coarse_averaged, built, sound}
use Rattle.separation.proofs.ApplyApart.{smoothed_weights, policy_by, weights_by, parts_by, restricted_by, solution_by, gained_by, applied_by}

-- ---- the coarse part

pub coarse_part_length : (policy : TwoLevelCoarseApplyPolicy) (c : ℕ) (m l : List Float) → length l ≡ packed_length c → length (coarse_part policy c l) ≡ coarse_length policy c
unfolding coarse_part coarse_length inverse_of averaged_square
coarse_part_length Auto c m l e = e
coarse_part_length FactorSolve c m l e = e
coarse_part_length ExplicitInverse c m l e = length_square c (averaged (entry_in (flat_map (λ i. packed_solve c l (unit c i)) (up_to c)) c))

-- ---- the transfer's rows

-- a fact that is asked only where the basis is smoothed
abbrev pub OnlySmoothed : TwoLevelBasis → Type 0 → Type 0
OnlySmoothed PiecewiseConstant A = Unit {0}
OnlySmoothed JacobiSmoothed A = A

pub weights_count : (a : Matrix) (size : ℕ) (ids : List ℕ) (c : ℕ) (t : Transfer) → transfer_for JacobiSmoothed a size ids c ≡ done t → length t.weights ≡ a.rows
unfolding transfer_of
weights_count a size ids c t e =
    let w = smoothed_weights a size ids c t e in
    ap length w.2 ∙ length_tab (transfer_row a w.0 w.1 size ids c) a.rows

-- ---- the parts of what a setup built

module _ {a : Matrix} {o : Options} (s : Stages a o) (zs : List ℕ) (fs : List Float) where
  abbrev cp : List Float
  cp = coarse_part (policy_by s) (dimension s) s.factor

  abbrev values : List Float
  values = transfer_floats s.transfer.weights

  pub ids_many : length s.groups.ids ≡ node_count a o
  ids_many = ids_length a o s.groups o.aggregation s.grouped

  pub factors_many : length s.factors ≡ a.rows * o.block
  factors_many = factors_length a o.block s.factors (sound s).block_some (sound s).whole s.factored

  pub coarse_many : length cp ≡ coarse_length (policy_by s) (dimension s)
  coarse_many = coarse_part_length (policy_by s) (dimension s) (coarse_averaged s) s.factor (coarse_factor_length (dimension s) (coarse_averaged s) s.factor s.coarse)

  pub ids_read : ids_in (built s).setup ((built s).ints ++ zs) ≡ s.groups.ids
  unfolding built_from
  ids_read =
      let ti = transfer_ints o.basis s.transfer.weights in
      ap (λ (l : List ℕ). take (node_count a o) l) (append_assoc s.groups.ids ti zs) ∙ take_at s.groups.ids (ti ++ zs) (node_count a o) ids_many

  floats_are : s.factors ++ values ++ cp ++ fs ≡ s.factors ++ (values ++ (cp ++ fs))
  floats_are = append_assoc (s.factors ++ values) cp fs ∙ append_assoc s.factors values (cp ++ fs)

  pub factors_read : factors_in (built s).setup ((built s).floats ++ fs) ≡ s.factors
  unfolding built_from
  factors_read = ap (λ (l : List Float). take (a.rows * o.block) l) floats_are ∙ take_at s.factors (values ++ (cp ++ fs)) (a.rows * o.block) factors_many

  pub weights_read : weights_in (built s).setup ((built s).floats ++ fs) ≡ values
  unfolding built_from
  weights_read =
      ap (λ (l : List Float). between (a.rows * o.block) (a.rows * o.block + length values) l) floats_are
      ∙ part_mid s.factors values (cp ++ fs) (a.rows * o.block) (a.rows * o.block + length values) factors_many refl

  pub coarse_read : coarse_in (built s).setup ((built s).floats ++ fs) ≡ coarse_part (policy_by s) (dimension s) s.factor
  unfolding built_from
  coarse_read =
      let from = a.rows * o.block + length values in
      ap (λ (l : List Float). between from (from + coarse_length (policy_by s) (dimension s)) l) (append_assoc (s.factors ++ values) cp fs)
      ∙ part_mid (s.factors ++ values) cp fs from (from + coarse_length (policy_by s) (dimension s))
      (length-append s.factors values ∙ ap (λ (x : ℕ). x + length values) factors_many) (ap (λ (x : ℕ). from + x) coarse_many)

  rows_from : (basis : TwoLevelBasis) → transfer_for basis a o.block s.groups.ids (dimension s) ≡ done s.transfer
      → OnlySmoothed basis ((i : ℕ) → i < a.rows →
      row_of (between (node_count a o) (node_count a o + a.rows + 1) ((s.groups.ids ++ transfer_ints basis s.transfer.weights) ++ zs))
      (between (node_count a o + a.rows + 1) (node_count a o + a.rows + 1 + length values) ((s.groups.ids ++ transfer_ints basis s.transfer.weights) ++ zs)) values i ≡ weights_by s i)
  unfolding transfer_floats
  rows_from PiecewiseConstant e = tt
  rows_from JacobiSmoothed e = λ i h.
      let ws = s.transfer.weights in
      let q = weights_count a o.block s.groups.ids (dimension s) s.transfer e in
      ap (λ (l : List ℕ). row_of l (between (node_count a o + a.rows + 1) (node_count a o + a.rows + 1 + length (transfer_floats ws)) ((s.groups.ids ++ transfer_ints JacobiSmoothed ws) ++ zs)) (numbers_of ws) i)
      (pointers_read s.groups.ids zs ws (node_count a o) a.rows ids_many q)
      ∙ ap (λ (l : List ℕ). row_of (pointers_from 0 ws) l (numbers_of ws) i) (columns_read s.groups.ids zs ws (node_count a o) a.rows ids_many q)
      ∙ row_back_lem ws i (subst (λ (x : ℕ). i < x) (sym q) h)

  pub rows_read : OnlySmoothed o.basis ((i : ℕ) → i < a.rows → transfer_in (built s).setup ((built s).ints ++ zs) ((built s).floats ++ fs) i ≡ weights_by s i)
  unfolding built_from
  rows_read = go o.basis (rows_from o.basis s.transferred)
    where
      go : (basis : TwoLevelBasis)
          → OnlySmoothed basis ((i : ℕ) → i < a.rows →
          row_of (between (node_count a o) (node_count a o + a.rows + 1) ((s.groups.ids ++ transfer_ints o.basis s.transfer.weights) ++ zs))
          (between (node_count a o + a.rows + 1) (node_count a o + a.rows + 1 + length values) ((s.groups.ids ++ transfer_ints o.basis s.transfer.weights) ++ zs)) values i ≡ weights_by s i)
          → OnlySmoothed basis ((i : ℕ) → i < a.rows → transfer_in (built s).setup ((built s).ints ++ zs) ((built s).floats ++ fs) i ≡ weights_by s i)
      go PiecewiseConstant k = tt
      go JacobiSmoothed k = λ i h.
          ap (λ (l : List Float). row_of (pointers_in (built s).setup ((built s).ints ++ zs)) (columns_in (built s).setup ((built s).ints ++ zs)) l i) weights_read ∙ k i h

  -- ---- WHAT AN APPLY COMPUTES from the two lists is what it computes from the stages

  module _ (r : List Float) (long : length r ≡ a.rows) where
    parts_read : (basis : TwoLevelBasis) → OnlySmoothed basis ((i : ℕ) → i < a.rows → transfer_in (built s).setup ((built s).ints ++ zs) ((built s).floats ++ fs) i ≡ weights_by s i)
        → (j : ℕ) → restriction_terms (built s).setup ((built s).ints ++ zs) ((built s).floats ++ fs) basis r j ≡ parts_by s basis r j
    unfolding restriction_terms parts_by smoothed_restriction_terms built_from
    parts_read PiecewiseConstant k j = ap (λ (x : List ℕ). constant_restriction_terms (λ i. coarse_column o.block x i) r j) ids_read
    parts_read JacobiSmoothed k j =
        flat_map_cong (λ i. map (λ w. w *ᶠ get_or r i nan) (values_where (λ c. eqb c j) (transfer_in (built s).setup ((built s).ints ++ zs) ((built s).floats ++ fs) i)))
        (λ i. map (λ w. w *ᶠ get_or r i nan) (values_where (λ c. eqb c j) (weights_by s i)))
        (each_up_to (length r) (λ i h. ap (λ (row : List Entry). map (λ w. w *ᶠ get_or r i nan) (values_where (λ c. eqb c j) row)) (k i (subst (λ (x : ℕ). i < x) long h))))

    gains_read : (basis : TwoLevelBasis) → OnlySmoothed basis ((i : ℕ) → i < a.rows → transfer_in (built s).setup ((built s).ints ++ zs) ((built s).floats ++ fs) i ≡ weights_by s i)
        → (sol : List Float) (i : ℕ) → i < a.rows → gained (built s).setup ((built s).ints ++ zs) ((built s).floats ++ fs) basis sol i ≡ gained_by s basis sol i
    unfolding gained gained_by built_from
    gains_read PiecewiseConstant k sol i h = ap (λ (x : List ℕ). get_or sol (coarse_column o.block x i) nan) ids_read
    gains_read JacobiSmoothed k sol i h = ap (λ (row : List Entry). summed (prolongation_terms row sol)) (k i h)

    restricted_read : restricted (built s).setup ((built s).ints ++ zs) ((built s).floats ++ fs) r ≡ restricted_by s r
    unfolding restricted restricted_by built_from
    restricted_read =
        tab_cong (λ j. total (restriction_terms (built s).setup ((built s).ints ++ zs) ((built s).floats ++ fs) o.basis r j)) (λ j. total (parts_by s o.basis r j)) (dimension s)
        (λ j h. ap total (parts_read o.basis rows_read j))

    solution_read : coarse_solution (built s).setup ((built s).ints ++ zs) ((built s).floats ++ fs) r ≡ solution_by s r
    unfolding coarse_solution solution_by built_from
    solution_read =
        ap (λ (x : List Float). coarse_solve (policy_by s) (dimension s) x (restricted (built s).setup ((built s).ints ++ zs) ((built s).floats ++ fs) r)) coarse_read
        ∙ ap (λ (x : List Float). coarse_solve (policy_by s) (dimension s) (coarse_part (policy_by s) (dimension s) s.factor) x) restricted_read

    pub applied_read : applied (built s).setup ((built s).ints ++ zs) ((built s).floats ++ fs) r ≡ applied_by s r
    unfolding applied applied_by built_from
    applied_read =
        ap (λ (x : List Float). tab (λ i. get_or (block_applied a.rows o.block x r) i nan +ᶠ gained (built s).setup ((built s).ints ++ zs) ((built s).floats ++ fs) o.basis (coarse_solution (built s).setup ((built s).ints ++ zs) ((built s).floats ++ fs) r) i) a.rows) factors_read
        ∙ ap (λ (x : List Float). tab (λ i. get_or (block_applied a.rows o.block s.factors r) i nan +ᶠ gained (built s).setup ((built s).ints ++ zs) ((built s).floats ++ fs) o.basis x i) a.rows) solution_read
        ∙ tab_cong (λ i. get_or (block_applied a.rows o.block s.factors r) i nan +ᶠ gained (built s).setup ((built s).ints ++ zs) ((built s).floats ++ fs) o.basis (solution_by s r) i)
        (λ i. get_or (block_applied a.rows o.block s.factors r) i nan +ᶠ gained_by s o.basis (solution_by s r) i) a.rows
        (λ i h. ap (λ (x : Float). get_or (block_applied a.rows o.block s.factors r) i nan +ᶠ x) (gains_read o.basis rows_read (solution_by s r) i h))
