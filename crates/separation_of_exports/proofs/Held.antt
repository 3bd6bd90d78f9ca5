-- Every integer that an accepted setup stores is a u32, and every number of its record a u64: they are bounded by the limits on a call.
use Prim.Native.Nat.{ℕ, ◌+◌, ◌*◌, ◌^◌, ◌≤◌, ◌<◌}
use mathlib.Core.Path.{◌≡◌, sym, subst}
use mathlib.Core.List.{List, [], ◌∷◌, ◌++◌, map, flat_map}
use native.Mathlib.Nat.{le-add_right, le_refl, le_trans, lt_of_le_of_lt, add-le-add, mul-one, mul-le-mul, div-le_self}
use native.Mathlib.Omega.{arith}
use lib.Dec.{T, ltb, ltb→lt, leb→le}
use lib.ListN.{length, length-append}
use lib.Ieee.{Float, binary64, ne}
use lib.Ieee.Bits.{to_bits-lt}
use Rattle.definitions.specs.Lists.{pointers_from}
use Rattle.definitions.specs.Numbers.{zeroᶠ, nonzeros}
use Rattle.definitions.specs.Coarse.{averaged, averaged_square, entry_in}
use Rattle.definitions.specs.Refusal.{done}
use Rattle.definitions.specs.Matrix.{Matrix, Entry, max_rows, max_entries}
use Rattle.definitions.specs.Block.{max_block}
use Rattle.definitions.specs.Groups.{max_group}
use Rattle.definitions.specs.Places.{node_count}
use Rattle.definitions.specs.Setup.{max_coarse, transfer_for, transfer_ints, transfer_floats, coarse_matrix, built_from}
use Rattle.definitions.specs.Record.{record_numbers}
use Rattle.definitions.specs.declared.Options.{Options}
use Rattle.definitions.specs.declared.TwoLevelBasis.{TwoLevelBasis}
use Rattle.definitions.specs.declared.TwoLevelBasis.TheVariants.{PiecewiseConstant, JacobiSmoothed}
use Rattle.laws.proofs.Lists.{Each, none, more, each_imp, each_append, length_square}
use Rattle.laws.proofs.Kept.{keep_length}
use Rattle.laws.proofs.Csr.{values_length}
use Rattle.laws.proofs.Record.{HoldsF64s, aggregation_small, basis_small, policy_small}
use Rattle.separation.proofs.Stages.{Stages, dimension, built, sound}
use Rattle.separation.proofs.ApplyApart.{constant_weights}
use Rattle.laws.proofs.GroupIds.{ids_below}
use Rattle.separation.proofs.Fitting.{weights_bound, columns_small}

-- ---- the integers

-- no pointer is above where the last list ends
pointers_bound : {A : Type 0} (n : ℕ) (ws : List (List A)) → Each (λ p. p ≤ n + length (flat_map (λ row. row) ws)) (pointers_from n ws)
unfolding pointers_from flat_map
pointers_bound n [] = more {x = n} (le-add_right n 0) none
pointers_bound n (row ∷ ws) =
    more {x = n} (le-add_right n (length (row ++ flat_map (λ row. row) ws))) (each_imp (λ p h. subst (λ (k : ℕ). p ≤ n + k) (sym (length-append row (flat_map (λ row. row) ws))) (regroup n (length row) (length (flat_map (λ row. row) ws)) p h)) (pointers_bound (n + length row) ws))
  where
    regroup : (x y z p : ℕ) → p ≤ x + y + z → p ≤ x + (y + z)
    regroup x y z p h = omega arith

wide : (x c : ℕ) → x < c → c ≤ max_coarse → x < 2 ^ 32
wide x c h q = omega arith

-- a number up to a limit
up_to : (m : ℕ) {x : ℕ} → T (ltb m (2 ^ 64)) → x ≤ m → x < 2 ^ 64
up_to m {x} t h = lt_of_le_of_lt h (ltb→lt m (2 ^ 64) t)

module _ {a : Matrix} {o : Options} (s : Stages a o) where
  small : dimension s ≤ max_coarse
  small = leb→le (dimension s) max_coarse s.small

  count_small : s.groups.count ≤ max_coarse
  count_small = le_trans (times s.groups.count o.block (sound s).block_some) small
    where
      times : (n k : ℕ) → 1 ≤ k → n ≤ n * k
      times n k h = subst (λ (m : ℕ). m ≤ n * k) (mul-one n) (mul-le-mul (le_refl n) h)

  transfers_bound : (basis : TwoLevelBasis) → transfer_for basis a o.block s.groups.ids (dimension s) ≡ done s.transfer → length (transfer_floats s.transfer.weights) ≤ max_rows + max_entries
  unfolding transfer_floats flat_map
  transfers_bound PiecewiseConstant e =
      subst (λ (ws : List (List Entry)). length (flat_map (λ row. map (λ e. e.value) row) ws) ≤ max_rows + max_entries) (sym (constant_weights a o.block s.groups.ids (dimension s) s.transfer e)) (omega arith)
  transfers_bound JacobiSmoothed e =
      both a.rows (length a.values) (length (transfer_floats s.transfer.weights)) (weights_bound a o (sound s) s.groups.ids (dimension s) s.transfer e) (sound s).rows_limit (sound s).entries_limit
    where
      both : (r e t : ℕ) → t ≤ r + e → r ≤ max_rows → e ≤ max_entries → t ≤ max_rows + max_entries
      both r e t h p q = omega arith

  transfer_held : (basis : TwoLevelBasis) → transfer_for basis a o.block s.groups.ids (dimension s) ≡ done s.transfer → Each (λ x. x < 2 ^ 32) (transfer_ints basis s.transfer.weights)
  unfolding transfer_ints transfer_floats
  transfer_held PiecewiseConstant e = none
  transfer_held JacobiSmoothed e =
      let ws = s.transfer.weights in
      each_append (each_imp (λ p h. low p (length (flat_map (λ row. row) ws)) (length (transfer_floats ws)) h (sym (values_length ws)) (transfers_bound JacobiSmoothed e)) (pointers_bound 0 ws))
      (each_imp (λ x h. wide x (dimension s) h small) (columns_small a o.block s.groups.ids (dimension s) s.transfer e))
    where
      low : (p l t : ℕ) → p ≤ 0 + l → l ≡ t → t ≤ max_rows + max_entries → p < 2 ^ 32
      low p l t h e q = omega arith

  pub built_ints : Each (λ x. x < 2 ^ 32) (built s).ints
  unfolding built_from
  built_ints =
      each_append (each_imp (λ x h. wide x s.groups.count h count_small) (ids_below a o s.groups o.aggregation (sound s).group_some s.grouped)) (transfer_held o.basis s.transferred)

  -- ---- the record

  -- no more numbers are not zero than the coarse matrix has
  counted : (n : ℕ) (m : List Float) → nonzeros (averaged_square n m) ≤ n * n
  unfolding nonzeros averaged_square
  counted n m = subst (λ (k : ℕ). nonzeros (averaged_square n m) ≤ k) (length_square n (averaged (entry_in m n))) (keep_length (λ x. ne x zeroᶠ) (averaged_square n m))

  pub built_numbers : HoldsF64s (built s).setup → Each (λ x. x < 2 ^ 64) (record_numbers (built s).setup)
  unfolding record_numbers built_from
  built_numbers h =
      let S = sound s in
      let c = dimension s in
      let nodes : node_count a o ≤ a.rows = div-le_self a.rows o.block in
      let places : nonzeros (averaged_square c (coarse_matrix a o s.groups s.transfer)) ≤ max_coarse * max_coarse = le_trans (counted c (coarse_matrix a o s.groups s.transfer)) (mul-le-mul small small) in
      more (up_to max_rows tt S.rows_limit) (more (up_to max_entries tt S.entries_limit) (more (up_to max_block tt S.block_limit) (more (up_to max_group tt S.group_limit)
      (more (up_to max_rows tt (le_trans nodes S.rows_limit)) (more (up_to max_coarse tt count_small) (more (up_to max_coarse tt small) (more (up_to (max_rows + max_entries) tt (transfers_bound o.basis s.transferred))
      (more (up_to 2 tt (leb→le _ 2 (aggregation_small o.aggregation))) (more (up_to 1 tt (leb→le _ 1 (basis_small o.basis))) (more (up_to 2 tt (leb→le _ 2 (policy_small _)))
      (more (to_bits-lt binary64 _ h.damping) (more (to_bits-lt binary64 _ h.scale)
      (more (up_to (max_entries + max_coarse * max_coarse) tt (add-le-add S.entries_limit places)) (more (up_to max_entries tt S.entries_limit) none))))))))))))))
