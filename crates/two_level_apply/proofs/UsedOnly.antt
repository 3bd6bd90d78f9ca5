-- The apply reads the record and the used elements of its lists, and nothing after them.
use Prim.Native.Nat.{ℕ, zero, suc, ◌+◌, ◌-◌, ◌*◌, ◌≤◌}
use mathlib.Core.Path.{◌≡◌, refl, ap}
use mathlib.Core.List.{List, [], ◌∷◌}
use native.Mathlib.Omega.{arith}
use lib.ListN.{take, get_or}
use lib.Seq.{take-take}
use lib.Ieee.{Float, nan}
use Rattle.definitions.specs.Lists.{between}
use Rattle.definitions.specs.Numbers.{◌+ᶠ◌, total}
use Rattle.definitions.specs.Block.{block_applied}
use Rattle.definitions.specs.Coarse.{coarse_length}
use Rattle.definitions.specs.Places.{ids_in, pointers_in, columns_in, factors_in, weights_in, coarse_in, used_ints, used_floats}
use Rattle.definitions.specs.Transfer.{coarse_column}
use Rattle.definitions.specs.Apply.{constant_restriction_terms, smoothed_restriction_terms, restriction_terms, restricted, coarse_solution, gained, applied}
use Rattle.definitions.specs.declared.Setup.{Setup}
use Rattle.definitions.specs.declared.TwoLevelBasis.{TwoLevelBasis}
use Rattle.laws.proofs.Lists.{tab_cong}
use Rattle.definitions.specs.declared.TwoLevelBasis.TheVariants.{PiecewiseConstant, JacobiSmoothed}

-- a part that ends at or before n
part_within : {A : Type 0} (a e n : ℕ) (l : List A) → e ≤ n → between a e (take n l) ≡ between a e l
part_within zero e n l h = take-take (e - 0) n l (omega arith)
part_within (suc a) e zero l h = let z : e - suc a ≡ 0 = omega arith in rw z
part_within (suc a) e (suc n) [] h = refl
part_within (suc a) e (suc n) (x ∷ xs) h = let z : e - suc a ≡ (e - 1) - a = omega arith in rw z (part_within a (e - 1) n xs (omega arith))

module _ (s : Setup) (ints : List ℕ) (floats : List Float) where
  -- the used elements alone
  abbrev first_ints : List ℕ
  first_ints = take (used_ints s.basis s) ints

  abbrev first_floats : List Float
  first_floats = take (used_floats s) floats

  factors_kept : factors_in s first_floats ≡ factors_in s floats
  unfolding used_floats
  factors_kept = take-take (s.rows * s.block) (s.rows * s.block + s.transfers + coarse_length s.policy s.coarse) floats (omega arith)

  weights_kept : weights_in s first_floats ≡ weights_in s floats
  unfolding used_floats
  weights_kept = part_within (s.rows * s.block) (s.rows * s.block + s.transfers) (s.rows * s.block + s.transfers + coarse_length s.policy s.coarse) floats (omega arith)

  coarse_kept : coarse_in s first_floats ≡ coarse_in s floats
  unfolding used_floats
  coarse_kept =
      part_within (s.rows * s.block + s.transfers) (s.rows * s.block + s.transfers + coarse_length s.policy s.coarse) (s.rows * s.block + s.transfers + coarse_length s.policy s.coarse) floats (omega arith)

  ids_kept : s.basis ≡ PiecewiseConstant → ids_in s first_ints ≡ ids_in s ints
  unfolding used_ints
  ids_kept e = rw e (take-take s.nodes s.nodes ints (omega arith))

  pointers_kept : s.basis ≡ JacobiSmoothed → pointers_in s first_ints ≡ pointers_in s ints
  unfolding used_ints
  pointers_kept e = rw e (part_within s.nodes (s.nodes + s.rows + 1) (s.nodes + s.rows + 1 + s.transfers) ints (omega arith))

  columns_kept : s.basis ≡ JacobiSmoothed → columns_in s first_ints ≡ columns_in s ints
  unfolding used_ints
  columns_kept e = rw e (part_within (s.nodes + s.rows + 1) (s.nodes + s.rows + 1 + s.transfers) (s.nodes + s.rows + 1 + s.transfers) ints (omega arith))

  parts_kept : (b : TwoLevelBasis) → s.basis ≡ b → (r : List Float) (j : ℕ) → restriction_terms s first_ints first_floats b r j ≡ restriction_terms s ints floats b r j
  unfolding restriction_terms smoothed_restriction_terms
  parts_kept PiecewiseConstant e r j = ap (λ ids. constant_restriction_terms (coarse_column s.block ids) r j) (ids_kept e)
  parts_kept JacobiSmoothed e r j = rw (pointers_kept e, columns_kept e, weights_kept)

  gains_kept : (b : TwoLevelBasis) → s.basis ≡ b → (sol : List Float) (i : ℕ) → gained s first_ints first_floats b sol i ≡ gained s ints floats b sol i
  unfolding gained
  gains_kept PiecewiseConstant e sol i = ap (λ ids. get_or sol (coarse_column s.block ids i) nan) (ids_kept e)
  gains_kept JacobiSmoothed e sol i = rw (pointers_kept e, columns_kept e, weights_kept)

  restricted_kept : (r : List Float) → restricted s first_ints first_floats r ≡ restricted s ints floats r
  unfolding restricted
  restricted_kept r =
      tab_cong (λ j. total (restriction_terms s first_ints first_floats s.basis r j)) (λ j. total (restriction_terms s ints floats s.basis r j)) s.coarse (λ j h. ap total (parts_kept s.basis refl r j))

  solution_kept : (r : List Float) → coarse_solution s first_ints first_floats r ≡ coarse_solution s ints floats r
  unfolding coarse_solution
  solution_kept r = rw (coarse_kept, restricted_kept r)

  pub used_only : (r : List Float) → applied s (take (used_ints s.basis s) ints) (take (used_floats s) floats) r ≡ applied s ints floats r
  unfolding applied
  used_only r =
      tab_cong (λ i. get_or (block_applied s.rows s.block (factors_in s first_floats) r) i nan +ᶠ gained s first_ints first_floats s.basis (coarse_solution s first_ints first_floats r) i)
      (λ i. get_or (block_applied s.rows s.block (factors_in s floats) r) i nan +ᶠ gained s ints floats s.basis (coarse_solution s ints floats r) i) s.rows
      (λ i h. rw (factors_kept, solution_kept r, gains_kept s.basis refl (coarse_solution s ints floats r) i))
