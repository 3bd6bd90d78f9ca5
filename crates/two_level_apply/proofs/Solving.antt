-- The steps of the correction put together: solution and correction are those of the definition.
use Prim.Native.Nat.{ℕ, ◌*◌, ◌≤◌}
use mathlib.Core.Path.{◌≡◌, ap, ◌∙◌}
use mathlib.Core.List.{List, ◌++◌}
use native.Mathlib.Omega.{arith}
use lib.ListN.{length, take, drop, replicate, length-take, length-drop, length-append}
use lib.Seq.{take_at, take_all}
use lib.Ieee.{Float}
use Rattle.definitions.specs.Lists.{padded}
use Rattle.definitions.specs.Numbers.{zeroᶠ}
use Rattle.definitions.specs.Refusal.{result_left}
use Rattle.definitions.specs.Block.{block_applied}
use Rattle.definitions.specs.Coarse.{coarse_length, coarse_solve}
use Rattle.definitions.specs.Places.{coarse_in, factors_in, used_floats}
use Rattle.definitions.specs.Apply.{restricted, coarse_solution, applied}
use Rattle.definitions.specs.declared.Setup.{Setup}
use Rattle.definitions.specs.declared.Places.{Places}
use Rattle.coarse_solve.specs.Calls.{coarse_solve_call}
use Rattle.laws.proofs.Lists.{length_tab}
use Rattle.two_level_apply.proofs.Parts.{bounds, floats_room}
use Rattle.two_level_apply.specs.Scatter.{Laid, prolonged}
use Rattle.two_level_apply.proofs.Calls.{solve_done, solution_length, padded_front, padded_cleared}

module _ (s : Setup) (p : Places) (ints : List ℕ) (floats : List Float) (l : Laid s p ints floats) where
  part_long : length (coarse_in s floats) ≡ coarse_length s.policy s.coarse
  unfolding used_floats
  part_long = simp (length-take, length-drop) (omega (arith, floats_room s p ints floats l))

  pub coarse_left : (part work m : List Float) → part ≡ coarse_in s floats → 2 * s.coarse ≤ length work → m ≡ result_left zeroᶠ (coarse_solve_call s.policy s.coarse part work) work
      → m ≡ padded zeroᶠ (length work) (coarse_solve s.policy s.coarse (coarse_in s floats) (take s.coarse work))
  unfolding result_left
  coarse_left part work m q h e =
      let whole : take (coarse_length s.policy s.coarse) (coarse_in s floats) ≡ coarse_in s floats = take_all (coarse_length s.policy s.coarse) (coarse_in s floats) (omega (arith, part_long)) in
      e ∙ ap (λ o. result_left zeroᶠ (coarse_solve_call s.policy s.coarse o work) work) q
      ∙ ap (λ o. result_left zeroᶠ o work) (solve_done s.policy s.coarse (coarse_in s floats) work (bounds s p ints floats l).coarse (omega (arith, part_long)) h)
      ∙ ap (λ o. padded zeroᶠ (length work) (coarse_solve s.policy s.coarse o (take s.coarse work))) whole

-- the right-hand side stands in front of the work list, and the solution in its place
module _ (s : Setup) (ints : List ℕ) (floats r rhs work w : List Float) (room : 2 * s.coarse ≤ length work) (e : rhs ≡ restricted s ints floats r)
    (f : w ≡ padded zeroᶠ (length (rhs ++ drop s.coarse work)) (coarse_solve s.policy s.coarse (coarse_in s floats) (take s.coarse (rhs ++ drop s.coarse work)))) where
  rhs_length : length rhs ≡ s.coarse
  unfolding restricted
  rhs_length = ap length e ∙ length_tab _ s.coarse

  same_length : length (rhs ++ drop s.coarse work) ≡ length work
  same_length = simp (length-append, length-drop) (omega (arith, rhs_length, room))

  sol : List Float
  sol = coarse_solve s.policy s.coarse (coarse_in s floats) rhs

  filled : w ≡ padded zeroᶠ (length work) sol
  unfolding sol
  filled = f ∙ rw (same_length, take_at rhs (drop s.coarse work) s.coarse rhs_length)

  sol_length : length sol ≡ s.coarse
  unfolding sol
  sol_length = solution_length s.policy s.coarse (coarse_in s floats) rhs

  solution_is : take s.coarse w ≡ coarse_solution s ints floats r
  unfolding sol coarse_solution
  solution_is = padded_front (length work) s.coarse sol w sol_length (omega (arith, room)) filled ∙ ap (coarse_solve s.policy s.coarse (coarse_in s floats)) e

  pub cleared : (m : List Float) → m ≡ replicate (length (take s.coarse w)) zeroᶠ → m ++ drop s.coarse w ≡ replicate (length work) zeroᶠ
  cleared m q = rw q (padded_cleared (length work) s.coarse sol w sol_length (omega (arith, room)) filled)

  pub correction_is : (y z : List Float) → y ≡ block_applied s.rows s.block (factors_in s floats) r → z ≡ prolonged s ints floats (take s.coarse w) y → z ≡ applied s ints floats r
  unfolding applied
  correction_is y z p q = q ∙ rw (p, solution_is)
