-- The block apply of a setup that fits its record: every check passes, and the solves fill the list.
use Prim.Native.Nat.{ℕ, ◌*◌, ◌≤◌}
use mathlib.Core.Path.{◌≡◌, ap, sym, ◌∙◌}
use mathlib.Core.List.{List}
use native.Mathlib.Omega.{arith}
use lib.ListN.{length}
use lib.Ieee.{Float}
use borrow.Author.Tests.{eq-eqb, le-leb}
use Rattle.definitions.specs.Numbers.{zeroᶠ}
use Rattle.definitions.specs.Refusal.{done, require, ◌>>=◌, result_left}
use Rattle.definitions.specs.Block.{block_applied, block_apply_call, block_apply_left}
use Rattle.definitions.specs.Places.{factors_in}
use Rattle.definitions.specs.declared.Setup.{Setup}
use Rattle.definitions.specs.declared.Places.{Places}
use Rattle.two_level_apply.proofs.Parts.{sized, factors_long}
use Rattle.two_level_apply.specs.Scatter.{Laid}
use Rattle.two_level_apply.proofs.Calls.{padded_whole}
use Rattle.two_level_apply.proofs.Blocks.{blocks_length}

accepted : (rows size : ℕ) (factors r : List Float) (room : ℕ) → length r ≡ rows → room ≡ rows → rows ≤ 1048576 → 1 ≤ size → size ≤ 8 → rows * size ≤ length factors
    → block_apply_call rows size factors r room ≡ done (block_applied rows size factors r)
unfolding block_apply_call require ◌>>=◌
accepted rows size factors r room e f a b c d =
    rw (eq-eqb (length r) rows e, eq-eqb room rows f, le-leb rows 1048576 a, le-leb 1 size b, le-leb size 8 c, le-leb (rows * size) (length factors) d)

module _ (s : Setup) (p : Places) (ints : List ℕ) (floats : List Float) (l : Laid s p ints floats) where
  pub blocks_left_lem : (factors r z m : List Float) → factors ≡ factors_in s floats → length r ≡ s.rows → length z ≡ s.rows → m ≡ block_apply_left s.rows s.block factors r z
      → m ≡ block_applied s.rows s.block (factors_in s floats) r
  unfolding block_apply_left result_left
  blocks_left_lem factors r z m q h k e =
      let x = sized s p ints floats l in
      e ∙ ap (λ f. result_left zeroᶠ (block_apply_call s.rows s.block f r (length z)) z) q
      ∙ ap (λ o. result_left zeroᶠ o z) (accepted s.rows s.block (factors_in s floats) r (length z) h k x.limits.rows x.some x.limits.block (omega (arith, rw l.places at (factors_long s p ints floats l))))
      ∙ padded_whole (block_applied s.rows s.block (factors_in s floats) r) (length z) (blocks_length s.nodes s.block x.some s.rows (factors_in s floats) r x.nodes ∙ sym k)
