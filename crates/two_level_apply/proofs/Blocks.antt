-- Blocks of one size: as many as there are nodes, so that their solves, end to end, have as many numbers as there are rows.
use Prim.Native.Nat.{ℕ, zero, suc, ◌+◌, ◌*◌, ◌<◌}
use mathlib.Core.Path.{◌≡◌, refl, ap, ◌∙◌}
use mathlib.Core.List.{List}
use native.Mathlib.Omega.{arith}
use native.Mathlib.Nat.{min-eq_left, mul-le-mul_right}
use lib.Arith.{digits_div}
use lib.ListN.{length}
use lib.Ieee.{Float}
use Rattle.definitions.specs.Lists.{up_to, between}
use Rattle.definitions.specs.Block.{block_count, width_of, backward, forward, block_solve, block_part, block_applied}
use Rattle.laws.proofs.Lists.{length_rows}

backward_length : (l : List Float) (w : ℕ) (y : List Float) (k : ℕ) → length (backward l w y k) ≡ k
unfolding backward
backward_length l w y zero = refl
backward_length l w y (suc k) = ap suc (backward_length l w y k)

solve_length : (l : List Float) (w : ℕ) (r : List Float) → length (block_solve l w r) ≡ w
unfolding block_solve
solve_length l w r = backward_length l w (forward l w r w) w

module _ (nodes size : ℕ) (some : 0 < size) where
  count_is : block_count (nodes * size) size ≡ nodes
  unfolding block_count
  count_is = digits_div nodes (omega arith)

  width_is : (k : ℕ) → k < nodes → width_of (nodes * size) size k ≡ size
  unfolding width_of
  width_is k h = min-eq_left (omega (arith, mul-le-mul_right size h))

  pub blocks_length : (rows : ℕ) (factors r : List Float) → rows ≡ nodes * size → length (block_applied rows size factors r) ≡ rows
  unfolding block_applied up_to
  blocks_length rows factors r e =
      rw (e, count_is)
      (length_rows (λ k. block_solve (block_part size (width_of (nodes * size) size k) k factors) (width_of (nodes * size) size k) (between (k * size) (k * size + width_of (nodes * size) size k) r)) size (λ k. k) nodes
      (λ k h. solve_length (block_part size (width_of (nodes * size) size k) k factors) (width_of (nodes * size) size k) (between (k * size) (k * size + width_of (nodes * size) size k) r) ∙ width_is k h))
