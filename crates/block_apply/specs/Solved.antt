-- The blocks solved so far.
use Rattle.std.specs.Prelude.{ℕ, ◌+◌, ◌*◌, ◌≤◌, ◌≡◌, length, drop, Float}
use mathlib.Core.List.{List, ◌++◌, flat_map}
use Rattle.definitions.specs.Lists.{up_to, between}
use Rattle.definitions.specs.Block.{width_of, block_solve, block_part, max_block}
use Rattle.definitions.specs.Matrix.{max_rows}

-- block k
unfoldable pub solved_block : ℕ → ℕ → List Float → List Float → ℕ → List Float
solved_block rows size factors r k = let w = width_of rows size k in block_solve (block_part size w k factors) w (between (k * size) (k * size + w) r)

-- the first k blocks, end to end
unfoldable pub solved_blocks : ℕ → ℕ → List Float → List Float → ℕ → List Float
solved_blocks rows size factors r k = flat_map (λ j. solved_block rows size factors r j) (up_to k)

-- the lists of one block, w wide
pub record Fit (w : ℕ) (l r z : List Float) : Type 0 where
  pub square : length l ≡ w * w
  pub given : length r ≡ w
  pub room : length z ≡ w
  pub narrow : w ≤ max_block

-- so many whole blocks lie within the lists
pub record Whole (count size : ℕ) (factors r z : List Float) : Type 0 where
  pub wide : 1 ≤ size
  pub narrow : size ≤ max_block
  pub same : length z ≡ length r
  pub few : length r ≤ max_rows
  pub inside : count * size ≤ length r
  pub held : length r * size ≤ length factors

-- a list in which they are solved, and what stands behind them is kept
abbrev pub solved_to : ℕ → ℕ → List Float → List Float → List Float → List Float
solved_to count size factors r z = solved_blocks (length r) size factors r count ++ drop (count * size) z
