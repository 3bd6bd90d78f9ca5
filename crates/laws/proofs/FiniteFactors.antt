-- The factors that are finite, with a diagonal above zero: of an accepted block, of every block of an accepted setup or call, and of an accepted coarse matrix.
use mathlib.Core.Path.{◌≡◌}
use mathlib.Core.List.{List}
use Prim.Native.Nat.{ℕ, ◌+◌, ◌*◌, ◌≤◌, ◌<◌}
use lib.Dec.{T}
use lib.Ieee.{Float, binary64, fits}
use Rattle.definitions.specs.Numbers.{◌*ᶠ◌, oneᶠ, pivot_tol, larger, largest}
use Rattle.definitions.specs.Refusal.{done}
use Rattle.definitions.specs.Matrix.{Matrix, stored_at}
use Rattle.definitions.specs.Block.{block_count, width_of, block_entry, block_of, in_block, top_of, block_factor, factors_of, blocks_call, block_part}
use Rattle.definitions.specs.Coarse.{packed, coarse_factor, entry_in}
use Rattle.laws.proofs.Factor.{coarse_rows}
use Rattle.laws.proofs.BlockFactors.{block_tol, block_rows, block_stands, call_accepted}
use Rattle.laws.proofs.FiniteFactor.{FiniteFactor, tolerance_unsigned, total_fits, finite_factor}

-- ---- a block that gives neither 14 nor 15

pub block_finite : (a : Matrix) (start w : ℕ) (l : List Float) → block_factor a start w ≡ done l → FiniteFactor (in_block w) w l
unfolding block_entry top_of
block_finite a start w l e =
    finite_factor (in_block w) (block_entry a start) (block_tol a start w) w l (tolerance_unsigned (block_of a start w)) (λ i g. total_fits (stored_at a (start + i) (start + i))) (block_rows a start w l e)

-- every block of an accepted setup's or call's factors
pub factors_finite : (a : Matrix) (size : ℕ) (factors : List Float) → 1 ≤ size → factors_of a size ≡ done factors → (k : ℕ) → k < block_count a.rows size
    → FiniteFactor (in_block (width_of a.rows size k)) (width_of a.rows size k) (block_part size (width_of a.rows size k) k factors)
factors_finite a size factors p e k l =
    block_finite a (k * size) (width_of a.rows size k) (block_part size (width_of a.rows size k) k factors) (block_stands a size p factors e k l)

pub blocks_finite : (a : Matrix) (size room : ℕ) (factors : List Float) → blocks_call a size room ≡ done factors → (k : ℕ) → k < block_count a.rows size
    → FiniteFactor (in_block (width_of a.rows size k)) (width_of a.rows size k) (block_part size (width_of a.rows size k) k factors)
blocks_finite a size room factors e k l = let c = call_accepted a size room factors e in factors_finite a size factors c.some c.factored k l

-- ---- a coarse factor that gives neither 23 nor 24

pub coarse_finite : (c : ℕ) (m l : List Float) → ((i : ℕ) → i < c → T (fits binary64 (entry_in m c i i))) → coarse_factor c m ≡ done l → FiniteFactor packed c l
coarse_finite c m l held e = finite_factor packed (entry_in m c) (pivot_tol *ᶠ larger (largest m) oneᶠ) c l (tolerance_unsigned m) held (coarse_rows c m l e)
