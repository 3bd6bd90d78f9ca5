-- Rows of a block w wide lie within its w · w numbers, and these within 64.
use Prim.Native.Nat.{ℕ, suc, ◌+◌, ◌*◌, ◌<◌, ◌≤◌}
use native.Mathlib.Nat.{mul-le-mul, suc-mul, le_refl}
use native.Mathlib.Omega.{arith}
use mathlib.Core.Path.{◌≡◌, sym}
use mathlib.Core.List.{List}
use lib.ListN.{get_or}
use lib.Seq.{get_or-take}
use lib.Ieee.{Float, nan}
use Rattle.definitions.specs.Block.{in_block}
use Rattle.block_factor.specs.Dense.{dense_entry}

pub row_fits : (i w : ℕ) → i < w → w ≤ 8 → i * w + w ≤ 64
row_fits i w p q = let h : suc i ≤ 8 = omega arith in rw suc-mul at (mul-le-mul h q)

pub square_fits : (w : ℕ) → w ≤ 8 → w * w ≤ 64
square_fits w q = mul-le-mul q q

pub row_inside : (i w : ℕ) → i < w → i * w + w ≤ w * w
row_inside i w p = rw suc-mul at (mul-le-mul p (le_refl w))

-- an entry of a block is one of its w · w numbers
pub entry_is : (w i j : ℕ) (a : List Float) → i < w → j < w → get_or a (in_block w i j) nan ≡ dense_entry w a i j
entry_is w i j a p q = sym (get_or-take (w * w) a (i * w + j) nan (omega (arith, row_inside i w p)))
