-- The rows passed stand at the front, zeros after them.
use mathlib.Core.Path.{◌≡◌}
use mathlib.Core.List.{◌++◌}
use Prim.Native.Nat.{◌-◌, ◌*◌}
use lib.ListN.{replicate}
use Rattle.definitions.specs.Numbers.{zeroᶠ}
use Rattle.definitions.specs.Block.{block_entry}
use Rattle.csr32.specs.Seen.{square}
use Rattle.block_factor.proofs.Gathering.{rows_up_to}
use Rattle.block_factor.proofs.gather.gather.Given as goal

abbrev pub invariant-loop-i : goal.invariant-loop-i
invariant-loop-i l = l.numbers ≡ rows_up_to (block_entry (square l.a) l.first) l.w l.i ++ replicate (64 - l.i * l.w) zeroᶠ
