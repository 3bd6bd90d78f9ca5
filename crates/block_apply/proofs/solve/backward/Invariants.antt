use Prim.Native.Nat.{◌-◌}
use mathlib.Core.Path.{◌≡◌}
use mathlib.Core.List.{◌++◌}
use lib.ListN.{take}
use Rattle.definitions.specs.Block.{backward}
use Rattle.block_apply.proofs.solve.backward.Given as goal

abbrev pub invariant-loop-i : goal.invariant-loop-i
invariant-loop-i g l = l.z ≡ take l.i l.initial.z ++ backward l.l g.row.W l.initial.z (g.row.W - l.i)
