use mathlib.Core.Path.{◌≡◌}
use mathlib.Core.List.{◌++◌}
use lib.ListN.{drop}
use Rattle.definitions.specs.Block.{forward}
use Rattle.block_apply.proofs.solve.forward.Given as goal

abbrev pub invariant-loop-i : goal.invariant-loop-i
invariant-loop-i g l = l.z ≡ forward l.l g.row.W l.r l.i ++ drop l.i l.initial.z
