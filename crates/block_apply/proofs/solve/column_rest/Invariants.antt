use Prim.Native.Nat.{suc, ◌-◌}
use mathlib.Core.Path.{◌≡◌}
use lib.ListN.{get_or}
use lib.Ieee.{nan}
use Rattle.definitions.specs.Lists.{tab}
use Rattle.definitions.specs.Numbers.{reduced}
use Rattle.block_apply.proofs.Triangles.{column_term}
use Rattle.block_apply.proofs.solve.column_rest.Given as goal

abbrev pub invariant-loop-m : goal.invariant-loop-m
invariant-loop-m g l = l.rest ≡ reduced (get_or l.z l.i nan) (tab (column_term l.l g.row.W l.z l.i) (l.m - suc l.i))
