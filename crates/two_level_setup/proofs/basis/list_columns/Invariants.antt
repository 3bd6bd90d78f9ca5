-- The coarse columns of the nodes so far stand at the front, and of one more node those of its first unknowns; what was lent behind them.
use Prim.Native.Nat.{◌+◌, ◌*◌}
use mathlib.Core.Path.{◌≡◌}
use mathlib.Core.List.{◌++◌}
use lib.ListN.{drop}
use Rattle.definitions.specs.Lists.{tab}
use Rattle.two_level_setup.proofs.Columns.{Listing}
use Rattle.two_level_setup.proofs.basis.list_columns.Given as goal

abbrev pub invariant-loop-node : goal.invariant-loop-node
invariant-loop-node l = Listing l.size l.ids l.initial.columns l.columns (l.node * l.size)

abbrev pub invariant-loop-part : goal.invariant-loop-part
invariant-loop-part l = l.column-items ≡ tab (λ j. l.first + j) l.part ++ drop l.part l.initial.column-items
