-- The first groups stand at the front, what was lent behind them.
use Rattle.std.proofs.Common.{◌≡◌, ◌/◌, ◌++◌, drop}
use Rattle.definitions.specs.Lists.{tab}
use Rattle.two_level_grouping.proofs.contiguous.Given as goal

abbrev pub invariant-loop-node : goal.invariant-loop-node
invariant-loop-node l = l.groups ≡ tab (λ k. k / l.size) l.node ++ drop l.node l.initial.groups
