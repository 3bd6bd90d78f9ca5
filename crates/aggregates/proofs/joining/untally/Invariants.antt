-- `untally` goes through the names.
use Rattle.aggregates.proofs.joining.Counting.{Wiping}
use Rattle.aggregates.proofs.joining.untally.Given as goal

abbrev pub invariant-loop-a : goal.invariant-loop-a
invariant-loop-a l = Wiping l.names l.initial.hits l.hits l.a-index
