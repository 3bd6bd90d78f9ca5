-- `pick` goes through the names.
use Rattle.aggregates.proofs.joining.Counting.{Picking}
use Rattle.aggregates.proofs.joining.pick.Given as goal

abbrev pub invariant-loop-a : goal.invariant-loop-a
invariant-loop-a l = Picking l.counts l.hits l.names l.best l.a-index
