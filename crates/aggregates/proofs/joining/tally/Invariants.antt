-- `tally` goes through the names.
use Rattle.aggregates.proofs.joining.Counting.{Tally}
use Rattle.aggregates.proofs.joining.tally.Given as goal

abbrev pub invariant-loop-a : goal.invariant-loop-a
invariant-loop-a l = Tally l.names l.initial.hits l.hits l.a-index
