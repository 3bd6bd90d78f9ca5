-- `last_rule` goes through the names.
use Rattle.aggregates.proofs.joining_log.Ruling.{Ruling}
use Rattle.aggregates.proofs.joining_log.last_rule.Given as goal

abbrev pub invariant-loop-a : goal.invariant-loop-a
invariant-loop-a l = Ruling l.counts l.hits l.names l.b l.rule l.a-index
