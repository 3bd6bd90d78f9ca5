-- `renumber` goes through the numbers.
use Rattle.aggregates.proofs.renumber.Numbering.{Numbering}
use Rattle.aggregates.proofs.renumber.renumber.Given as goal

abbrev pub invariant-loop-id : goal.invariant-loop-id
invariant-loop-id l = Numbering l.fn.ids l.ids l.table l.count l.id-index
