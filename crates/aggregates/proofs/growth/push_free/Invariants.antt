-- `push_free` goes through the list.
use Rattle.aggregates.proofs.growth.Pushing.{Pushing}
use Rattle.aggregates.proofs.growth.push_free.Given as goal

abbrev pub invariant-loop-u : goal.invariant-loop-u
invariant-loop-u l = Pushing l.list l.initial.ids l.initial.queue l.g l.tail l.size l.ids l.queue l.end l.u-index
