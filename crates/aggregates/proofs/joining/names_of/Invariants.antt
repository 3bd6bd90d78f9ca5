-- `names_of` goes through the list.
use Rattle.aggregates.proofs.joining.Names.{Naming}
use Rattle.aggregates.proofs.joining.names_of.Given as goal

abbrev pub invariant-loop-u : goal.invariant-loop-u
invariant-loop-u l = Naming l.list l.ids l.counts l.initial.names l.g l.tail l.names l.end l.u-index
