-- `relabel_chain` goes along the chain.
use Rattle.aggregates.proofs.joining.Moving.{Relabelling}
use Rattle.aggregates.proofs.joining.relabel_chain.Given as goal

abbrev pub invariant-loop-i : goal.invariant-loop-i
invariant-loop-i l = Relabelling l.initial.ids l.next l.first l.n l.b l.ids l._i l.cur l.last
