-- `gather` goes through the members of the group.
use Rattle.aggregates.specs.JoinState.{chains}
use Rattle.aggregates.proofs.joining.Edges.{Gathering}
use Rattle.aggregates.proofs.joining.gather.Given as goal

abbrev pub invariant-loop-i : goal.invariant-loop-i
invariant-loop-i l = Gathering l.lists.nodes l.lists.offsets.now l.lists.neighbours.now l.ids (chains l.next l.first l.counts) l.g l.names l._i l.cur l.end
