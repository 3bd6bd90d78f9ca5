-- `join_rounds`: rounds until one joins nothing. The measure of the rounds is the number of groups that have members.
use Rattle.aggregates.specs.JoinChoice.{Zeros}
use Rattle.aggregates.specs.JoinState.{chains, state_of}
use Rattle.aggregates.proofs.Stops.{alive}
use Rattle.aggregates.proofs.joining.Rounds.{InRound, Between}
use Rattle.aggregates.proofs.joining.join_rounds.Given as goal

abbrev pub invariant-loop-g : goal.invariant-loop-g
invariant-loop-g l = record {
  turns : InRound l.lists.nodes l.groups l.lists.offsets.now l.lists.neighbours.now (state_of l.groups l.initial.ids (chains l.initial.next l.initial.first l.initial.counts)) l.floor l.initial.log l.initial.made l.ids (chains l.next l.first l.counts) l.log l.made l.g;
  zeros : Zeros l.hits;
}

abbrev pub invariant-rounds : goal.invariant-rounds
invariant-rounds l = record {
  between : Between l.lists.nodes l.groups l.lists.offsets.now l.lists.neighbours.now (state_of l.groups l.fn.ids (chains l.fn.next l.fn.first l.fn.counts)) l.floor l.fn.log l.ids (chains l.next l.first l.counts) l.log l.made;
  zeros : Zeros l.hits;
}

abbrev pub decreases-rounds : goal.decreases-rounds
decreases-rounds l = alive (state_of l.groups l.ids (chains l.next l.first l.counts)).members
