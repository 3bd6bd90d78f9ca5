-- `link` goes through the nodes, the highest first.
use lib.ListN.{length}
use Rattle.aggregates.specs.JoinState.{chains}
use Rattle.aggregates.proofs.joining.Linking.{Linking}
use Rattle.aggregates.proofs.joining.link.Given as goal

abbrev pub invariant-loop-v : goal.invariant-loop-v
invariant-loop-v l = Linking l.ids (length l.initial.counts) (chains l.next l.first l.counts) l.v
