use Rattle.adjacency.proofs.Collecting.{Collected}
use Rattle.adjacency.proofs.links.collect.Given as goal

abbrev pub invariant-loop-column : goal.invariant-loop-column
invariant-loop-column l = Collected l.e.col_idx.now l.initial.stamps l.e.size l.stamp l.stamps l.names l.count l.column-index
