use Rattle.std.proofs.Common.{length}
use Rattle.adjacency.proofs.Weighing.{Weighed}
use Rattle.adjacency.proofs.sums.weigh.Given as goal

abbrev pub invariant-loop-column : goal.invariant-loop-column
invariant-loop-column l = Weighed l.e.col_idx.now l.e.values.now l.e.size l.initial.sums l.sums (length l.yielded)
