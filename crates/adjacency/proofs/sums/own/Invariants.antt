use Rattle.std.proofs.Common.{length}
use Rattle.adjacency.proofs.Weighing.{Own}
use Rattle.adjacency.proofs.sums.own.Given as goal

abbrev pub invariant-loop-column : goal.invariant-loop-column
invariant-loop-column l = Own l.e.col_idx.now l.e.values.now l.e.size l.v l.sum (length l.yielded)
