use Rattle.adjacency.proofs.Measuring.{Measured}
use Rattle.adjacency.proofs.strengths.measure.Given as goal

abbrev pub invariant-loop-w : goal.invariant-loop-w
invariant-loop-w l = Measured l.list l.v l.sums l.a.norms.now l.initial.strengths l.strengths l.w-index
