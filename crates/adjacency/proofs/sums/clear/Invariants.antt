use Rattle.std.proofs.Common.{◌≡◌, drop}
use Rattle.adjacency.specs.Strengths.{cleared}
use Rattle.adjacency.proofs.sums.clear.Given as goal

abbrev pub invariant-loop-w : goal.invariant-loop-w
invariant-loop-w l = cleared (drop l.w-index l.list) l.sums ≡ cleared l.list l.initial.sums
