use Rattle.adjacency.specs.Blocks.{matrix}
use Rattle.adjacency.specs.Norms.{Normed}
use Rattle.adjacency.proofs.norms.fill_norms.Given as goal

abbrev pub invariant-loop-v : goal.invariant-loop-v
invariant-loop-v l = Normed (matrix l.a) l.a.size l.v l.norms
