use Rattle.adjacency.specs.Blocks.{matrix}
use Rattle.adjacency.proofs.Graphs.{Graphed}
use Rattle.adjacency.proofs.graph.all_lists.Given as goal

abbrev pub invariant-loop-v : goal.invariant-loop-v
invariant-loop-v l = Graphed l.a.blocks.strong (matrix l.a.blocks) l.a.blocks.size l.a.blocks.nodes l.v l.end l.stamps l.offsets l.names l.sums l.strengths
