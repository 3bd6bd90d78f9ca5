-- `grow_all` goes through the nodes.
use Rattle.definitions.specs.Groups.{listed}
use Rattle.aggregates.proofs.growth.Seeding.{Seeding}
use Rattle.aggregates.proofs.growth.grow_all.Given as goal

abbrev pub invariant-loop-v : goal.invariant-loop-v
invariant-loop-v l = Seeding (listed l.lists.offsets.now l.lists.neighbours.now) l.lists.nodes l.fn.ids l.size l.ids l.g l.v
