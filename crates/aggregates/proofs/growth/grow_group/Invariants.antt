-- `grow_group` queues the free neighbours of the first node that waits, turn by turn.
use Prim.Native.Nat.{◌+◌, ◌-◌}
use lib.ListN.{length}
use Rattle.aggregates.proofs.growth.Queue.{Queue}
use Rattle.aggregates.proofs.growth.grow_group.Given as goal

abbrev pub invariant-loop-head : goal.invariant-loop-head
invariant-loop-head l = Queue l.lists.offsets.now l.lists.neighbours.now l.lists.nodes l.fn.ids l.seed l.g l.size l.ids l.queue l.head l.tail

abbrev pub decreases-loop-head : goal.decreases-loop-head
decreases-loop-head l = (length l.lists.neighbours.now + 1) - l.head
