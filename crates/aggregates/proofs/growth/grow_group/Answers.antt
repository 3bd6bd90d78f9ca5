-- `grow_group` queues the free neighbours of the first node that waits, turn by turn.
use mathlib.Core.Path.{refl}
use native.Mathlib.Omega.{arith}
use Rattle.aggregates.proofs.growth.Queue.{queue_first, queue_full, queue_last, queue_node, queue_each, queue_space, queue_takes}
use Rattle.aggregates.proofs.growth.grow_group.Goals as goal

pub loop-head-init : goal.loop-head-init
loop-head-init c =
    let a = c.args in
    let s = a.lists.now in
    queue_first s.offsets.now s.neighbours.now s.nodes a.ids.now a.queue.now a.seed a.g a.size s.fit c.requires.some c.requires.nodes c.requires.space c.requires.seed_in c.requires.free c.requires.sized

pub of-requires : goal.of-requires
of-requires c = queue_node c.loop-head.invariant c.loop-head-test.true _ refl

pub push_free-tail-requires-clause-nodes : goal.push_free-tail-requires-clause-nodes
push_free-tail-requires-clause-nodes c = rw c.of.ensures (queue_each c.loop-head.invariant c.loop-head-test.true _ refl)

pub push_free-tail-requires-clause-space : goal.push_free-tail-requires-clause-space
push_free-tail-requires-clause-space c = rw c.of.ensures (queue_space c.loop-head.invariant c.loop-head-test.true _ refl)

pub loop-head-preserved : goal.loop-head-preserved
loop-head-preserved c = queue_takes c.loop-head.invariant c.loop-head-test.true _ refl (rw c.of.ensures at c.push_free-tail.ensures) c.push_free-tail.auto.ids c.push_free-tail.auto.queue

pub returns-else-tail-size : goal.returns-else-tail-size
returns-else-tail-size c = queue_full c.loop-head.invariant (omega arith)

pub returns-after-loop-head : goal.returns-after-loop-head
returns-after-loop-head c = queue_last c.loop-head.invariant c.loop-head-test.false
