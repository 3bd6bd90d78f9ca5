-- `relabel_chain` goes along the chain.
use native.Mathlib.Omega.{arith}
use Rattle.aggregates.proofs.joining.Moving.{relabel_first, relabel_node, relabel_step, relabel_last}
use Rattle.aggregates.proofs.joining.relabel_chain.Goals as goal

pub loop-i-init : goal.loop-i-init
loop-i-init c = let a = c.args in relabel_first a.ids.now a.next.now a.first a.n a.b c.requires.within

pub bounds-ids-v : goal.bounds-ids-v
bounds-ids-v c = let a = c.args in omega (arith, relabel_node a.ids.now a.next.now a.first a.n a.b c.loop-i.ids c.loop-i._i c.loop-i.cur c.loop-i.last c.loop-i.invariant c.loop-i-test.true)

pub bounds-next-v : goal.bounds-next-v
bounds-next-v c = let a = c.args in omega (arith, c.requires.nodes, relabel_node a.ids.now a.next.now a.first a.n a.b c.loop-i.ids c.loop-i._i c.loop-i.cur c.loop-i.last c.loop-i.invariant c.loop-i-test.true)

pub loop-i-preserved : goal.loop-i-preserved
loop-i-preserved c = let a = c.args in relabel_step a.ids.now a.next.now a.first a.n a.b c.loop-i.ids c.loop-i._i c.loop-i.cur c.loop-i.last c.loop-i.invariant c.loop-i-test.true

pub returns : goal.returns
returns c =
    let a = c.args in
    let e = relabel_last a.ids.now a.next.now a.first a.n a.b c.loop-i.ids c.loop-i._i c.loop-i.cur c.loop-i.last c.loop-i.invariant (omega arith) in
    record { joined = e.0; last = e.1 }
