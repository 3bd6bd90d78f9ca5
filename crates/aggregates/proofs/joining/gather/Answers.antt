-- `gather` goes through the members of the group.
use native.Mathlib.Omega.{arith}
use Rattle.aggregates.specs.JoinState.{chains}
use Rattle.aggregates.proofs.joining.Edges.{gather_first, gather_node, gather_nodes, gather_groups, gather_space, gather_step, gather_last}
use Rattle.aggregates.proofs.joining.gather.Goals as goal

pub loop-i-init : goal.loop-i-init
loop-i-init c =
    let a = c.args in
    gather_first a.lists.now.nodes a.lists.now.offsets.now a.lists.now.neighbours.now a.ids.now (chains a.next.now a.first.now a.counts.now) a.g a.lists.now.fit a.names.now c.requires.gathers

pub of-requires : goal.of-requires
of-requires c =
    let a = c.args in
    let l = c.loop-i in
    gather_node a.lists.now.nodes a.lists.now.offsets.now a.lists.now.neighbours.now a.ids.now (chains a.next.now a.first.now a.counts.now) a.g a.lists.now.fit a.names.now c.requires.gathers l.names l._i l.cur l.end l.invariant c.loop-i-test.true

pub names_of-end-requires-clause-nodes : goal.names_of-end-requires-clause-nodes
names_of-end-requires-clause-nodes c =
    let a = c.args in
    let l = c.loop-i in
    rw c.of.ensures (gather_nodes a.lists.now.nodes a.lists.now.offsets.now a.lists.now.neighbours.now a.ids.now (chains a.next.now a.first.now a.counts.now) a.g a.lists.now.fit a.names.now c.requires.gathers l.names l._i l.cur l.end l.invariant c.loop-i-test.true c.requires.nodes)

pub names_of-end-requires-clause-groups : goal.names_of-end-requires-clause-groups
names_of-end-requires-clause-groups c =
    let a = c.args in
    let l = c.loop-i in
    rw c.of.ensures (gather_groups a.lists.now.nodes a.lists.now.offsets.now a.lists.now.neighbours.now a.ids.now (chains a.next.now a.first.now a.counts.now) a.g a.lists.now.fit a.names.now c.requires.gathers l.names l._i l.cur l.end l.invariant c.loop-i-test.true)

pub names_of-end-requires-clause-space : goal.names_of-end-requires-clause-space
names_of-end-requires-clause-space c =
    let a = c.args in
    let l = c.loop-i in
    rw c.of.ensures (gather_space a.lists.now.nodes a.lists.now.offsets.now a.lists.now.neighbours.now a.ids.now (chains a.next.now a.first.now a.counts.now) a.g a.lists.now.fit a.names.now c.requires.gathers l.names l._i l.cur l.end l.invariant c.loop-i-test.true)

pub bounds-next-v : goal.bounds-next-v
bounds-next-v c =
    let a = c.args in
    let l = c.loop-i in
    omega (arith, c.requires.gathers.nexts, gather_node a.lists.now.nodes a.lists.now.offsets.now a.lists.now.neighbours.now a.ids.now (chains a.next.now a.first.now a.counts.now) a.g a.lists.now.fit a.names.now c.requires.gathers l.names l._i l.cur l.end l.invariant c.loop-i-test.true)

pub loop-i-preserved : goal.loop-i-preserved
loop-i-preserved c =
    let a = c.args in
    let l = c.loop-i in
    let f = c.names_of-end in
    gather_step a.lists.now.nodes a.lists.now.offsets.now a.lists.now.neighbours.now a.ids.now (chains a.next.now a.first.now a.counts.now) a.g a.lists.now.fit a.names.now c.requires.gathers l.names l._i l.cur l.end l.invariant c.loop-i-test.true f.new.names f.result (rw c.of.ensures at f.ensures.value) (rw c.of.ensures at f.ensures.named) f.auto.names

pub returns : goal.returns
returns c =
    let a = c.args in
    let l = c.loop-i in
    let e = gather_last a.lists.now.nodes a.lists.now.offsets.now a.lists.now.neighbours.now a.ids.now (chains a.next.now a.first.now a.counts.now) a.g a.lists.now.fit a.names.now c.requires.gathers l.names l._i l.cur l.end l.invariant c.loop-i-test.false in
    record { value = e.0; named = e.1 }
