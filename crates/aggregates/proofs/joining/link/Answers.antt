-- `link` goes through the nodes, the highest first.
use mathlib.Core.Path.{refl}
use Prim.Native.Nat.{◌-◌}
use native.Mathlib.Omega.{arith}
use lib.ListN.{length}
use Rattle.aggregates.specs.JoinState.{chains}
use Rattle.aggregates.proofs.joining.Linking.{link_first, link_count, link_step}
use Rattle.aggregates.proofs.joining.link.Goals as goal

pub loop-v-init : goal.loop-v-init
loop-v-init c = let a = c.args in link_first a.ids.now (length a.counts.now) c.requires.grouped (chains a.next.now a.first.now a.counts.now) c.requires.nodes.0 c.requires.firsts refl c.requires.zeros

pub overflow_add-counts : goal.overflow_add-counts
overflow_add-counts c =
    let a = c.args in
    let l = c.loop-v in
    omega (arith, c.requires.nodes, link_count a.ids.now (length a.counts.now) c.requires.grouped (chains l.next l.first l.counts) l.v l.invariant _ (c.requires.grouped (l.v - 1) (omega (arith, l.invariant.upto))))

pub loop-v-preserved : goal.loop-v-preserved
loop-v-preserved c =
    let a = c.args in
    let l = c.loop-v in
    link_step a.ids.now (length a.counts.now) c.requires.grouped (chains l.next l.first l.counts) l.v l.invariant (l.v - 1) (omega arith)
