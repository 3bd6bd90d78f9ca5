-- `push_free` goes through the list.
use mathlib.Core.Path.{refl}
use native.Mathlib.Omega.{arith}
use lib.ListN.{drop_of_length-le}
use Rattle.laws.proofs.Lists.{each_at}
use Rattle.aggregates.proofs.growth.Pushing.{push_takes, push_skips, push_full, push_last}
use Rattle.aggregates.proofs.growth.push_free.Goals as goal
use Rattle.aggregates.proofs.growth.push_free.Goals.{then-ids-x-eq0+else-end-size, else-ids-x-eq0}

pub bounds-ids-x : goal.bounds-ids-x
bounds-ids-x c = omega (arith, each_at c.args.list.now c.loop-u.u-index 0 c.requires.nodes (omega arith))

pub returns-then-end-size : goal.returns-then-end-size
returns-then-end-size c = let a = c.args in push_full a.list.now a.ids.now a.queue.now a.g a.tail a.size _ _ _ _ c.loop-u.invariant c.if-end-size.true

pub bounds-ids-x-then-ids-x-eq0 : goal.bounds-ids-x-then-ids-x-eq0
bounds-ids-x-then-ids-x-eq0 c = omega (arith, each_at c.args.list.now c.loop-u.u-index 0 c.requires.nodes (omega arith))

pub loop-u-preserved : goal.loop-u-preserved
loop-u-preserved c =
    let a = c.args in
    let l = c.loop-u in
    elim c.if-ids-x-eq0.branch [
      | then-ids-x-eq0+else-end-size w ↦ rw (w.ids-is, w.queue-is, w.end-is) (push_takes a.list.now a.ids.now a.queue.now a.g a.tail a.size l.ids l.queue l.end l.u-index l.invariant (omega arith) _ refl w.if-ids-x-eq0.true w.if-end-size.false)
      | else-ids-x-eq0 w ↦ rw (w.ids-is, w.queue-is, w.end-is) (push_skips a.list.now a.ids.now a.queue.now a.g a.tail a.size l.ids l.queue l.end l.u-index l.invariant (omega arith) _ refl w.if-ids-x-eq0.false)
    ]

pub returns : goal.returns
returns c = let a = c.args in push_last a.list.now a.ids.now a.queue.now a.g a.tail a.size _ _ _ _ c.loop-u.invariant (drop_of_length-le a.list.now (omega arith))
