-- `pick` goes through the names.
use mathlib.Core.Path.{refl, sym, ◌∙◌}
use native.Mathlib.Omega.{arith}
use lib.ListN.{drop_of_length-le}
use Rattle.laws.proofs.Lists.{each_at}
use Rattle.aggregates.proofs.joining.Counting.{pick_begins, pick_takes, pick_leaves, pick_last}
use Rattle.aggregates.proofs.joining.pick.Goals as goal
use Rattle.aggregates.proofs.joining.pick.Goals.{then-best-eq0, then-best-eq0-via-then-best-eq0, then-best-eq0-via-else-best-eq0+then-comes_before, else-best-eq0+else-comes_before}

pub of-next-requires-clause-counted : goal.of-next-requires-clause-counted
of-next-requires-clause-counted c = omega (arith, c.requires.counted, each_at c.args.names.now c.loop-a.a-index 0 c.requires.within (omega arith))

pub of-next-requires-clause-named : goal.of-next-requires-clause-named
of-next-requires-clause-named c = each_at c.args.names.now c.loop-a.a-index 0 c.requires.within (omega arith)

pub loop-a-preserved : goal.loop-a-preserved
loop-a-preserved c =
    let a = c.args in
    let l = c.loop-a in
    let k = each_at a.names.now l.a-index 0 c.requires.within (omega arith) in
    elim c.if-best-eq0.branch [
      | then-best-eq0 w ↦ rw (w.best-is, c.of-next.ensures) (elim w.then-best-eq0.branch [
        | then-best-eq0-via-then-best-eq0 y ↦ pick_begins a.counts.now a.hits.now a.names.now l.best l.a-index l.invariant _ refl (omega arith) k y.if-best-eq0.true
        | then-best-eq0-via-else-best-eq0+then-comes_before y ↦ pick_takes a.counts.now a.hits.now a.names.now l.best l.a-index l.invariant _ refl (omega arith) k y.if-best-eq0.false ((rw c.of-next.ensures at (sym y.comes_before.ensures)) ∙ y.if-comes_before.true)
      ])
      | else-best-eq0+else-comes_before w ↦ rw w.best-is (pick_leaves a.counts.now a.hits.now a.names.now l.best l.a-index l.invariant _ refl (omega arith) w.if-best-eq0.false ((rw c.of-next.ensures at (sym w.comes_before.ensures)) ∙ w.if-comes_before.false))
    ]

pub returns : goal.returns
returns c = let a = c.args in pick_last a.counts.now a.hits.now a.names.now c.loop-a.best c.loop-a.a-index c.loop-a.invariant (drop_of_length-le a.names.now (omega arith))
