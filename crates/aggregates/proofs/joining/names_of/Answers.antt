-- `names_of` goes through the list.
use native.Mathlib.Omega.{arith}
use lib.ListN.{drop_of_length-le}
use Rattle.laws.proofs.Lists.{each_at}
use Rattle.aggregates.proofs.joining.Names.{naming_same, naming_empty, naming_takes, naming_last}
use Rattle.aggregates.proofs.joining.names_of.Goals as goal
use Rattle.aggregates.proofs.joining.names_of.Goals.{then-o-g+then-counts-o-ne0, else-o-g, else-o-g-via-then-o-g+else-counts-o-ne0, else-o-g-via-else-o-g}

pub bounds-ids-u : goal.bounds-ids-u
bounds-ids-u c = each_at c.args.list.now c.loop-u.u-index 0 c.requires.nodes (omega arith)

pub bounds-counts-o : goal.bounds-counts-o
bounds-counts-o c = each_at c.args.list.now c.loop-u.u-index 0 c.requires.groups (omega arith)

pub loop-u-preserved : goal.loop-u-preserved
loop-u-preserved c =
    let a = c.args in
    let l = c.loop-u in
    elim c.if-o-g.branch [
      | then-o-g+then-counts-o-ne0 w ↦ rw (w.names-is, w.end-is) (naming_takes a.list.now a.ids.now a.counts.now a.names.now a.g a.tail l.names l.end l.u-index l.invariant (omega arith) w.if-o-g.true w.if-counts-o-ne0.true)
      | else-o-g w ↦ rw (w.names-is, w.end-is) (elim w.else-o-g.branch [
        | else-o-g-via-then-o-g+else-counts-o-ne0 x ↦ naming_empty a.list.now a.ids.now a.counts.now a.names.now a.g a.tail l.names l.end l.u-index l.invariant (omega arith) x.if-o-g.true x.if-counts-o-ne0.false
        | else-o-g-via-else-o-g x ↦ naming_same a.list.now a.ids.now a.counts.now a.names.now a.g a.tail l.names l.end l.u-index l.invariant (omega arith) x.if-o-g.false
      ])
    ]

pub returns : goal.returns
returns c =
    let a = c.args in
    let l = c.loop-u in
    let e = naming_last a.list.now a.ids.now a.counts.now a.names.now a.g a.tail l.names l.end l.u-index l.invariant (drop_of_length-le a.list.now (omega arith)) in
    record { value = e.0; named = e.1 }
