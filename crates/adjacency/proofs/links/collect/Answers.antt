-- What was put so far, and what the rest will add, make the whole list; the stamps likewise.
use native.Mathlib.Omega.{arith}
use Rattle.adjacency.proofs.Collecting.{collect_skip, collect_take, collected_count, collected_names, collected_stamps}
use Rattle.adjacency.proofs.links.collect.Goals.{then-stamps-w, else-stamps-w}
use Rattle.adjacency.proofs.links.collect.Goals as goal

pub loop-column-preserved : goal.loop-column-preserved
loop-column-preserved c =
    let v = c.loop-column.invariant in
    let n = c.node_of-w in
    elim c.if-stamps-w.branch [
      | then-stamps-w w ↦ rw (w.stamps-is, w.names-is, w.count-is) (collect_take v (omega arith) n.result n.ensures w.if-stamps-w.true (omega (arith, v.used)))
      | else-stamps-w w ↦ rw (w.stamps-is, w.names-is, w.count-is) (collect_skip v (omega arith) n.result n.ensures w.if-stamps-w.false)
    ]

pub returns-clause-value : goal.returns-clause-value
returns-clause-value c = collected_count c.loop-column.invariant (omega arith) (omega (arith, c.loop-column.invariant.used))

pub returns-clause-names_after : goal.returns-clause-names_after
returns-clause-names_after c = collected_names c.loop-column.invariant (omega arith)

pub returns-clause-stamps_after : goal.returns-clause-stamps_after
returns-clause-stamps_after c = collected_stamps c.loop-column.invariant (omega arith)
