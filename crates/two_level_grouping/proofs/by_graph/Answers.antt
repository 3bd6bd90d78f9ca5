-- Only the causes of the matrix can refuse the first stage; else the lists stand where the second reads them.
use Rattle.std.proofs.Common.{◌<◌, refl, arith}
use Rattle.std.proofs.lemmas.Result.{err_from_is_err_and}
use Rattle.csr32.specs.Seen.{lent}
use Rattle.definitions.specs.Places.{node_count}
use Rattle.two_level_grouping.proofs.Graphs.{none_ends, unchanged, grouped_answered}
use Rattle.two_level_grouping.proofs.by_graph.Goals as goal

pub returns-then-nodes-eq0 : goal.returns-then-nodes-eq0
returns-then-nodes-eq0 c =
    let x = c.args in
    none_ends (lent x.a.now) x.options x.options.aggregation x.ids.now x.work_ints.now x.work_floats.now c.if-nodes-eq0.true _ _ _ _ c.no_node.ensures

pub returns-in_err-neighbours : goal.returns-in_err-neighbours
returns-in_err-neighbours c =
    let x = c.args in
    let m = lent x.a.now in
    let d = c.neighbours in
    let some : 0 < node_count m x.options = omega (arith, c.if-nodes-eq0.false) in
    let p = err_from_is_err_and c.from_residual.result c.from_residual.ensures.1 in
    rw (p.1, p.2) (unchanged m x.options x.options.aggregation _ _ _ c.requires some x.work_ints.now d.new.work_ints refl d.ensures.1.0 d.auto.work_ints _ c.in_err-neighbours.ensures.0 _ refl x.ids.now x.work_floats.now d.new.work_floats d.ensures.1.1)

pub returns : goal.returns
returns c =
    let x = c.args in
    let m = lent x.a.now in
    let d = c.neighbours in
    let some : 0 < node_count m x.options = omega (arith, c.if-nodes-eq0.false) in
    grouped_answered m x.options x.options.aggregation _ _ _ c.requires some x.work_ints.now d.new.work_ints refl d.ensures.1.0 d.auto.work_ints _ c.in_ok-neighbours.ensures.0 refl x.ids.now x.work_floats.now d.new.work_floats d.ensures.1.1 _ _ _ c.by_lists.ensures
