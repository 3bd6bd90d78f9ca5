-- Each policy is one clause of the definition.
use Rattle.csr32.specs.Seen.{lent}
use Rattle.two_level_grouping.proofs.Policies.{contiguous_ends, graph_ends}
use Rattle.two_level_grouping.proofs.by_policy.Goals as goal

pub returns-in-Contiguous : goal.returns-in-Contiguous
returns-in-Contiguous c =
    let x = c.args in
    contiguous_ends (lent x.a.now) x.options x.ids.now x.work_ints.now x.work_floats.now _ _ _ _ c.in-Contiguous.is c.by_number.ensures

pub returns-in-Graph : goal.returns-in-Graph
returns-in-Graph c =
    let x = c.args in
    graph_ends (lent x.a.now) x.options x.ids.now x.work_ints.now x.work_floats.now _ _ _ _ c.in-Graph.is c.by_graph.ensures
