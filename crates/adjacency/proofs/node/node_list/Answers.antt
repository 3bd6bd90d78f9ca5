-- Found, measured and sorted: `listed`.
use Rattle.std.proofs.Common.{◌≡◌, ◌+◌, ◌∙◌, ap, length, take, drop, set, arith}
use Rattle.adjacency.specs.Blocks.{matrix}
use Rattle.adjacency.specs.Collect.{gather, nodes_in}
use Rattle.adjacency.specs.WellFormed.{part_of}
use Rattle.adjacency.proofs.Nodes.{Weighted, weighted_as, weighted_not, weak, found_is, found_in, found_below, found_few, listed}
use Rattle.adjacency.proofs.node.node_list.Goals.{then-a, else-a}
use Rattle.adjacency.proofs.node.node_list.Goals as goal

pub measure-requires-clause-below : goal.measure-requires-clause-below
measure-requires-clause-below c =
    let a = c.args.a.now.blocks in
    let e = c.entries in
    let b = c.requires.between in
    let h = c.requires.v_lt_nodes.0 in
    let l = take c.find-found.result c.find-found.new.names in
    let names = found_is a.fit h b e.result.size e.result.col_idx.now e.ensures.sizes.0 e.ensures.columns l c.find-found.ensures.names_after in
    rw names (h, found_below a.fit h b)

pub sort-requires-clause-weak : goal.sort-requires-clause-weak
sort-requires-clause-weak c =
    let n = c.args.a.now in
    let a = n.blocks in
    let e = c.entries in
    let b = c.requires.between in
    let h = c.requires.v_lt_nodes.0 in
    let l = take c.find-found.result c.find-found.new.names in
    let names = found_is a.fit h b e.result.size e.result.col_idx.now e.ensures.sizes.0 e.ensures.columns l c.find-found.ensures.names_after in
    let w : Weighted a.strong (matrix a) a.size a.nodes c.args.v (gather (c.args.v + 1) (set c.args.stamps.now c.args.v (c.args.v + 1)) (nodes_in a.size (part_of a.size c.args.v a.row_ptr.now a.col_idx.now))) c.if-a.sums c.if-a.strengths = elim c.if-a.branch [
      | then-a u ↦ rw (u.sums-is, u.strengths-is) (weighted_as a.fit h b n.norms.now n.normed u.if-a.true l names u.measure.new.sums u.measure.new.strengths u.measure.ensures.sums_after u.measure.ensures.strengths_after)
      | else-a u ↦ rw (u.sums-is, u.strengths-is) (weighted_not a.fit h b _ (found_in a.fit h b) u.if-a.false)
    ] in
    weak a.fit h b w

pub sort-requires-clause-below : goal.sort-requires-clause-below
sort-requires-clause-below c =
    let a = c.args.a.now.blocks in
    let e = c.entries in
    let b = c.requires.between in
    let h = c.requires.v_lt_nodes.0 in
    let l = take c.find-found.result c.find-found.new.names in
    let names = found_is a.fit h b e.result.size e.result.col_idx.now e.ensures.sizes.0 e.ensures.columns l c.find-found.ensures.names_after in
    let n : length c.if-a.strengths ≡ a.nodes = c.if-a.auto.strengths ∙ b.compared in
    rw (n, names) (found_below a.fit h b)

pub sort-requires-clause-lengths : goal.sort-requires-clause-lengths
sort-requires-clause-lengths c =
    let a = c.args.a.now.blocks in
    let e = c.entries in
    let b = c.requires.between in
    let h = c.requires.v_lt_nodes.0 in
    let l = take c.find-found.result c.find-found.new.names in
    let names = found_is a.fit h b e.result.size e.result.col_idx.now e.ensures.sizes.0 e.ensures.columns l c.find-found.ensures.names_after in
    omega (arith, ap length names, (found_few a.fit h b).0, c.requires.v_lt_nodes.1)

pub returns : goal.returns
returns c =
    let n = c.args.a.now in
    let a = n.blocks in
    let e = c.entries in
    let b = c.requires.between in
    let h = c.requires.v_lt_nodes.0 in
    let l = take c.find-found.result c.find-found.new.names in
    let names = found_is a.fit h b e.result.size e.result.col_idx.now e.ensures.sizes.0 e.ensures.columns l c.find-found.ensures.names_after in
    let w : Weighted a.strong (matrix a) a.size a.nodes c.args.v (gather (c.args.v + 1) (set c.args.stamps.now c.args.v (c.args.v + 1)) (nodes_in a.size (part_of a.size c.args.v a.row_ptr.now a.col_idx.now))) c.if-a.sums c.if-a.strengths = elim c.if-a.branch [
      | then-a u ↦ rw (u.sums-is, u.strengths-is) (weighted_as a.fit h b n.norms.now n.normed u.if-a.true l names u.measure.new.sums u.measure.new.strengths u.measure.ensures.sums_after u.measure.ensures.strengths_after)
      | else-a u ↦ rw (u.sums-is, u.strengths-is) (weighted_not a.fit h b _ (found_in a.fit h b) u.if-a.false)
    ] in
    listed a.fit h b w e.result.size e.result.col_idx.now l c.sort.new.a (drop c.find-found.result c.find-found.new.names) c.find-found.new.stamps c.find-found.result e.ensures.sizes.0 e.ensures.columns names
    c.find-found.ensures.value c.find-found.ensures.stamps_after c.sort.ensures
