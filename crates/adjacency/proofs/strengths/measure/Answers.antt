-- The entries are the node's; the nodes left to measure give the whole measuring.
use Rattle.std.proofs.Common.{◌<◌, length, arith}
use Rattle.adjacency.proofs.Measuring.{measure_more, measure_done}
use Rattle.adjacency.proofs.strengths.measure.Goals as goal

pub loop-w-preserved : goal.loop-w-preserved
loop-w-preserved c =
    let a = c.args in
    let o = c.loop-w in
    let h : o.w-index < length a.list.now = omega arith in
    let n = c.requires.lengths in
    let w = c.requires.below.1 o.w-index h in
    measure_more a.list.now a.v c.weigh.new.sums a.a.now.norms.now a.strengths.now o.strengths o.w-index _ c.strength.result o.invariant h (omega (arith, c.requires.below.0, a.a.now.long)) (omega (arith, w, c.clear.auto.sums, c.weigh.auto.sums)) (omega (arith, w, a.a.now.long)) c.strength.ensures

pub returns-clause-strengths_after : goal.returns-clause-strengths_after
returns-clause-strengths_after c = let a = c.args in measure_done a.list.now a.v c.weigh.new.sums a.a.now.norms.now a.strengths.now c.loop-w.strengths c.loop-w.w-index c.loop-w.invariant (omega arith)
