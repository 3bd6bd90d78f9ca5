use Rattle.std.proofs.Common.{◌+◌, ◌-◌, ◌*◌, ◌≤◌, length, arith}
use Rattle.block_apply.proofs.Places.{whole_end, whole_width, blocks_none, blocks_more, factor_end}
use Rattle.block_apply.proofs.blocks.whole_blocks.Goals as goal

pub loop-k-init : goal.loop-k-init
loop-k-init g c = let a = c.args in blocks_none (length a.r.now) g.row.W a.factors.now a.r.now a.z.now

pub slice_bounds-solve-end : goal.slice_bounds-solve-end
slice_bounds-solve-end g c =
    let p = c.requires in
    let e : c.loop-k.k * g.row.W + g.row.W ≤ length c.args.r.now = whole_end c.args.count g.row.W c.loop-k.k _ (omega arith) p.inside in
    factor_end _ g.row.W (c.loop-k.k * g.row.W) g.row.W _ (omega arith) e p.held

pub loop-k-preserved : goal.loop-k-preserved
loop-k-preserved g c =
    let a = c.args in
    let o = c.loop-k in
    let w = g.row.W in
    let first = o.k * w in
    let p = c.requires in
    let e : first + w ≤ length a.r.now = whole_end a.count w o.k _ (omega arith) p.inside in
    blocks_more (length a.r.now) w a.factors.now a.r.now a.z.now o.z c.solve.new.z o.k w (first + w - first) (first + w - first) (first * w + w * w - first * w) p.same
    (omega (arith, e, p.wide)) (whole_width (length a.r.now) w o.k e) (omega arith) (omega arith) (omega arith) o.invariant c.solve.ensures
