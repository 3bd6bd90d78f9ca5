use Rattle.std.proofs.Common.{refl, arith}
use Rattle.block_apply.proofs.Triangles.{forward_none, forward_step}
use Rattle.block_apply.proofs.solve.forward.Goals as goal

pub loop-i-init : goal.loop-i-init
loop-i-init g c = let a = c.args in forward_none a.l.now g.row.W a.r.now a.z.now

pub loop-i-preserved : goal.loop-i-preserved
loop-i-preserved g c =
    let a = c.args in
    let o = c.loop-i in
    let d = c.row_rest in
    forward_step a.l.now a.r.now a.z.now o.z g.row.W o.i (omega (arith, c.requires.room)) o.invariant d.result _ d.ensures refl
