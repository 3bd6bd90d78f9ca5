use Rattle.std.proofs.Common.{◌-◌, refl, arith}
use Rattle.block_apply.proofs.Triangles.{backward_none, backward_step}
use Rattle.block_apply.proofs.solve.backward.Goals as goal

pub loop-i-init : goal.loop-i-init
loop-i-init g c = backward_none c.args.l.now c.args.z.now g.row.W c.requires.room

pub loop-i-preserved : goal.loop-i-preserved
loop-i-preserved g c =
    let a = c.args in
    let o = c.loop-i in
    backward_step a.l.now a.z.now o.z g.row.W (o.i - 1) o.i (omega arith) c.requires.room (omega arith) o.invariant c.column_rest.result _ c.column_rest.ensures refl
