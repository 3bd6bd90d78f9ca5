use Rattle.std.proofs.Common.{get_or, arith}
use lib.Ieee.{nan}
use Rattle.block_apply.proofs.Triangles.{column_none, column_step}
use Rattle.block_apply.proofs.solve.column_rest.Goals as goal

pub loop-m-init : goal.loop-m-init
loop-m-init g c = let a = c.args in column_none a.l.now g.row.W a.z.now (get_or a.z.now a.i nan) a.i

pub loop-m-preserved : goal.loop-m-preserved
loop-m-preserved g c =
    let a = c.args in
    let o = c.loop-m in
    column_step a.l.now g.row.W a.z.now (get_or a.z.now a.i nan) a.i o.m o.rest (omega arith) o.invariant
