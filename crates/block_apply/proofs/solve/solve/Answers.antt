use Rattle.block_apply.proofs.Triangles.{solve_law}
use Rattle.block_apply.proofs.solve.solve.Goals as goal

pub returns : goal.returns
returns g c = let a = c.args in solve_law a.l.now g.row.W a.r.now c.forward.new.z c.backward.new.z c.forward.ensures c.backward.ensures
