-- One column more.
use native.Mathlib.Omega.{arith}
use Rattle.coarse_matrix.proofs.Weighing.{weigh_none, weigh_more}
use Rattle.coarse_matrix.proofs.galerkin.weigh.Goals as goal

pub loop-k-init : goal.loop-k-init
loop-k-init c = let a = c.args in weigh_none a.touched.now a.weight a.dst a.sums.now a.coarse.now

pub loop-k-preserved : goal.loop-k-preserved
loop-k-preserved c = let a = c.args in let l = c.loop-k in weigh_more a.touched.now l.k-index a.weight a.dst a.sums.now a.coarse.now l.coarse (omega arith) l.invariant
