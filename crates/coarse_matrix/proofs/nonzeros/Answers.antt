-- The count over the elements passed.
use native.Mathlib.Omega.{arith}
use lib.ListN.{take}
use lib.Seq.{length-take-le}
use Rattle.coarse_matrix.proofs.Zeros.{nonzeros_few, nonzeros_none, nonzeros_more, nonzeros_same}
use Rattle.coarse_matrix.proofs.nonzeros.Goals as goal
use Rattle.coarse_matrix.proofs.nonzeros.Goals.{then-x, else-x}

pub loop-x-init : goal.loop-x-init
loop-x-init c = nonzeros_none c.args.m.now

pub overflow_add-count : goal.overflow_add-count
overflow_add-count c =
    let m = c.args.m.now in
    let l = c.loop-x in
    omega (arith, l.invariant, nonzeros_few (take l.x-index m), length-take-le l.x-index m (omega arith))

pub loop-x-preserved : goal.loop-x-preserved
loop-x-preserved c =
    let m = c.args.m.now in
    let l = c.loop-x in
    elim c.if-x.branch [
      | then-x w ↦ rw w.count-is (nonzeros_more m l.x-index (omega arith) l.invariant w.if-x.true)
      | else-x w ↦ rw w.count-is (nonzeros_same m l.x-index (omega arith) l.invariant w.if-x.false)
    ]
