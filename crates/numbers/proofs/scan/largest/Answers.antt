-- The largest magnitude of the numbers passed.
use native.Mathlib.Omega.{arith}
use Rattle.numbers.proofs.Passing.{largest_none, largest_more}
use Rattle.numbers.proofs.scan.largest.Goals as goal

pub loop-x-init : goal.loop-x-init
loop-x-init c = largest_none c.args.list.now

pub loop-x-preserved : goal.loop-x-preserved
loop-x-preserved c =
    let l = c.loop-x in
    largest_more c.args.list.now l.x-index l.top l.invariant c.magnitude.result _ (omega arith) c.magnitude.ensures c.larger-top.ensures
