-- The listed nodes left to clear give the whole clearing.
use native.Mathlib.Omega.{arith}
use Rattle.adjacency.proofs.Weighing.{clear_more, clear_done}
use Rattle.adjacency.proofs.sums.clear.Goals as goal

pub loop-w-preserved : goal.loop-w-preserved
loop-w-preserved c = clear_more c.args.list.now c.args.sums.now c.loop-w.sums c.loop-w.w-index c.loop-w.invariant (omega arith)

pub returns : goal.returns
returns c = clear_done c.args.list.now c.args.sums.now c.loop-w.sums c.loop-w.w-index c.loop-w.invariant (omega arith)
