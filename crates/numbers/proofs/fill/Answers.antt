-- The places passed hold x, the others what they held.
use Rattle.std.proofs.Common.{arith}
use Rattle.numbers.proofs.Over.{filled_more}
use Rattle.numbers.proofs.fill.Goals as goal

pub loop-place-preserved : goal.loop-place-preserved
loop-place-preserved g c = filled_more c.loop-place.invariant (omega arith)
