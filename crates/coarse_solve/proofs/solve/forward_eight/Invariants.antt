use Prim.Native.Nat.{◌+◌}
use mathlib.Core.Path.{◌≡◌}
use lib.ListN.{length}
use Rattle.coarse_solve.proofs.Solving.{ForwardOn}
use Rattle.coarse_solve.proofs.solve.forward_eight.Given as goal

abbrev pub invariant-loop-r : goal.invariant-loop-r
invariant-loop-r l = record { long : length l.y ≡ length l.initial.y; on : ForwardOn l.factor.l.now l.initial.y l.y l.i (l.i + l.r) }
