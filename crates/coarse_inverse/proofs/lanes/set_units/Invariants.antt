use lib.ListN.{length}
use Rattle.coarse_inverse.specs.Lanes.{Units}
use Rattle.coarse_inverse.proofs.lanes.set_units.Given as goal

abbrev pub invariant-loop-r : goal.invariant-loop-r
invariant-loop-r l = Units 16 (length l.fn.w) l.i l.r l.w
