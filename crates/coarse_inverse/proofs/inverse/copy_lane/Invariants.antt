use mathlib.Core.Path.{◌≡◌}
use mathlib.Core.List.{◌++◌}
use lib.ListN.{take, drop}
use Rattle.coarse_inverse.specs.Lanes.{lane}
use Rattle.coarse_inverse.proofs.inverse.copy_lane.Given as goal

abbrev pub invariant-loop-k : goal.invariant-loop-k
invariant-loop-k l = l.row ≡ lane (take l.k l.w) l.r ++ drop l.k l.initial.row
