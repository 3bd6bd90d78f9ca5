use mathlib.Core.Path.{◌≡◌}
use mathlib.Core.List.{◌++◌}
use lib.ListN.{drop}
use Rattle.coarse_inverse.specs.Lanes.{lanes_less}
use Rattle.coarse_inverse.proofs.lanes.put_lanes.Given as goal

abbrev pub invariant-loop-r : goal.invariant-loop-r
invariant-loop-r l = l.row ≡ lanes_less l.r l.initial.row l.sums l.pivot ++ drop l.r l.initial.row
