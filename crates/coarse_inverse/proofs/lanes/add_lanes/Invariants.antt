use mathlib.Core.Path.{◌≡◌}
use mathlib.Core.List.{◌++◌}
use lib.ListN.{get_or, drop}
use lib.Ieee.{nan}
use Rattle.definitions.specs.Lists.{tab}
use Rattle.definitions.specs.Numbers.{◌+ᶠ◌, ◌*ᶠ◌}
use Rattle.coarse_inverse.proofs.lanes.add_lanes.Given as goal

abbrev pub invariant-loop-r : goal.invariant-loop-r
invariant-loop-r l = l.sums ≡ tab (λ r. get_or l.initial.sums r nan +ᶠ l.x *ᶠ get_or l.row r nan) l.r ++ drop l.r l.initial.sums
