use mathlib.Core.Path.{◌≡◌}
use mathlib.Core.List.{◌++◌}
use lib.ListN.{get_or, drop}
use lib.Ieee.{nan}
use Rattle.definitions.specs.Lists.{tab}
use Rattle.definitions.specs.Numbers.{◌-ᶠ◌, ◌*ᶠ◌}
use Rattle.coarse_factor.proofs.factor.take_eight.Given as goal

abbrev pub invariant-loop-r : goal.invariant-loop-r
invariant-loop-r l = l.x ≡ tab (λ t. get_or l.initial.x t nan -ᶠ get_or l.w t nan *ᶠ l.y) l.r ++ drop l.r l.initial.x
