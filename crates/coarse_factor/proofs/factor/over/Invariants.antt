use mathlib.Core.Path.{◌≡◌}
use mathlib.Core.List.{◌++◌}
use lib.ListN.{get_or, drop}
use lib.Ieee.{nan}
use Rattle.definitions.specs.Lists.{tab}
use Rattle.definitions.specs.Numbers.{◌/ᶠ◌}
use Rattle.coarse_factor.proofs.factor.over.Given as goal

abbrev pub invariant-loop-r : goal.invariant-loop-r
invariant-loop-r l = l.y ≡ tab (λ t. get_or l.x t nan /ᶠ l.pivot) l.r ++ drop l.r l.initial.y
