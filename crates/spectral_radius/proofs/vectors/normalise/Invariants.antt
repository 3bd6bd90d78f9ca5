-- A list filled by index is a `tab`.
use mathlib.Core.Path.{◌≡◌}
use mathlib.Core.List.{◌++◌}
use lib.ListN.{get_or, drop}
use lib.Ieee.{nan}
use Rattle.definitions.specs.Lists.{tab}
use Rattle.definitions.specs.Numbers.{◌/ᶠ◌}
use Rattle.spectral_radius.proofs.vectors.normalise.Given as goal

abbrev pub invariant-loop-k : goal.invariant-loop-k
invariant-loop-k l = l.x ≡ tab (λ i. get_or l.y i nan /ᶠ l.norm) l.k ++ drop l.k l.initial.x
