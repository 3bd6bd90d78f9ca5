use mathlib.Core.Path.{◌≡◌}
use mathlib.Core.List.{◌++◌}
use lib.ListN.{get_or, drop}
use lib.Ieee.{nan}
use Rattle.definitions.specs.Lists.{tab}
use Rattle.definitions.specs.Numbers.{◌+ᶠ◌}
use Rattle.two_level_apply.proofs.adding.add_list.Given as goal

abbrev pub invariant-loop-k : goal.invariant-loop-k
invariant-loop-k l = l.to ≡ tab (λ k. get_or l.initial.to k nan +ᶠ get_or l.from k nan) l.k ++ drop l.k l.initial.to
