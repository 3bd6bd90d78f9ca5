use Prim.Native.Nat.{◌+◌, ◌*◌}
use mathlib.Core.Path.{◌≡◌}
use mathlib.Core.List.{◌++◌}
use lib.ListN.{drop}
use Rattle.definitions.specs.Lists.{tab}
use Rattle.coarse_solve.proofs.stored.starts.Given as goal

abbrev pub invariant-loop-r : goal.invariant-loop-r
invariant-loop-r l = l.start-items ≡ tab (λ r. (l.i + r) * l.c) l.r ++ drop l.r l.initial.start-items
