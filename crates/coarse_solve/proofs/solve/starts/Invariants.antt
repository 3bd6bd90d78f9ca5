use Prim.Native.Nat.{◌+◌}
use mathlib.Core.Path.{◌≡◌}
use mathlib.Core.List.{◌++◌}
use lib.ListN.{drop}
use Rattle.definitions.specs.Lists.{tab}
use Rattle.definitions.specs.Coarse.{packed_length}
use Rattle.coarse_solve.proofs.solve.starts.Given as goal

abbrev pub invariant-loop-r : goal.invariant-loop-r
invariant-loop-r l = l.start-items ≡ tab (λ r. packed_length (l.i + r)) l.r ++ drop l.r l.initial.start-items
