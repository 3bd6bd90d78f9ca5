use Prim.Native.Nat.{◌+◌}
use mathlib.Core.Path.{◌≡◌}
use mathlib.Core.List.{◌++◌}
use lib.ListN.{drop}
use Rattle.definitions.specs.Lists.{tab}
use Rattle.definitions.specs.Coarse.{entry_in}
use Rattle.coarse_factor.proofs.factor.Square.eight.Given as goal

abbrev pub invariant-loop-r : goal.invariant-loop-r
invariant-loop-r l = l.x ≡ tab (λ t. entry_in l.self.m.now l.self.c (l.n + t) l.j) l.r ++ drop l.r l.initial.x
