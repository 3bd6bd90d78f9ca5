use Prim.Native.Nat.{◌+◌}
use mathlib.Core.Path.{◌≡◌}
use lib.ListN.{get_or}
use lib.Ieee.{nan}
use Rattle.definitions.specs.Lists.{tab}
use Rattle.definitions.specs.Coarse.{entry_in}
use Rattle.coarse_factor.specs.Fronts.{less_row}
use Rattle.coarse_factor.proofs.factor.Square.pair_rest.Given as goal

abbrev pub invariant-loop-k : goal.invariant-loop-k
invariant-loop-k l = record {
  first : l.x ≡ tab (less_row (entry_in l.self.m.now l.self.c) (λ t. get_or l.row t nan) l.w l.n l.j l.k) 8;
  second : l.y ≡ tab (less_row (entry_in l.self.m.now l.self.c) (λ t. get_or l.next t nan) l.w l.n (l.j + 1) l.k) 8;
}
