use Prim.Native.Nat.{◌*◌}
use mathlib.Core.Path.{◌≡◌}
use lib.ListN.{length}
use Rattle.definitions.specs.Coarse.{entry_in}
use Rattle.coarse_factor.specs.Fronts.{Fronts}
use Rattle.coarse_factor.proofs.factor.Square.renew.Given as goal

abbrev pub invariant-loop-pair : goal.invariant-loop-pair
invariant-loop-pair l = record {
  long : length l.w ≡ 2048;
  fronts : Fronts (entry_in l.self.m.now l.self.c) l.factor.l.now l.w l.i (l.pair * 2);
}
