use Prim.Native.Nat.{◌-◌, ◌≤◌}
use mathlib.Core.Path.{◌≡◌}
use lib.ListN.{length}
use Rattle.definitions.specs.Factor.{factor_rows}
use Rattle.definitions.specs.Coarse.{packed, packed_length, entry_in}
use Rattle.definitions.specs.declared.Refusal.TheVariants.{CoarsePivot}
use Rattle.coarse_factor.specs.Fronts.{Fronts}
use Rattle.coarse_factor.proofs.factor.Square.factor_rows.Given as goal

abbrev pub invariant-loop-i : goal.invariant-loop-i
invariant-loop-i l = record {
  long : length l.l ≡ length l.initial.l;
  starts : l.start ≡ packed_length l.i;
  left : factor_rows packed (λ k. CoarsePivot k) (entry_in l.self.m.now l.self.c) l.tol (l.self.c - l.i) l.i l.l ≡ factor_rows packed (λ k. CoarsePivot k) (entry_in l.self.m.now l.self.c) l.tol l.self.c 0 l.initial.l;
  within : l.n ≤ l.i;
  columns : length l.w ≡ 2048;
  fronts : Fronts (entry_in l.self.m.now l.self.c) l.l l.w l.n l.i;
}
