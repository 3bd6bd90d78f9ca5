use Prim.Native.Nat.{suc, ◌-◌}
use mathlib.Core.Path.{◌≡◌}
use Rattle.definitions.specs.Coarse.{packed}
use Rattle.laws.specs.Packed.{KeptBefore}
use Rattle.coarse_solve.specs.RowSums.{col_sum}
use Rattle.coarse_solve.proofs.solve.column_dot.Given as goal

abbrev pub invariant-loop-j : goal.invariant-loop-j
invariant-loop-j l = record {
  place : l.at ≡ packed l.j l.i;
  partial : l.sum ≡ col_sum l.factor.l.now l.y l.i (l.j - suc l.i);
  kept_before : KeptBefore l.factor.l.now l.i l.j l.initial.kept l.kept;
}
