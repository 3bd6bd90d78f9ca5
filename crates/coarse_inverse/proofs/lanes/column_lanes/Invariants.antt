use Prim.Native.Nat.{suc, ◌+◌, ◌-◌}
use mathlib.Core.Path.{◌≡◌}
use Rattle.definitions.specs.Coarse.{packed, packed_entry}
use Rattle.laws.specs.Packed.{KeptBefore}
use Rattle.coarse_inverse.specs.Lanes.{lane_sums}
use Rattle.coarse_inverse.proofs.lanes.column_lanes.Given as goal

abbrev pub invariant-loop-j : goal.invariant-loop-j
invariant-loop-j l = record {
  place : l.at ≡ packed l.j l.i;
  partial : l.sums ≡ lane_sums 16 (λ k. packed_entry l.factor.l.now (suc l.i + k) l.i) (suc l.i) l.w (l.j - suc l.i);
  kept_before : KeptBefore l.factor.l.now l.i l.j l.initial.kept l.kept;
}
