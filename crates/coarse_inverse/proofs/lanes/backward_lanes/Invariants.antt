use Prim.Native.Nat.{◌-◌, ◌%◌, ◌<◌}
use mathlib.Core.Path.{◌≡◌}
use lib.ListN.{length}
use Rattle.laws.specs.Packed.{Column}
use Rattle.coarse_inverse.proofs.Sides.{Back}
use Rattle.coarse_inverse.proofs.lanes.backward_lanes.Given as goal

abbrev pub invariant-loop-i : goal.invariant-loop-i
invariant-loop-i l =
    let n = l.factor.n in
    record {
      long : length l.w ≡ length l.initial.w;
      solved : Back 16 l.factor.l.now n (n - l.i) l.initial.w l.w;
      column : (n - l.i) % 2 ≡ 1 → 0 < l.i → Column l.factor.l.now (l.i - 1) n l.kept;
    }
