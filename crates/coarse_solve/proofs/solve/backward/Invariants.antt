use Prim.Native.Nat.{◌-◌, ◌%◌, ◌<◌}
use mathlib.Core.Path.{◌≡◌}
use mathlib.Core.List.{◌++◌}
use lib.ListN.{length, take}
use Rattle.definitions.specs.Coarse.{packed_backward}
use Rattle.laws.specs.Packed.{Column}
use Rattle.coarse_solve.proofs.solve.backward.Given as goal

abbrev pub invariant-loop-i : goal.invariant-loop-i
invariant-loop-i l =
    let n = length l.initial.y in
    record {
      room : length l.kept ≡ length l.initial.kept;
      solved : l.y ≡ take (n - (n - l.i)) l.initial.y ++ packed_backward l.factor.l.now n l.initial.y (n - l.i);
      column : (n - l.i) % 2 ≡ 1 → 0 < l.i → Column l.factor.l.now (l.i - 1) n l.kept;
    }
