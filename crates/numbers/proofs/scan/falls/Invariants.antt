-- A fall was found, or is found in what is left.
use mathlib.Core.Path.{◌≡◌}
use mathlib.Core.Bool.{◌||◌}
use Prim.Native.Nat.{◌-◌, ◌<◌}
use lib.ListN.{drop}
use Rattle.definitions.specs.Lists.{falls}
use Rattle.numbers.proofs.scan.falls.Given as goal

abbrev pub invariant-loop-i : goal.invariant-loop-i
invariant-loop-i l = (0 < l.i) × (falls l.list ≡ (l.found || falls (drop (l.i - 1) l.list)))
