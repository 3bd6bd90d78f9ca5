-- The largest magnitude of the numbers passed.
use mathlib.Core.Path.{◌≡◌}
use lib.ListN.{take}
use Rattle.definitions.specs.Numbers.{largest}
use Rattle.numbers.proofs.scan.largest.Given as goal

abbrev pub invariant-loop-x : goal.invariant-loop-x
invariant-loop-x l = l.top ≡ largest (take l.x-index l.list)
