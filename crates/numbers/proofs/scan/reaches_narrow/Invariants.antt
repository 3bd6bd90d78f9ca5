-- What was found, or is found in what is left.
use mathlib.Core.Path.{◌≡◌}
use mathlib.Core.Bool.{◌||◌}
use lib.Dec.{leb}
use lib.ListN.{drop}
use Rattle.definitions.specs.Lists.{any}
use Rattle.numbers.proofs.scan.reaches_narrow.Given as goal

abbrev pub invariant-loop-x : goal.invariant-loop-x
invariant-loop-x l = any (leb l.top) l.list ≡ (l.found || any (leb l.top) (drop l.x-index l.list))
