-- A value that is not finite was found, or is found in what is left.
use mathlib.Core.Path.{◌≡◌}
use mathlib.Core.Bool.{◌||◌}
use lib.ListN.{drop}
use Rattle.csr32.specs.Rows.{unreal}
use Rattle.csr32.proofs.matrix.value_not_finite.Given as goal

abbrev pub invariant-loop-x : goal.invariant-loop-x
invariant-loop-x l = unreal l.values ≡ (l.found || unreal (drop l.x-index l.values))
