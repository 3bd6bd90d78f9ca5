-- The count over the elements passed.
use mathlib.Core.Path.{◌≡◌}
use lib.ListN.{take}
use Rattle.definitions.specs.Numbers.{nonzeros}
use Rattle.coarse_matrix.proofs.nonzeros.Given as goal

abbrev pub invariant-loop-x : goal.invariant-loop-x
invariant-loop-x l = l.count ≡ nonzeros (take l.x-index l.m)
