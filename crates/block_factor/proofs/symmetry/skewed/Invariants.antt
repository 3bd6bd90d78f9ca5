-- What is left of the rows decides.
use mathlib.Core.Path.{◌≡◌}
use lib.ListN.{drop}
use Rattle.definitions.specs.Lists.{any, up_to}
use Rattle.definitions.specs.Block.{skewed}
use Rattle.block_factor.specs.Dense.{dense, row_apart}
use Rattle.block_factor.proofs.symmetry.skewed.Given as goal

abbrev pub invariant-loop-i : goal.invariant-loop-i
invariant-loop-i l = skewed (dense l.b.size l.b.a) l.b.size l.tol ≡ any (row_apart (dense l.b.size l.b.a) l.b.size l.tol) (drop l.i (up_to l.b.size))
