-- What is left of the row decides.
use mathlib.Core.Path.{◌≡◌}
use lib.ListN.{drop}
use Rattle.definitions.specs.Lists.{any, up_to}
use Rattle.block_factor.specs.Dense.{dense, apart_at, row_apart}
use Rattle.block_factor.proofs.symmetry.row_skewed.Given as goal

abbrev pub invariant-loop-j : goal.invariant-loop-j
invariant-loop-j l = row_apart (dense l.b.size l.b.a) l.b.size l.tol l.i ≡ any (apart_at (dense l.b.size l.b.a) l.b.size l.tol l.i) (drop l.j (up_to l.i))
