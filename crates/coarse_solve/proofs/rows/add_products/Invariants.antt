use mathlib.Core.Path.{◌≡◌}
use lib.ListN.{length}
use Rattle.definitions.specs.Lists.{tab}
use Rattle.coarse_solve.specs.RowSums.{added, product}
use Rattle.coarse_solve.proofs.rows.add_products.Given as goal

abbrev pub invariant-loop-p : goal.invariant-loop-p
invariant-loop-p l = l.sum ≡ added l.initial.sum (tab (product l.a l.b) (length l.yielded))
