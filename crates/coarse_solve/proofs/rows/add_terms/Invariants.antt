use mathlib.Core.Path.{◌≡◌}
use mathlib.Core.List.{◌++◌}
use lib.ListN.{drop}
use Rattle.coarse_solve.specs.RowSums.{with_terms}
use Rattle.coarse_solve.proofs.rows.add_terms.Given as goal

abbrev pub invariant-loop-r : goal.invariant-loop-r
invariant-loop-r l = l.sums ≡ with_terms l.initial.sums l.l l.starts l.k l.x l.r ++ drop l.r l.initial.sums
