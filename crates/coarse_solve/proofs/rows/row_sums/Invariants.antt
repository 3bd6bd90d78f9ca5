use mathlib.Core.Path.{◌≡◌}
use Rattle.coarse_solve.specs.RowSums.{row_sums}
use Rattle.coarse_solve.proofs.rows.row_sums.Given as goal

abbrev pub invariant-loop-k : goal.invariant-loop-k
invariant-loop-k l = l.sums ≡ row_sums l.l l.y l.k l.starts 8
