-- The rows left to do give, from the rows there, what the whole gives.
use mathlib.Core.Path.{◌≡◌}
use Rattle.block_factor.proofs.Steps.{RowsLeft}
use Rattle.block_factor.proofs.cholesky.factor_rows.Given as goal

abbrev pub invariant-loop-i : goal.invariant-loop-i
invariant-loop-i l = record { sized : l.l.size ≡ l.a.size; left : RowsLeft l.a.size l.a.a l.tol l.i l.l.a }
