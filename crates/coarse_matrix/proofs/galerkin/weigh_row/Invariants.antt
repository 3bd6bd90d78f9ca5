-- What the weights passed put.
use mathlib.Core.Path.{◌≡◌}
use Rattle.laws.specs.Scatter.{scatter}
use Rattle.coarse_matrix.specs.Galerkin.{weighed_puts}
use Rattle.coarse_matrix.proofs.Passing.{passed}
use Rattle.coarse_matrix.proofs.galerkin.weigh_row.Given as goal

abbrev pub invariant-loop-row : goal.invariant-loop-row
invariant-loop-row l = l.coarse ≡ scatter (weighed_puts l.transfer.cols l.sums l.touched (passed l.yielded)) l.initial.coarse
