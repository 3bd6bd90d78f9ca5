-- What the entries passed put.
use Rattle.coarse_matrix.specs.Galerkin.{weights_of, Put, product_puts}
use Rattle.coarse_matrix.proofs.Passing.{passed}
use Rattle.coarse_matrix.proofs.galerkin.add_row.Given as goal

abbrev pub invariant-loop-column : goal.invariant-loop-column
invariant-loop-column l = Put l.m.transfer.cols l.token l.initial.stamps l.initial.touched l.initial.sums 0 l.stamps l.touched l.sums l.count (product_puts (weights_of l.m.transfer) (passed l.yielded))
