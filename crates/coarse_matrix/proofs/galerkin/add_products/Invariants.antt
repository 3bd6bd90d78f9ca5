-- What the weights passed put.
use Rattle.coarse_matrix.specs.Galerkin.{Put, scaled}
use Rattle.coarse_matrix.proofs.Passing.{passed}
use Rattle.coarse_matrix.proofs.galerkin.add_products.Given as goal

abbrev pub invariant-loop-column : goal.invariant-loop-column
invariant-loop-column l = Put l.m.transfer.cols l.token l.initial.stamps l.initial.touched l.initial.sums l.count l.stamps l.touched l.sums l.n (scaled l.value (passed l.yielded))
