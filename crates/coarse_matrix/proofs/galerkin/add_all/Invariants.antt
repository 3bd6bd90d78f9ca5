-- The rows before r are in.
use Rattle.csr32.specs.Seen.{square}
use Rattle.coarse_matrix.specs.Galerkin.{weights_of, RowsAdded}
use Rattle.coarse_matrix.proofs.galerkin.add_all.Given as goal

abbrev pub invariant-loop-r : goal.invariant-loop-r
invariant-loop-r l = RowsAdded (square l.m.a) (weights_of l.m.transfer) l.m.transfer.cols l.r l.stamps l.coarse
