-- What stands between two pointers.
use Rattle.definitions.specs.Matrix.{row_of}
use Rattle.csr32.proofs.Parts.{part_cut}
use Rattle.coarse_matrix.proofs.smoothed.SmoothedMatrix.weights.Goals as goal

pub returns-clause-entries : goal.returns-clause-entries
unfolding row_of
returns-clause-entries c = let t = c.args.self.now.transfer in rw (part_cut t.row_ptr.now c.args.i t.col_idx.now, part_cut t.row_ptr.now c.args.i t.values.now)
