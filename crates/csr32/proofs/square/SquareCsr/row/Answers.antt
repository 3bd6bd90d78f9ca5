-- As of any compressed rows.
use Rattle.definitions.specs.Matrix.{entries_of}
use Rattle.csr32.proofs.square.SquareCsr.row.Goals as goal

pub returns-clause-entries : goal.returns-clause-entries
unfolding entries_of
returns-clause-entries c = c.row.ensures.entries
