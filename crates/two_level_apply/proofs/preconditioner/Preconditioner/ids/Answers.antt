-- The ids of a setup that fits have their groups' columns within.
use Rattle.two_level_apply.proofs.Parts.{grouped}
use Rattle.two_level_apply.proofs.preconditioner.Preconditioner.ids.Goals as goal

pub returns-clause-grouped : goal.returns-clause-grouped
returns-clause-grouped c = let p = c.args.self.now in grouped p.setup p.places p.ints.now p.floats.now p.laid
