-- The theorem at instances whose premises and accepted setups are computed (`instances_hold`): block size 2, both graph policies, both bases and both coarse solves.
use lib.Dec.{T}
use Rattle.definitions.specs.Apply.{corrected}
use Rattle.definitions.specs.Separation.{agreeing}
use Rattle.definitions.proofs.Instances.{Instance, Met, pairs, star, instances_hold}
use Rattle.separation.proofs.Theorem.{separation}

abbrev Agreeing : Instance → Type 0
Agreeing x = T (agreeing x.part x.options.block x.matrix.rows (corrected x.matrix x.options x.load) (corrected x.matrix x.options x.load'))

by_theorem : (x : Instance) → Met x → Agreeing x
by_theorem x m = separation x.matrix x.options x.part x.load x.load' m.0 m.1.0

pub instances_apart : Agreeing pairs × Agreeing star
instances_apart = (by_theorem pairs instances_hold.0, by_theorem star instances_hold.1)
