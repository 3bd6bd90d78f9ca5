-- By its definition.
use Rattle.adjacency.specs.Collect.{reciprocal_of}
use mathlib.Core.Path.{refl}
use Rattle.adjacency.proofs.links.reciprocal_of.Goals as goal

pub returns : goal.returns
unfolding reciprocal_of
returns c = refl
