-- The root of the vector's dot product with itself.
use Rattle.spectral_radius.proofs.Stages.{norm_is}
use Rattle.spectral_radius.proofs.vectors.norm.Goals as goal

pub returns : goal.returns
returns c = norm_is c.args.x.now c.dot.result c.root.result c.dot.ensures c.root.ensures
