-- The image's norm comes from the sum that was taken on the way.
use native.Mathlib.Omega.{arith}
use Rattle.definitions.specs.Estimate.{image}
use Rattle.csr32.specs.Seen.{square}
use Rattle.spectral_radius.proofs.Stages.{norm_on_way}
use Rattle.spectral_radius.proofs.power.ScaledCsr.round.Goals as goal

pub normalise-requires : goal.normalise-requires
normalise-requires c =
    let x = c.args in
    let i = c.image-squares in
    (norm_on_way (image (square x.self.now.a) x.self.now.s.now x.x.now) i.new.y i.result c.root.result i.ensures.image_made i.ensures.squares c.root.ensures, omega arith)
