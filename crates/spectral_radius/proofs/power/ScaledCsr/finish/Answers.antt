-- rho is the vector's product with its image.
use mathlib.Core.Path.{sym, ◌∙◌}
use native.Mathlib.Omega.{arith}
use Rattle.definitions.specs.Estimate.{damping_of}
use Rattle.csr32.specs.Seen.{square}
use Rattle.spectral_radius.proofs.Stages.{dot_zip, rho_is, finished, fails_at_3, fails_at_4}
use Rattle.spectral_radius.proofs.power.ScaledCsr.finish.Goals as goal

pub returns-then-not-above : goal.returns-then-not-above
returns-then-not-above c =
    let x = c.args in
    let m = x.self.now in
    let i = c.image-damping in
    let d = c.dot-rho in
    let rho = rho_is (square m.a) m.s.now x.x.now i.new.y d.result (dot_zip x.x.now i.new.y d.result (omega arith) d.ensures) i.ensures.image_made in
    fails_at_3 (square m.a) m.s.now x.x.now d.result rho (sym c.above.ensures ∙ c.if-not-above.true)

pub returns-then-not-above-2 : goal.returns-then-not-above-2
unfolding damping_of
returns-then-not-above-2 c =
    let x = c.args in
    let m = x.self.now in
    let i = c.image-damping in
    let d = c.dot-rho in
    let rho = rho_is (square m.a) m.s.now x.x.now i.new.y d.result (dot_zip x.x.now i.new.y d.result (omega arith) d.ensures) i.ensures.image_made in
    fails_at_4 (square m.a) m.s.now x.x.now d.result rho (sym c.above.ensures ∙ c.if-not-above.false) (sym c.above-2.ensures ∙ c.if-not-above-2.true)

pub returns : goal.returns
unfolding damping_of
returns c =
    let x = c.args in
    let m = x.self.now in
    let i = c.image-damping in
    let d = c.dot-rho in
    let rho = rho_is (square m.a) m.s.now x.x.now i.new.y d.result (dot_zip x.x.now i.new.y d.result (omega arith) d.ensures) i.ensures.image_made in
    finished (square m.a) m.s.now x.x.now d.result rho (sym c.above.ensures ∙ c.if-not-above.false) (sym c.above-2.ensures ∙ c.if-not-above-2.false)
