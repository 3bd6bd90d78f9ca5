-- The image grows, and with it the sum of its squares.
use mathlib.Core.Path.{◌≡◌, refl, sym, ap, ◌∙◌}
use native.Mathlib.Omega.{arith}
use Rattle.definitions.specs.Lists.{tab}
use Rattle.definitions.specs.Numbers.{◌*ᶠ◌, summed}
use Rattle.definitions.specs.Estimate.{image}
use Rattle.csr32.specs.Seen.{square}
use Rattle.laws.proofs.Growing.{tab_none, tab_more, tab_all, summed_none, summed_more}
use Rattle.spectral_radius.specs.Power.{image_at}
use Rattle.spectral_radius.proofs.Sums.{tab_map}
use Rattle.spectral_radius.proofs.power.ScaledCsr.image.Goals as goal

pub loop-i-init : goal.loop-i-init
loop-i-init c =
    let x = c.args in
    let f = image_at (square x.self.now.a) x.self.now.s.now x.x.now in
    record { filled = tab_none f x.y.now; squared = summed_none (λ k. f k *ᶠ f k) }

pub loop-i-preserved : goal.loop-i-preserved
loop-i-preserved c =
    let x = c.args in
    let l = c.loop-i in
    let v = c.row_image-element in
    let f = image_at (square x.self.now.a) x.self.now.s.now x.x.now in record {
      filled = tab_more f l.i l.y x.y.now v.result (omega arith) l.invariant.filled v.ensures;
      squared = summed_more (λ k. f k *ᶠ f k) l.i l.sum _ (v.result *ᶠ v.result) l.invariant.squared (rw v.ensures) refl;
    }

pub returns : goal.returns
unfolding image
returns c =
    let x = c.args in
    let l = c.loop-i in
    let f = image_at (square x.self.now.a) x.self.now.s.now x.x.now in
    let e : l.i ≡ x.self.now.a.rows = omega arith in record {
      image_made = tab_all f l.i l.y x.y.now (omega arith) l.invariant.filled ∙ ap (tab f) c.requires.1;
      squares = (rw e at l.invariant.squared) ∙ ap summed (sym (tab_map (λ v. v *ᶠ v) f x.self.now.a.rows));
    }
