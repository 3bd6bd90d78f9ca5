-- A list filled by index is a `tab`, and that of the inverse roots is the definition's map.
use mathlib.Core.Path.{◌≡◌, ap, ◌∙◌}
use native.Mathlib.Omega.{arith}
use lib.ListN.{length, get_or}
use lib.Ieee.{nan}
use Rattle.definitions.specs.Numbers.{oneᶠ, rootᶠ, ◌/ᶠ◌}
use Rattle.definitions.specs.Estimate.{inverse_roots}
use Rattle.laws.proofs.Growing.{tab_none, tab_more, tab_all}
use Rattle.spectral_radius.proofs.Sums.{map_tab}
use Rattle.spectral_radius.proofs.diagonal.inverse_roots.Goals as goal

pub loop-i-init : goal.loop-i-init
loop-i-init c = tab_none (λ k. oneᶠ /ᶠ rootᶠ (get_or c.args.d.now k nan)) c.args.s.now

pub loop-i-preserved : goal.loop-i-preserved
loop-i-preserved c =
    let a = c.args in
    let l = c.loop-i in
    tab_more (λ k. oneᶠ /ᶠ rootᶠ (get_or a.d.now k nan)) l.i l.s a.s.now (oneᶠ /ᶠ c.root_by.result) (omega arith) l.invariant (ap (λ v. oneᶠ /ᶠ v) c.root_by.ensures)

pub returns : goal.returns
unfolding inverse_roots
returns c =
    let a = c.args in
    let l = c.loop-i in
    let e : length a.s.now ≡ length a.d.now = omega arith in
    tab_all (λ k. oneᶠ /ᶠ rootᶠ (get_or a.d.now k nan)) l.i l.s a.s.now (omega arith) l.invariant ∙ rw e (map_tab nan (λ x. oneᶠ /ᶠ rootᶠ x) a.d.now)
