-- A usable norm divides each number: the definition's `normalised`.
use mathlib.Core.Path.{◌≡◌, refl, sym, ◌∙◌}
use native.Mathlib.Omega.{arith}
use lib.ListN.{length, get_or}
use lib.Ieee.{nan}
use Rattle.definitions.specs.Numbers.{◌/ᶠ◌}
use Rattle.laws.proofs.Growing.{tab_none, tab_more, tab_all}
use Rattle.spectral_radius.proofs.Sums.{map_tab}
use Rattle.spectral_radius.proofs.Stages.{divided, broken}
use Rattle.spectral_radius.proofs.vectors.normalise.Goals as goal

pub returns-then-not-usable : goal.returns-then-not-usable
returns-then-not-usable c = let a = c.args in broken a.stage a.y.now a.norm c.requires.0 (sym c.usable.ensures ∙ c.if-not-usable.true)

pub loop-k-init : goal.loop-k-init
loop-k-init c = let a = c.args in tab_none (λ i. get_or a.y.now i nan /ᶠ a.norm) a.x.now

pub loop-k-preserved : goal.loop-k-preserved
loop-k-preserved c =
    let a = c.args in
    let l = c.loop-k in
    tab_more (λ i. get_or a.y.now i nan /ᶠ a.norm) l.k l.x a.x.now _ (omega arith) l.invariant refl

pub returns : goal.returns
returns c =
    let a = c.args in
    let l = c.loop-k in
    let e : length a.x.now ≡ length a.y.now = omega arith in
    divided a.stage a.y.now a.norm c.requires.0 l.x (sym c.usable.ensures ∙ c.if-not-usable.false)
    (tab_all (λ i. get_or a.y.now i nan /ᶠ a.norm) l.k l.x a.x.now (omega arith) l.invariant ∙ rw e (map_tab nan (λ v. v /ᶠ a.norm) a.y.now))
