-- The factor stays, or the inverse takes its place.
use Rattle.two_level_setup.proofs.Storing.{kept_factor, kept_inverse}
use Rattle.definitions.specs.Numbers.{zeroᶠ}
use lib.ListN.{replicate}
use mathlib.Core.Path.{ap, ◌∙◌}
use Rattle.two_level_setup.proofs.coarse.store.Goals as goal
use Rattle.two_level_setup.proofs.coarse.store.Goals.{in-Auto, in-ExplicitInverse}

pub returns : goal.returns
returns c =
    let a = c.args in
    let z = c.fill in
    elim c.match-policy.branch [
      | in-Auto w ↦ rw w.floats-is (kept_factor a.policy a.c a.start a.floats.now a.work.now z.new.self (rw w.work-is at (z.ensures.after (λ y e. e))) w.in-Auto.is)
      | in-ExplicitInverse w ↦ rw w.floats-is (kept_inverse a.policy a.c a.start a.floats.now a.work.now w.invert.new.floats z.new.self w.in-ExplicitInverse.is w.invert.ensures ((rw w.work-is at (z.ensures.after (λ y e. e))) ∙ ap (λ n. replicate n zeroᶠ) w.invert.auto.work))
    ]
