-- The options that the numbers name; what the call answers, as its number and values.
use mathlib.Core.Path.{refl, sym, ◌∙◌}
use Rattle.yelomawin.specs.Boundary.{whether, options_of}
use Rattle.yelomawin.specs.Calls.{exported_setup}
use Rattle.yelomawin.proofs.Handing.{handed_is}
use Rattle.definitions.specs.Answers.{setup_values}
use Rattle.definitions.specs.Answers.{values_with}
use Rattle.yelomawin.proofs.yelomawin_setup.Goals as goal

pub returns-then-not-are_policies : goal.returns-then-not-are_policies
unfolding exported_setup whether
returns-then-not-are_policies c = rw (sym c.are_policies.ensures ∙ c.if-not-are_policies.true) (handed_is refl refl c.receive.ensures)

pub returns : goal.returns
unfolding exported_setup values_with setup_values whether options_of
returns c =
    let g = c.setup-made.ensures in
    let t = c.tell.ensures in
    rw (sym c.are_policies.ensures ∙ c.if-not-are_policies.false, ← c.aggregation_of.ensures, ← c.basis_of.ensures, ← c.policy_of.ensures, ← c.matrix-a.ensures, ← g.0) (handed_is t.value g.1 t.list_after)
