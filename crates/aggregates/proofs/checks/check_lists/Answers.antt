-- Each return is one test of the definition.
use mathlib.Core.Path.{refl, sym, ◌∙◌}
use native.Mathlib.Omega.{arith}
use Rattle.aggregates.proofs.checks.Order.{fitting_lists}
use Rattle.std.proofs.lemmas.Bool.Decides.{nat_tests}
use Rattle.definitions.specs.Refusal.{require, ◌>>=◌}
use Rattle.aggregates.specs.Within.{lists_call}
use Rattle.aggregates.proofs.checks.check_lists.Goals as goal

pub returns-then-nodes-gt-MAX_ROWS : goal.returns-then-nodes-gt-MAX_ROWS
unfolding lists_call require ◌>>=◌
returns-then-nodes-gt-MAX_ROWS c = grind (arith, nat_tests)

pub returns-then-size-eq0 : goal.returns-then-size-eq0
unfolding lists_call require ◌>>=◌
returns-then-size-eq0 c = grind (arith, nat_tests)

pub returns-then-not-offsets_fit : goal.returns-then-not-offsets_fit
unfolding lists_call require ◌>>=◌
returns-then-not-offsets_fit c = grind (arith, nat_tests)

pub returns-then-nodes-eq0 : goal.returns-then-nodes-eq0
unfolding lists_call require ◌>>=◌
returns-then-nodes-eq0 c = grind (arith, nat_tests)

pub returns-then-reaches : goal.returns-then-reaches
unfolding lists_call require ◌>>=◌
returns-then-reaches c = grind (arith, nat_tests)

pub invariant_of-result : goal.invariant_of-result
invariant_of-result c =
    let a = c.args in
    record {
      fit = fitting_lists a.nodes a.offsets.now a.neighbours.now (sym c.offsets_fit.ensures ∙ c.if-not-offsets_fit.false) (sym c.reaches.ensures ∙ c.if-reaches.false);
      some = omega arith;
      few = (omega arith, omega arith);
    }

pub returns : goal.returns
unfolding lists_call require ◌>>=◌
returns c = (grind (arith, nat_tests), record { number = refl; offsets_are = refl; neighbours_are = refl }, (omega arith, omega arith))
