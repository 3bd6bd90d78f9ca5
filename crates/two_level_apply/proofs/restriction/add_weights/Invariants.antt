use mathlib.Core.Path.{◌≡◌}
use lib.ListN.{length}
use Rattle.two_level_apply.proofs.Restricting.{weights_left}
use Rattle.two_level_apply.proofs.restriction.add_weights.Given as goal

abbrev pub invariant-loop-column : goal.invariant-loop-column
invariant-loop-column l = weights_left l.columns l.weights l.x (length l.yielded) l.rhs ≡ weights_left l.columns l.weights l.x 0 l.initial.rhs
