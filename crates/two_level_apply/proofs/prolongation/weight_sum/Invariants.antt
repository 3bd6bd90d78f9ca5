use mathlib.Core.Path.{◌≡◌}
use lib.ListN.{length}
use Rattle.definitions.specs.Numbers.{minus_zero}
use Rattle.two_level_apply.proofs.Prolonging.{sum_left}
use Rattle.two_level_apply.proofs.prolongation.weight_sum.Given as goal

abbrev pub invariant-loop-column : goal.invariant-loop-column
invariant-loop-column l = sum_left l.columns l.weights l.sol (length l.yielded) l.sum ≡ sum_left l.columns l.weights l.sol 0 minus_zero
