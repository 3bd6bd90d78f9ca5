-- What is left of the diagonal decides.
use mathlib.Core.Path.{◌≡◌}
use lib.ListN.{drop}
use Rattle.definitions.specs.Estimate.{usable_from}
use Rattle.spectral_radius.proofs.diagonal.check.Given as goal

abbrev pub invariant-loop-i : goal.invariant-loop-i
invariant-loop-i l = usable_from l.i (drop l.i l.d) ≡ usable_from 0 l.d
