-- The sum grows by one product at a time, from -0.
use mathlib.Core.Path.{◌≡◌}
use lib.ListN.{length, get_or}
use lib.Ieee.{nan}
use Rattle.definitions.specs.Lists.{tab}
use Rattle.definitions.specs.Numbers.{summed, ◌*ᶠ◌}
use Rattle.spectral_radius.proofs.vectors.dot.Given as goal

abbrev pub invariant-loop-p : goal.invariant-loop-p
invariant-loop-p l = l.sum ≡ summed (tab (λ k. get_or l.x k nan *ᶠ get_or l.y k nan) (length l.yielded))
