-- Past the end both are NaN.
use mathlib.Core.Path.{◌∙◌}
use native.Mathlib.Omega.{arith}
use lib.Ieee.{nan, of_bits}
use Rattle.coarse_factor.proofs.factor.Square.entry.Goals as goal

pub returns : goal.returns
unfolding of_bits
returns c = c.unwrap_or.ensures ∙ rw c.copied.ensures (c.get.ensures.lookup.4 (omega arith) nan)
