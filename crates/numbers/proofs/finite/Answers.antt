-- A number is finite exactly where it and its negation are below +infinity.
use mathlib.Core.Path.{◌∙◌}
use lib.Ieee.{of_bits}
use Rattle.numbers.proofs.Infinities.{below, not_below}
use Rattle.numbers.proofs.finite.Goals as goal

pub returns-then-x : goal.returns-then-x
unfolding of_bits
returns-then-x c = below c.args.x c.if-x.true

pub returns-else-x : goal.returns-else-x
unfolding of_bits
returns-else-x c = c.if-x.false ∙ not_below c.args.x c.if-x.false
