-- The test of the code is that of the definition.
use Rattle.definitions.specs.Numbers.{larger}
use Rattle.numbers.proofs.larger.Goals as goal

pub returns-then-x-y : goal.returns-then-x-y
unfolding larger
returns-then-x-y c = rw c.if-x-y.true

pub returns-else-x-y : goal.returns-else-x-y
unfolding larger
returns-else-x-y c = rw c.if-x-y.false
