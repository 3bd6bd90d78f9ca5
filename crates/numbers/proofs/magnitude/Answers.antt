-- The test of the code is that of the definition.
use Rattle.definitions.specs.Numbers.{magnitude}
use Rattle.numbers.proofs.magnitude.Goals as goal

pub returns-then-x : goal.returns-then-x
unfolding magnitude
returns-then-x c = rw c.if-x.true

pub returns-else-x : goal.returns-else-x
unfolding magnitude
returns-else-x c = rw c.if-x.false
