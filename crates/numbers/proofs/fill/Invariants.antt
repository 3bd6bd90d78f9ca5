-- The places passed hold x, the others what they held.
use Rattle.numbers.proofs.Over.{Filled}
use Rattle.numbers.proofs.fill.Given as goal

abbrev pub invariant-loop-place : goal.invariant-loop-place
invariant-loop-place g l = Filled l.x l.initial.list l.list l.place-index
