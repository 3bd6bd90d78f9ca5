-- The elements passed are the source's, the others as they were.
use Rattle.numbers.proofs.Over.{Over}
use Rattle.numbers.proofs.copy_front.Given as goal

abbrev pub invariant-loop-i : goal.invariant-loop-i
invariant-loop-i g l = Over l.from l.initial.to l.to l.i
