-- What the columns passed leave.
use Rattle.std.proofs.Common.{take}
use Rattle.transfer.specs.Weights.{Stored}
use Rattle.transfer.proofs.rows.store.Given as goal

abbrev pub invariant-loop-j : goal.invariant-loop-j
invariant-loop-j l = Stored (take l.j-index l.t) l.w l.at l.initial.columns l.columns l.initial.weights l.weights l.end
