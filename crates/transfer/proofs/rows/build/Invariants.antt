-- When i rows are put, pointers, columns and weights are those of the rows before i.
use Prim.Native.Nat.{◌+◌, ◌≤◌}
use lib.ListN.{get_or}
use Rattle.definitions.specs.Transfer.{transfer_row}
use Rattle.csr32.specs.Seen.{square}
use Rattle.transfer.proofs.Storing.{Rowed}
use Rattle.transfer.proofs.rows.build.Given as goal

abbrev pub invariant-loop-i : goal.invariant-loop-i
invariant-loop-i l = (l.at ≤ l.i + get_or l.s.a.row_ptr.now l.i 0) × Rowed (transfer_row (square l.s.a) l.s.diagonal.now l.s.damping l.s.groups.size l.s.groups.ids.now l.s.groups.coarse) l.i l.at l.pointers l.columns l.weights
