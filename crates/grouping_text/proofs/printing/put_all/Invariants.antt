-- The bytes before the loop's are in place.
use Rattle.std.proofs.Common.{◌≤◌, length, take}
use Rattle.grouping_text.specs.Puts.{Puts}
use Rattle.grouping_text.proofs.printing.put_all.Given as goal

abbrev pub invariant-loop-b : goal.invariant-loop-b
invariant-loop-b l = record {
  within : l.end ≤ length l.out;
  puts : Puts l.initial.out l.at (take l.b-index l.bytes) l.out l.end;
}
