-- The lines before the loop's are in place.
use Rattle.std.proofs.Common.{◌≤◌, length, take}
use Rattle.grouping_text.specs.Puts.{Puts, lines_from}
use Rattle.grouping_text.proofs.printing.put_ids.Given as goal

abbrev pub invariant-loop-v : goal.invariant-loop-v
invariant-loop-v l = record {
  within : l.end ≤ length l.out;
  puts : Puts l.initial.out l.at (lines_from 0 (take l.v l.ids)) l.out l.end;
}
