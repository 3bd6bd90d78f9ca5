-- The nodes that are left ask, of the numbers that are left, what all ask of all.
use Rattle.std.proofs.Common.{◌≡◌, ◌≤◌, length}
use Rattle.grouping_text.proofs.lists.Nodes.{Goes}
use Rattle.grouping_text.proofs.lists.nodes_of.Given as goal

abbrev pub invariant-loop-i : goal.invariant-loop-i
invariant-loop-i l = record {
  few : l.got.count ≤ 2048;
  same : length l.neighbours ≡ length l.initial.neighbours;
  goes : Goes l.numbers l.nodes l.offsets l.neighbours l.got.rest.now l.i l.got.count;
}
