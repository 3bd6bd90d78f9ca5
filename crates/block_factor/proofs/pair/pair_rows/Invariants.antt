-- Row by row for both blocks: the rows left to do give, from the rows there, what all give.
use mathlib.Core.Path.{◌≡◌}
use Rattle.block_factor.proofs.Steps.{RowsLeft}
use Rattle.block_factor.proofs.pair.pair_rows.Given as goal

abbrev pub invariant-loop-i : goal.invariant-loop-i
invariant-loop-i l = record {
  one_sized : l.l.size ≡ l.a.size;
  two_sized : l.m.size ≡ l.b.size;
  one : RowsLeft l.a.size l.a.a l.s l.i l.l.a;
  two : RowsLeft l.b.size l.b.a l.t l.i l.m.a;
}
