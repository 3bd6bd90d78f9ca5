-- The entries passed are the definition's.
use mathlib.Core.Path.{◌≡◌}
use Rattle.definitions.specs.Factor.{below_diagonal}
use Rattle.definitions.specs.Block.{in_block}
use Rattle.block_factor.specs.Dense.{dense_entry}
use Rattle.block_factor.proofs.cholesky.fill_row.Given as goal

abbrev pub invariant-loop-j : goal.invariant-loop-j
invariant-loop-j l = record {
  sized : l.l.size ≡ l.a.size;
  passed : l.l.a ≡ below_diagonal (in_block l.a.size) (dense_entry l.a.size l.a.a) l.i l.j l.initial.l.a;
}
