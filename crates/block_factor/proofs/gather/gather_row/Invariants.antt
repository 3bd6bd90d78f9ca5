-- Each place of the row holds the sum of what the entries passed store at its column.
use Prim.Native.Nat.{◌+◌}
use mathlib.Core.Path.{◌≡◌}
use lib.ListN.{length}
use Rattle.definitions.specs.Lists.{tab}
use Rattle.csr32.specs.Parts.{part}
use Rattle.block_factor.proofs.Gathering.{sum_at}
use Rattle.block_factor.proofs.gather.gather_row.Given as goal

abbrev pub invariant-loop-column : goal.invariant-loop-column
invariant-loop-column l =
    let i = l.first + l.i in
    let a = l.a in
    l.row ≡ tab (sum_at (part a.row_ptr.now i a.col_idx.now) (part a.row_ptr.now i a.values.now) (length l.yielded) l.first) (length l.initial.row)
