-- What the entries passed put.
use mathlib.Core.Path.{◌≡◌}
use Prim.Native.Nat.{◌+◌}
use Rattle.definitions.specs.Transfer.{coarse_column}
use Rattle.laws.specs.Scatter.{scatter}
use Rattle.coarse_matrix.specs.Scatter.{moved}
use Rattle.coarse_matrix.proofs.Passing.{passed}
use Rattle.coarse_matrix.proofs.constant.add_entries.Given as goal

abbrev pub invariant-loop-column : goal.invariant-loop-column
invariant-loop-column l = l.coarse ≡ scatter (moved (λ k. l.base + coarse_column l.m.groups.size l.m.groups.ids.now k) (passed l.yielded)) l.initial.coarse
