-- The rows before r are in.
use mathlib.Core.Path.{◌≡◌}
use Rattle.definitions.specs.Matrix.{entries_of}
use Rattle.definitions.specs.Transfer.{coarse_column}
use Rattle.csr32.specs.Seen.{square}
use Rattle.laws.specs.Scatter.{scattered}
use Rattle.coarse_matrix.specs.Scatter.{row_puts}
use Rattle.coarse_matrix.proofs.constant.add_matrix.Given as goal

abbrev pub invariant-loop-r : goal.invariant-loop-r
invariant-loop-r l = l.coarse ≡ scattered (row_puts (coarse_column l.m.groups.size l.m.groups.ids.now) l.m.groups.coarse (entries_of (square l.m.a))) l.r l.initial.coarse
