use mathlib.Core.Path.{◌≡◌}
use Rattle.definitions.specs.Matrix.{row_of}
use Rattle.laws.specs.Scatter.{scattered}
use Rattle.two_level_apply.specs.Scatter.{scaled_puts}
use Rattle.two_level_apply.proofs.restriction.restrict_smoothed.Given as goal

abbrev pub invariant-loop-i : goal.invariant-loop-i
invariant-loop-i l = let t = l.transfer in l.rhs ≡ scattered (scaled_puts (row_of t.row_ptr.now t.col_idx.now t.values.now) l.r) l.i l.initial.rhs
