use Prim.Native.Nat.{◌*◌}
use mathlib.Core.Path.{◌≡◌}
use Rattle.definitions.specs.Transfer.{coarse_column}
use Rattle.laws.specs.Scatter.{scattered}
use Rattle.two_level_apply.specs.Scatter.{restrict_puts}
use Rattle.two_level_apply.proofs.restriction.restrict_constant.Given as goal

abbrev pub invariant-loop-node : goal.invariant-loop-node
invariant-loop-node l = l.rhs ≡ scattered (restrict_puts (coarse_column l.size l.ids) l.r) (l.node * l.size) l.initial.rhs
