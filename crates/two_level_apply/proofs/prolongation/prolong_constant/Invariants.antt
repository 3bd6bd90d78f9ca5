use Prim.Native.Nat.{◌*◌}
use mathlib.Core.Path.{◌≡◌}
use Rattle.definitions.specs.Transfer.{coarse_column}
use Rattle.laws.specs.Scatter.{scattered}
use Rattle.two_level_apply.specs.Scatter.{prolong_puts}
use Rattle.two_level_apply.proofs.prolongation.prolong_constant.Given as goal

abbrev pub invariant-loop-node : goal.invariant-loop-node
invariant-loop-node l = l.z ≡ scattered (prolong_puts (coarse_column l.size l.ids) l.sol) (l.node * l.size) l.initial.z
