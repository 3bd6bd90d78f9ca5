use Prim.Native.Nat.{◌*◌}
use mathlib.Core.Path.{◌≡◌}
use Rattle.laws.specs.Packed.{ahead}
use Rattle.coarse_solve.proofs.solve.forward.Given as goal

abbrev pub invariant-loop-g : goal.invariant-loop-g
invariant-loop-g l = l.y ≡ ahead l.factor.l.now l.initial.y (8 * l.g)

abbrev pub invariant-loop-k : goal.invariant-loop-k
invariant-loop-k l = l.y ≡ ahead l.factor.l.now l.fn.y l.k
