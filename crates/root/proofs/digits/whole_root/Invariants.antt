-- The first loop ends at an s whose successor's square is above a, the second at the last such s whose own square is not.
use Prim.Native.Nat.{◌+◌, ◌-◌, ◌*◌, ◌^◌, ◌<◌}
use Rattle.root.proofs.digits.whole_root.Given as goal

abbrev pub invariant-loop-s : goal.invariant-loop-s
invariant-loop-s l = l.s < 2 ^ 30

abbrev pub decreases-loop-s : goal.decreases-loop-s
decreases-loop-s l = 2 ^ 30 - l.s

abbrev pub invariant-loop-s-2 : goal.invariant-loop-s-2
invariant-loop-s-2 l = (l.s < 2 ^ 30) × (l.a < (l.s + 1) * (l.s + 1))

abbrev pub decreases-loop-s-2 : goal.decreases-loop-s-2
decreases-loop-s-2 l = l.s
