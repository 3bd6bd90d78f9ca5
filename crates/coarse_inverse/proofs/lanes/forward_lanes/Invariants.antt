use mathlib.Core.Path.{◌≡◌}
use lib.ListN.{length}
use Rattle.laws.specs.Packed.{ahead}
use Rattle.coarse_inverse.specs.Lanes.{EachLane}
use Rattle.coarse_inverse.proofs.lanes.forward_lanes.Given as goal

abbrev pub invariant-loop-i : goal.invariant-loop-i
invariant-loop-i l = record { long : length l.w ≡ length l.initial.w; solved : EachLane 16 (λ b. ahead l.factor.l.now b l.i) l.initial.w l.w }
