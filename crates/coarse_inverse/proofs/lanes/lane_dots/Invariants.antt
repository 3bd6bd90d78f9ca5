use mathlib.Core.Path.{◌≡◌}
use lib.ListN.{get_or}
use lib.Ieee.{nan}
use Rattle.coarse_inverse.specs.Lanes.{lane_sums}
use Rattle.coarse_inverse.proofs.lanes.lane_dots.Given as goal

abbrev pub invariant-loop-k : goal.invariant-loop-k
invariant-loop-k l = l.sums ≡ lane_sums 16 (λ k. get_or l.l k nan) 0 l.w l.k
