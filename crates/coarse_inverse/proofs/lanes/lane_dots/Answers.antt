use Rattle.std.proofs.Common.{◌≡◌, length, get_or, refl, arith}
use lib.Ieee.{nan}
use Rattle.coarse_inverse.proofs.Sides.{sums_none, sums_more}
use Rattle.coarse_inverse.proofs.lanes.lane_dots.Goals as goal

pub loop-k-init : goal.loop-k-init
loop-k-init c = sums_none 16 (λ k. get_or c.args.l.now k nan) 0 c.args.w.now 0 refl

pub loop-k-preserved : goal.loop-k-preserved
loop-k-preserved c =
    let a = c.args in
    let o = c.loop-k in
    sums_more 16 (λ k. get_or a.l.now k nan) 0 a.w.now o.k _ o.k o.sums _ _ (omega arith) refl (omega arith) o.invariant refl c.add_lanes.ensures

pub returns : goal.returns
returns c = let n : c.loop-k.k ≡ length c.args.l.now = omega arith in rw (← n) c.loop-k.invariant
