use Rattle.std.proofs.Common.{◌≡◌, ◌+◌, ◌-◌, length, arith, length-set, length-take-le, length-drop, take, drop}
use Rattle.definitions.specs.Coarse.{packed_entry}
use Rattle.coarse_inverse.proofs.Sides.{ahead_more, sums_part}
use Rattle.coarse_inverse.proofs.lanes.forward_lanes.Goals as goal

pub loop-i-preserved : goal.loop-i-preserved
loop-i-preserved c =
    let a = c.args in
    let o = c.loop-i in
    let l = a.factor.now.l.now in
    let row = c.row-row in
    let n = o.i - a.first in
    let u : length (take n (drop a.first row.result.now)) ≡ n = length-take-le n (drop a.first row.result.now) (omega (arith, length-drop a.first row.result.now, row.ensures.long)) in
    let s = sums_part 16 (λ k. packed_entry l o.i (a.first + k)) a.first o.w row.result.now c.lane_dots-sums.result _ _ n _ u (omega arith) (omega arith) (λ k b. row.ensures.entries (omega arith) (a.first + k) (omega arith)) c.lane_dots-sums.ensures in
    record {
      long = simp length-set o.invariant.long;
      solved = ahead_more 16 l a.factor.now.n a.first a.w.now c.requires.1 c.requires.2 o.w o.i c.put_lanes.new.row c.lane_dots-sums.result _ (omega arith) (omega arith) (omega arith) o.invariant.solved s
          (row.ensures.entries (omega arith) o.i (omega arith)) c.put_lanes.ensures;
    }
