use Rattle.std.proofs.Common.{arith}
use Rattle.coarse_inverse.specs.Lanes.{Units}
use Rattle.coarse_inverse.proofs.Sides.{units_solved}
use Rattle.coarse_inverse.proofs.Starting.{units_start}
use Rattle.coarse_inverse.proofs.lanes.solve_units.Goals as goal

pub forward_lanes-requires : goal.forward_lanes-requires
forward_lanes-requires c =
    let a = c.args in
    let p = c.requires in
    let u : Units 16 a.factor.now.n a.i a.n c.set_units.new.w = rw p.2 at c.set_units.ensures in
    (omega arith, u.long, units_start 16 a.factor.now.n a.i a.n a.factor.now.l.now c.set_units.new.w a.first (omega arith) a.factor.now.whole (omega arith) p.4 u)

pub returns : goal.returns
returns c =
    let a = c.args in
    let u : Units 16 a.factor.now.n a.i a.n c.set_units.new.w = rw c.requires.2 at c.set_units.ensures in
    units_solved 16 a.factor.now.n a.factor.now.l.now a.i a.n c.set_units.new.w c.forward_lanes.new.w c.backward_lanes.new.w (omega arith) u c.forward_lanes.ensures c.backward_lanes.ensures
