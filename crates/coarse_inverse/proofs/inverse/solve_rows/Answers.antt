use Rattle.std.proofs.Common.{◌≡◌, ◌+◌, ◌∙◌, refl, arith}
use Rattle.coarse_inverse.proofs.Rows.{solved_more}
use Rattle.coarse_inverse.proofs.inverse.solve_rows.Goals as goal

pub loop-r-preserved : goal.loop-r-preserved
loop-r-preserved c =
    let a = c.args in
    let o = c.loop-r in
    let q : a.i + (o.r + 1) ≡ a.i + o.r + 1 = omega arith in
    λ u e. rw q (solved_more a.factor.now.n a.factor.now.l.now u o.inverse c.copy_lane.new.row (a.i + o.r) _ _ refl refl (o.invariant u e) (c.copy_lane.ensures ∙ c.solve_units.ensures o.r (omega arith)))
