use Rattle.std.proofs.Common.{arith}
use Rattle.std.proofs.lemmas.List.Elements.{same_from_all_zip}
use Rattle.coarse_inverse.proofs.Sides.{units_none, units_more}
use Rattle.coarse_inverse.proofs.lanes.set_units.Goals as goal

pub loop-r-init : goal.loop-r-init
loop-r-init c = units_none 16 _ c.args.i _ (c.fill.ensures.after (λ y e. same_from_all_zip _ _ y e.whole (λ a b q. q)))

pub loop-r-preserved : goal.loop-r-preserved
loop-r-preserved c = units_more 16 _ c.args.i c.loop-r.w c.loop-r.r (omega arith) (omega arith) c.loop-r.invariant
