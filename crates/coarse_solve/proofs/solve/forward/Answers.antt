use Rattle.std.proofs.Common.{get_or, arith, ap, length-take-le}
use lib.Ieee.{nan}
use Rattle.definitions.specs.Numbers.{◌-ᶠ◌, ◌/ᶠ◌}
use Rattle.laws.proofs.Packed.{forward_step}
use Rattle.coarse_solve.proofs.Solving.{ahead_inside, row_dot, ahead_none}
use Rattle.coarse_solve.proofs.solve.forward.Goals as goal

pub loop-g-init : goal.loop-g-init
loop-g-init c = ahead_none c.args.factor.now.l.now c.args.y.now _ (omega arith)

pub loop-k-preserved : goal.loop-k-preserved
loop-k-preserved c =
    let a = c.args in
    let o = c.loop-k in
    let l = a.factor.now.l.now in
    let s = row_dot l o.y c.row-row.result.now o.k _ c.dot-sum.result (c.row-row.ensures.entries (omega arith)) (length-take-le o.k o.y (omega arith)) c.dot-sum.ensures in
    forward_step l a.y.now o.y o.k (ahead_inside l a.y.now o.y o.k (omega arith) o.invariant) o.invariant c.dot-sum.result _ s
    (ap (λ d. (get_or o.y o.k nan -ᶠ c.dot-sum.result) /ᶠ d) (c.row-row.ensures.entries (omega arith) o.k (omega arith)))
