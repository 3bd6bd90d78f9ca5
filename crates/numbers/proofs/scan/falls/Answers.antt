-- A fall was found, or is found in what is left.
use native.Mathlib.Omega.{arith}
use Rattle.numbers.proofs.Passing.{falls_found, falls_passed, falls_end, went_hit, went_miss, went_end}
use Rattle.numbers.proofs.scan.falls.Goals as goal
use Rattle.numbers.proofs.scan.falls.Goals.{then-list-i, else-list-i}

pub loop-i-preserved : goal.loop-i-preserved
loop-i-preserved c =
    let a = c.args in
    let l = c.loop-i in
    elim c.if-list-i.branch [ then-list-i w ↦ (omega arith, went_hit _ _ l.found l.invariant.1 c.if-list-i.found _ w.found-is (falls_found a.list.now l.i l.invariant.0 (omega arith) w.if-list-i.true)) | else-list-i w ↦ (omega arith, went_miss _ _ l.found l.invariant.1 c.if-list-i.found _ w.found-is (falls_passed a.list.now l.i l.invariant.0 (omega arith) w.if-list-i.false)) ]

pub returns : goal.returns
returns c = let l = c.loop-i in went_end _ _ l.found l.invariant.1 (falls_end c.args.list.now l.i l.invariant.0 (omega arith))
