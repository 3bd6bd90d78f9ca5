-- What was found, or is found in what is left.
use native.Mathlib.Omega.{arith}
use lib.Dec.{leb}
use borrow.Author.Tests.{le-leb, lt-leb}
use Rattle.numbers.proofs.Passing.{scan_hit, scan_miss, scan_end}
use Rattle.numbers.proofs.scan.reaches_narrow.Goals as goal
use Rattle.numbers.proofs.scan.reaches_narrow.Goals.{then-top-x, else-top-x}

pub loop-x-preserved : goal.loop-x-preserved
loop-x-preserved c =
    let a = c.args in
    let l = c.loop-x in
    elim c.if-top-x.branch [ then-top-x w ↦ scan_hit (leb a.top) a.list.now l.x-index l.found l.invariant 0 (omega arith) c.if-top-x.found w.found-is (le-leb _ _ w.if-top-x.true) | else-top-x w ↦ scan_miss (leb a.top) a.list.now l.x-index l.found l.invariant 0 (omega arith) c.if-top-x.found w.found-is (lt-leb _ _ w.if-top-x.false) ]

pub returns : goal.returns
returns c =
    let a = c.args in
    let l = c.loop-x in
    scan_end (leb a.top) a.list.now l.x-index l.found l.invariant (omega arith)
