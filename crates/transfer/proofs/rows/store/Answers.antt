-- A column whose weight is not zero is one more, any other changes nothing.
use native.Mathlib.Omega.{arith}
use Rattle.transfer.proofs.Storing.{stored_none, stored_hit, stored_miss, stored_room}
use Rattle.transfer.proofs.rows.store.Goals as goal
use Rattle.transfer.proofs.rows.store.Goals.{then-weight, else-weight}

pub loop-j-init : goal.loop-j-init
loop-j-init c = let a = c.args in stored_none a.w.now a.at a.columns.now a.weights.now a.t.now

pub bounds-columns-end : goal.bounds-columns-end
bounds-columns-end c =
    let a = c.args in
    let l = c.loop-j in
    omega (arith, c.requires.room.0, stored_room a.w.now a.at a.columns.now a.weights.now a.t.now l.j-index c.loop-j-test.true l.columns l.weights l.end l.invariant c.if-weight.true)

pub bounds-weights-end : goal.bounds-weights-end
bounds-weights-end c =
    let a = c.args in
    let l = c.loop-j in
    omega (arith, c.requires.room.1, stored_room a.w.now a.at a.columns.now a.weights.now a.t.now l.j-index c.loop-j-test.true l.columns l.weights l.end l.invariant c.if-weight.true)

pub loop-j-preserved : goal.loop-j-preserved
loop-j-preserved c =
    let a = c.args in
    let l = c.loop-j in
    let h = c.loop-j-test.true in
    elim c.if-weight.branch [
      | then-weight w ↦
          let r = stored_room a.w.now a.at a.columns.now a.weights.now a.t.now l.j-index h l.columns l.weights l.end l.invariant w.if-weight.true in
          rw (w.columns-is, w.weights-is, w.end-is) (stored_hit a.w.now a.at a.columns.now a.weights.now a.t.now l.j-index h l.columns l.weights l.end l.invariant w.if-weight.true (omega (arith, r, c.requires.room.0)) (omega (arith, r, c.requires.room.1)))
      | else-weight w ↦ rw (w.columns-is, w.weights-is, w.end-is) (stored_miss a.w.now a.at a.columns.now a.weights.now a.t.now l.j-index h l.columns l.weights l.end l.invariant w.if-weight.false)
    ]
