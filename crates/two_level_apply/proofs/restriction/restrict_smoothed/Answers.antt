-- The puts into zeros are the sums of what the rows put.
use Rattle.std.proofs.Common.{◌≡◌, length, arith}
use Rattle.definitions.specs.Matrix.{row_of}
use Rattle.two_level_apply.proofs.Restricting.{smoothed_law}
use Rattle.two_level_apply.proofs.restriction.restrict_smoothed.Goals as goal

pub returns : goal.returns
returns c =
    let a = c.args in
    let t = a.transfer.now in
    let o = c.loop-i in
    let e : o.i ≡ length a.r.now = omega arith in
    smoothed_law (row_of t.row_ptr.now t.col_idx.now t.values.now) a.r.now c.fill.new.self o.rhs (length a.rhs.now) (c.fill.ensures.after (λ y e. e)) (rw e at o.invariant)
