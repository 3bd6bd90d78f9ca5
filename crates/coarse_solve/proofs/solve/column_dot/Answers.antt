use Rattle.std.proofs.Common.{◌≡◌, ◌+◌, arith}
use Rattle.laws.proofs.Packed.{next_at}
use Rattle.laws.proofs.KeptColumn.{kept_none, kept_more}
use Rattle.coarse_solve.proofs.Solving.{col_none, col_step}
use Rattle.coarse_solve.proofs.solve.column_dot.Goals as goal

pub loop-j-init : goal.loop-j-init
loop-j-init c =
    let a = c.args in
    record {
      place = let z : a.i + 2 ≡ a.i + 1 + 1 = omega arith in rw z;
      partial = col_none a.factor.now.l.now a.y.now a.i;
      kept_before = kept_none a.factor.now.l.now a.kept.now a.i;
    }

pub loop-j-preserved : goal.loop-j-preserved
loop-j-preserved c =
    let a = c.args in
    let o = c.loop-j in
    let l = a.factor.now.l.now in
    let v = o.invariant in
    record {
      place = next_at o.at a.i o.j v.place;
      partial = col_step l a.y.now a.i o.j o.at o.sum (omega arith) v.place v.partial;
      kept_before = kept_more l a.kept.now o.kept a.i o.j o.at (omega arith) v.place v.kept_before;
    }
