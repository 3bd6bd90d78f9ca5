-- Row by row one pair more, apart from those before it.
use native.Mathlib.Omega.{arith}
use Rattle.averaging.proofs.Laws.{column_more}
use Rattle.averaging.proofs.average_column.Goals as goal

pub loop-i-preserved : goal.loop-i-preserved
loop-i-preserved c =
    let a = c.args in
    let l = c.loop-i in
    column_more a.c a.j a.from l.i a.m.now l.m c.average_pair.new.m (omega arith) (omega arith) (omega arith) c.requires.3 l.invariant c.average_pair.ensures
