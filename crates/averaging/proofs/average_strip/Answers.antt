-- Column by column: each column's pairs of the strip begin at the strip's first row, or just below the diagonal.
use native.Mathlib.Omega.{arith}
use Rattle.averaging.proofs.Laws.{strip_more}
use Rattle.averaging.proofs.average_strip.Goals as goal

pub loop-j-preserved : goal.loop-j-preserved
loop-j-preserved c =
    let a = c.args in
    let l = c.loop-j in
    strip_more a.c a.first a.end l.j _ a.m.now l.m _ (omega arith) (λ x p q. omega arith) l.invariant c.average_column.ensures
