-- Strip by strip, until the last ends at row c.
use native.Mathlib.Omega.{arith}
use Rattle.averaging.proofs.Laws.{strips_more}
use Rattle.averaging.proofs.average_rows.Goals as goal

pub loop-strip-preserved : goal.loop-strip-preserved
loop-strip-preserved c =
    let a = c.args in
    let l = c.loop-strip in
    strips_more a.c l.strip _ a.m.now l.m _ (omega arith) (omega arith) (omega arith) (λ i p q. omega arith) l.invariant c.average_strip.ensures
