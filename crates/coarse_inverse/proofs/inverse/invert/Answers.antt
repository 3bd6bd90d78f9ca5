use Rattle.std.proofs.Common.{◌≡◌, ◌+◌, ◌*◌, ◌∙◌, ◌++◌, drop, arith, min}
use Rattle.coarse_inverse.specs.Rows.{solved_rows}
use Rattle.coarse_inverse.proofs.Rows.{solved_none, invert_law}
use Rattle.coarse_inverse.proofs.inverse.invert.Goals as goal
use Rattle.coarse_inverse.proofs.inverse.invert.Goals.{else-loop-i-test, then-loop-i-test+else-c-i-gt16}

pub loop-i-init : goal.loop-i-init
loop-i-init c = solved_none c.args.c c.args.lower.now c.args.inverse.now _ (omega arith)

pub returns : goal.returns
returns c =
    let a = c.args in
    let o = c.loop-i in
    let t = c.loop-i-test in
    let e : t.inverse ≡ solved_rows a.c a.lower.now a.c ++ drop (a.c * a.c) a.inverse.now = elim t.branch [
      | else-loop-i-test w ↦ let m : min o.i a.c ≡ a.c = omega arith in w.inverse-is ∙ rw m at o.invariant
      | then-loop-i-test+else-c-i-gt16 w ↦ let m : min o.i a.c ≡ o.i = omega arith in
          let q : o.i + w.min.result ≡ a.c = omega arith in
          w.inverse-is ∙ rw q at (w.solve_rows.ensures a.inverse.now (rw m at o.invariant))
    ] in
    invert_law a.c a.lower.now a.inverse.now t.inverse c.average.new.m c.requires.2 c.requires.1 e c.average.ensures.1
