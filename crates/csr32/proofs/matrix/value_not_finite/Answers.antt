-- A value that is not finite was found, or is found in what is left.
use mathlib.Core.Path.{sym, ap, ◌∙◌}
use mathlib.Core.Bool.{not}
use native.Mathlib.Omega.{arith}
use lib.Ieee.{nan}
use lib.Ieee.Scale.{finite}
use Rattle.numbers.proofs.Passing.{scan_hit, scan_miss, scan_end}
use Rattle.csr32.proofs.matrix.value_not_finite.Goals as goal
use Rattle.csr32.proofs.matrix.value_not_finite.Goals.{then-not-finite, else-not-finite}

pub loop-x-preserved : goal.loop-x-preserved
loop-x-preserved c =
    let a = c.args in
    let l = c.loop-x in
    elim c.if-not-finite.branch [
      | then-not-finite w ↦ scan_hit (λ v. not (finite v)) a.values.now l.x-index l.found l.invariant nan (omega arith) c.if-not-finite.found w.found-is (ap not (sym c.finite.ensures ∙ w.if-not-finite.true))
      | else-not-finite w ↦ scan_miss (λ v. not (finite v)) a.values.now l.x-index l.found l.invariant nan (omega arith) c.if-not-finite.found w.found-is (ap not (sym c.finite.ensures ∙ w.if-not-finite.false))
    ]

pub returns : goal.returns
returns c = let l = c.loop-x in scan_end (λ v. not (finite v)) c.args.values.now l.x-index l.found l.invariant (omega arith)
