-- What is left of the diagonal decides: each row that passes leaves the rest, and the first that does not is the answer.
use mathlib.Core.Path.{sym, ap, ◌∙◌}
use native.Mathlib.Omega.{arith}
use Rattle.definitions.specs.Answers.{answer_of}
use Rattle.spectral_radius.proofs.Scaling.{row_zero, row_negative, row_passes, rows_done}
use Rattle.spectral_radius.proofs.diagonal.check.Goals as goal

pub returns-then-not-usable : goal.returns-then-not-usable
unfolding answer_of
returns-then-not-usable c =
    let d = c.args.d.now in
    let l = c.loop-i in
    ap answer_of (sym (row_zero d l.i (omega arith) (sym c.usable.ensures ∙ c.if-not-usable.true)) ∙ l.invariant)

pub returns-then-v : goal.returns-then-v
unfolding answer_of
returns-then-v c =
    let d = c.args.d.now in
    let l = c.loop-i in
    ap answer_of (sym (row_negative d l.i (omega arith) (sym c.usable.ensures ∙ c.if-not-usable.false) c.if-v.true) ∙ l.invariant)

pub loop-i-preserved : goal.loop-i-preserved
loop-i-preserved c =
    let d = c.args.d.now in
    let l = c.loop-i in
    row_passes d l.i (omega arith) (sym c.usable.ensures ∙ c.if-not-usable.false) c.if-v.false ∙ l.invariant

pub returns : goal.returns
unfolding answer_of
returns c =
    let d = c.args.d.now in
    let l = c.loop-i in
    ap answer_of (sym (rows_done d l.i (omega arith)) ∙ l.invariant)
