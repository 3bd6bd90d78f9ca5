-- Each return is one of the call's checks; the work list is cleared after the last of them.
use mathlib.Core.Path.{◌≡◌, ap, ◌∙◌}
use Prim.Native.Nat.{◌*◌, ◌<◌, ◌≤◌}
use lib.ListN.{length}
use native.Mathlib.Omega.{arith}
use Rattle.std.proofs.lemmas.Result.{err_from_is_err_and}
use Rattle.definitions.specs.Answers.{estimate_answer}
use Rattle.definitions.specs.Estimate.{estimate_of}
use Rattle.csr32.specs.Seen.{lent}
use Rattle.spectral_radius.proofs.Checks.{stopped, misfit, short, ran}
use Rattle.spectral_radius.proofs.estimate.Goals as goal

pub returns-in_err-a : goal.returns-in_err-a
returns-in_err-a c =
    let x = c.args in
    let p = err_from_is_err_and c.from_residual.result c.from_residual.ensures.1 in
    rw (p.1, p.2) (stopped (lent x.a.now) x.diagonal.now x.work.now _ c.in_err-a.ensures)

pub returns-then-diagonal-a : goal.returns-then-diagonal-a
returns-then-diagonal-a c =
    let x = c.args in
    let e = c.in_ok-a.ensures in
    let rows : c.in_ok-a.a.rows ≡ x.a.now.rows = ap (λ m. m.rows) e.1 in
    rw rows (misfit (lent x.a.now) x.diagonal.now x.work.now e.0 (rw rows at c.if-diagonal-a.true))

pub returns-then-work-a : goal.returns-then-work-a
returns-then-work-a c =
    let x = c.args in
    let e = c.in_ok-a.ensures in
    let rows : c.in_ok-a.a.rows ≡ x.a.now.rows = ap (λ m. m.rows) e.1 in
    let fits : length x.diagonal.now ≡ x.a.now.rows = omega arith in
    let room : length x.work.now < 3 * x.a.now.rows = omega arith in
    short (lent x.a.now) x.diagonal.now x.work.now e.0 fits room

pub returns : goal.returns
returns c =
    let x = c.args in
    let e = c.in_ok-a.ensures in
    let r = c.run-answer in
    let rows : c.in_ok-a.a.rows ≡ x.a.now.rows = ap (λ m. m.rows) e.1 in
    let fits : length x.diagonal.now ≡ x.a.now.rows = omega arith in
    let room : 3 * x.a.now.rows ≤ length x.work.now = omega arith in
    ran (lent x.a.now) x.diagonal.now x.work.now e.0 fits r.result _ room (r.ensures ∙ ap (λ m. estimate_answer (estimate_of m x.diagonal.now)) e.1) (rw r.auto.work at (c.fill.ensures.after (λ y h. h)))
