-- The diagonal's place and the work list are long enough, and the estimate reads what the diagonal left.
use Rattle.two_level_setup.proofs.Damping.{diagonal_refused, damped}
use Rattle.csr32.specs.Seen.{lent}
use mathlib.Core.Path.{refl}
use Rattle.std.proofs.lemmas.Result.{err_from_is_err_and}
use Rattle.two_level_setup.proofs.basis.damping.Goals as goal

pub returns-in_err-diagonal : goal.returns-in_err-diagonal
returns-in_err-diagonal c =
    let a = c.args in
    let p = err_from_is_err_and c.from_residual.result c.from_residual.ensures.1 in
    rw (p.1, p.2) (diagonal_refused (lent a.a.now) a.used a.floats.now a.work.now c.requires _ c.in_err-diagonal.ensures.value _ _ _ refl)

pub returns : goal.returns
returns c =
    let a = c.args in
    let d = c.in_ok-diagonal.ensures in
    let e = c.estimate in
    damped (lent a.a.now) a.used a.floats.now a.work.now c.requires _ d.value refl c.diagonal.new.diagonal d.diagonal_after e.result e.ensures.0 e.new.work e.ensures.1
