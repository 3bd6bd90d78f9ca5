-- The matrix's answer, or the shape's behind it.
use Rattle.std.proofs.Common.{refl}
use Rattle.std.proofs.lemmas.Result.{err_from_is_err_and}
use Rattle.csr32.specs.Seen.{lent}
use Rattle.two_level_grouping.proofs.Asking.{unread, then_shaped}
use Rattle.two_level_grouping.proofs.ask.Goals as goal

pub returns-in_err-readable : goal.returns-in_err-readable
returns-in_err-readable c =
    let x = c.args in
    let p = err_from_is_err_and c.from_residual.result c.from_residual.ensures.1 in
    rw (p.1, p.2) (unread (lent x.a.now) x.options _ c.in_err-readable.ensures _ refl)

pub returns : goal.returns
returns c =
    let x = c.args in
    then_shaped (lent x.a.now) x.options _ c.in_ok-readable.ensures refl c.shape.result c.shape.ensures
