-- Validate's answer, or the shape's behind it.
use Rattle.std.proofs.Common.{refl}
use Rattle.std.proofs.lemmas.Result.{err_from_is_err_and}
use Rattle.csr32.specs.Seen.{lent}
use Rattle.two_level_grouping.proofs.Fronts.{invalid, shaped}
use Rattle.two_level_grouping.proofs.front.Goals as goal

pub returns-in_err-validate : goal.returns-in_err-validate
returns-in_err-validate c =
    let x = c.args in
    let p = err_from_is_err_and c.from_residual.result c.from_residual.ensures.1 in
    rw (p.1, p.2) (invalid (lent x.a.now) x.options _ c.in_err-validate.ensures _ refl)

pub returns : goal.returns
returns c =
    let x = c.args in
    shaped (lent x.a.now) x.options _ c.in_ok-validate.ensures refl c.shape.result c.shape.ensures
