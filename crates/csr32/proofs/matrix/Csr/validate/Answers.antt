-- The causes that look at no value, and then the values.
use Rattle.std.proofs.lemmas.Result.{err_from_is_err_and}
use mathlib.Core.Path.{refl}
use Rattle.csr32.specs.Seen.{lent}
use Rattle.csr32.proofs.Causes.{structure_fails, values_fail, values_pass}
use Rattle.csr32.proofs.matrix.Csr.validate.Goals as goal

pub returns-in_err-structure : goal.returns-in_err-structure
returns-in_err-structure c =
    let p = err_from_is_err_and c.from_residual.result c.from_residual.ensures.1 in
    rw (p.1, p.2) (structure_fails (lent c.args.self.now) _ c.in_err-structure.ensures _ refl)

pub returns-then-value_not_finite : goal.returns-then-value_not_finite
returns-then-value_not_finite c =
    let v = c.value_not_finite in
    values_fail (lent c.args.self.now) _ c.in_ok-structure.ensures refl v.result v.ensures c.if-value_not_finite.true

pub returns : goal.returns
returns c =
    let v = c.value_not_finite in
    values_pass (lent c.args.self.now) _ c.in_ok-structure.ensures refl v.result v.ensures c.if-value_not_finite.false
