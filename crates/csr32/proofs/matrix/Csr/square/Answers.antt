-- The causes 1 to 8, and then the shape.
use mathlib.Core.Path.{ap, sym}
use Rattle.std.proofs.lemmas.Result.{err_from_is_err_and}
use Rattle.definitions.specs.Matrix.{csr}
use Rattle.csr32.specs.Seen.{lent}
use Rattle.csr32.proofs.Squares.{stopped, oblong, accepted, fitting}
use Rattle.csr32.proofs.matrix.Csr.square.Goals as goal

pub returns-in_err-validate : goal.returns-in_err-validate
returns-in_err-validate c =
    let p = err_from_is_err_and c.from_residual.result c.from_residual.ensures.1 in
    rw (p.1, p.2) (stopped (lent c.args.self.now) _ c.in_err-validate.ensures)

pub returns-then-cols-rows : goal.returns-then-cols-rows
returns-then-cols-rows c = oblong (lent c.args.self.now) c.in_ok-validate.ensures c.if-cols-rows.true

pub invariant_of-result : goal.invariant_of-result
invariant_of-result c = record { fits = fitting (lent c.args.self.now) c.in_ok-validate.ensures c.if-cols-rows.false }

pub returns : goal.returns
returns c =
    let a = c.args.self.now in
    (accepted (lent a) c.in_ok-validate.ensures c.if-cols-rows.false, sym (ap (λ n. csr a.rows n a.row_ptr.now a.col_idx.now a.values.now) c.if-cols-rows.false))
