-- A refusal of the matrix's structure, and what the checks leave.
use Rattle.std.proofs.lemmas.Result.{err_from_is_err_and}
use mathlib.Core.Path.{refl, sym, ap, ◌∙◌}
use native.Mathlib.Omega.{arith}
use lib.ListN.{length}
use Rattle.definitions.specs.Matrix.{csr}
use Rattle.csr32.specs.Seen.{lent}
use Rattle.csr32.specs.Calls.{refused_is, stops}
use Rattle.csr32.specs.Valid.{square_rows, structured_rows}
use Rattle.coarse_matrix.specs.Calls.{galerkin_checked}
use Rattle.coarse_matrix.proofs.Causes.{galerkin_passed, fits_rows}
use Rattle.coarse_matrix.proofs.checks.smoothed.Goals as goal

pub returns-in_err-structure : goal.returns-in_err-structure
unfolding galerkin_checked
returns-in_err-structure c =
    let p = err_from_is_err_and c.from_residual.result c.from_residual.ensures.1 in
    rw (p.1, p.2) (stops _ _ _ (refused_is _ _ (sym c.in_err-structure.ensures)))

pub transfer_fits-requires : goal.transfer_fits-requires
transfer_fits-requires c = (structured_rows (lent c.args.a.now) (sym c.in_ok-structure.ensures)).few_rows

pub invariant_of-a : goal.invariant_of-a
invariant_of-a c =
    let m = c.args.a.now in
    record { fits = square_rows m.rows m.cols m.row_ptr.now m.col_idx.now m.values.now (sym c.if-rows-cols.false) (structured_rows (lent m) (sym c.in_ok-structure.ensures)) }

pub invariant_of-transfer : goal.invariant_of-transfer
invariant_of-transfer c =
    let a = c.args in
    record { fits = fits_rows a.a.now.rows a.c a.transfer_ptr.now a.transfer_idx.now (length a.weights.now) (sym c.transfer_fits.ensures ∙ c.if-not-transfer_fits.false) }

pub returns : goal.returns
returns c =
    let a = c.args in
    let m = a.a.now in (
      galerkin_passed (lent m) a.c a.transfer_ptr.now a.transfer_idx.now (length a.weights.now) a.ints a.floats c.in_ok-structure.ensures c.if-rows-cols.false (omega arith) (omega arith) (omega arith) (sym c.transfer_fits.ensures ∙ c.if-not-transfer_fits.false),
      omega arith,
      omega arith,
      record { matrix = ap (λ n. csr m.rows n m.row_ptr.now m.col_idx.now m.values.now) c.if-rows-cols.false; cols = refl; weights = refl },
    )
