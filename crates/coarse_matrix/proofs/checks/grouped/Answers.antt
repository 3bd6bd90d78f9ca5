-- A refusal of the matrix's structure, and what the checks leave.
use Rattle.std.proofs.lemmas.Result.{err_from_is_err_and}
use mathlib.Core.Path.{refl, sym, ap, ◌∙◌}
use native.Mathlib.Omega.{arith}
use borrow.Author.Tests.{le-leb}
use Rattle.definitions.specs.Matrix.{csr, max_rows}
use Rattle.csr32.specs.Seen.{lent}
use Rattle.csr32.specs.Calls.{refused_is, stops}
use Rattle.csr32.specs.Valid.{square_rows, structured_rows}
use Rattle.coarse_matrix.specs.Calls.{constant_checked}
use Rattle.coarse_matrix.proofs.Causes.{require_then, constant_passed, grouped_of}
use Rattle.coarse_matrix.proofs.checks.grouped.Goals as goal

pub returns-in_err-structure : goal.returns-in_err-structure
unfolding constant_checked
returns-in_err-structure c =
    let p = err_from_is_err_and c.from_residual.result c.from_residual.ensures.1 in
    rw (p.1, p.2, require_then, le-leb c.args.groups max_rows (omega arith)) (stops _ _ _ (refused_is _ _ (sym c.in_err-structure.ensures)))

pub invariant_of-a : goal.invariant_of-a
invariant_of-a c =
    let m = c.args.a.now in
    record { fits = square_rows m.rows m.cols m.row_ptr.now m.col_idx.now m.values.now (sym c.if-rows-cols.false) (structured_rows (lent m) (sym c.in_ok-structure.ensures)) }

pub invariant_of-groups : goal.invariant_of-groups
invariant_of-groups c =
    let a = c.args in
    record { grouped = grouped_of a.a.now.rows a.size a.ids.now a.groups (omega arith) c.if-rows-size-ne0.false (omega arith) c.if-ids-rows.false (sym c.reaches.ensures ∙ c.if-reaches.false) }

pub returns : goal.returns
returns c =
    let a = c.args in
    let m = a.a.now in
    (constant_passed (lent m) a.size a.ids.now a.groups a.room (omega arith) c.in_ok-structure.ensures c.if-rows-cols.false (omega arith) (omega arith) c.if-rows-size-ne0.false (omega arith) (omega arith) c.if-ids-rows.false (sym c.reaches.ensures ∙ c.if-reaches.false), omega arith, record { matrix = ap (λ n. csr m.rows n m.row_ptr.now m.col_idx.now m.values.now) c.if-rows-cols.false; block = refl; names = refl; coarse = refl })
