-- The checks leave the facts that the rows are built with.
use Rattle.std.proofs.lemmas.Result.{err_from_is_err_and}
use mathlib.Core.Path.{refl, sym, ap}
use native.Mathlib.Omega.{arith}
use lib.ListN.{length}
use Rattle.definitions.specs.Matrix.{csr}
use Rattle.csr32.specs.Calls.{accepted_done, refused_is}
use Rattle.csr32.specs.Seen.{lent}
use Rattle.transfer.proofs.Calling.{taken_apart}
use Rattle.transfer.proofs.accepted.Goals as goal

pub returns-in_err-check : goal.returns-in_err-check
returns-in_err-check c =
    let p = err_from_is_err_and c.from_residual.result c.from_residual.ensures.1 in
    rw (p.1, p.2) (refused_is _ _ (sym c.in_err-check.ensures))

pub overflow_mul-groups : goal.overflow_mul-groups
overflow_mul-groups c =
    let a = c.args in
    omega (arith, (taken_apart (lent a.a.now) a.size a.ids.now a.groups (length a.diagonal.now) a.ints a.floats (sym c.in_ok-check.ensures)).2.0)

pub invariant_of-a : goal.invariant_of-a
invariant_of-a c =
    let a = c.args in
    let k = taken_apart (lent a.a.now) a.size a.ids.now a.groups (length a.diagonal.now) a.ints a.floats (sym c.in_ok-check.ensures) in
    record { fits = rw k.1.0 at k.0 }

pub invariant_of-groups : goal.invariant_of-groups
invariant_of-groups c =
    let a = c.args in
    let k = taken_apart (lent a.a.now) a.size a.ids.now a.groups (length a.diagonal.now) a.ints a.floats (sym c.in_ok-check.ensures) in
    record { grouped = k.2.1 }

pub invariant_of-result : goal.invariant_of-result
invariant_of-result c =
    let a = c.args in
    let k = taken_apart (lent a.a.now) a.size a.ids.now a.groups (length a.diagonal.now) a.ints a.floats (sym c.in_ok-check.ensures) in
    record { same_rows = refl; each_row = k.1.4 }

pub returns : goal.returns
returns c =
    let a = c.args in
    let m = a.a.now in
    let k = taken_apart (lent m) a.size a.ids.now a.groups (length a.diagonal.now) a.ints a.floats (sym c.in_ok-check.ensures) in (
      accepted_done _ (sym c.in_ok-check.ensures),
      record {
        matrix = sym (ap (λ n. csr m.rows n m.row_ptr.now m.col_idx.now m.values.now) k.1.0);
        block = refl;
        names = refl;
        coarse = refl;
        diagonal = refl;
        factor = refl;
        ints_room = omega (arith, k.3.0);
        floats_room = omega (arith, k.3.1);
      },
    )
