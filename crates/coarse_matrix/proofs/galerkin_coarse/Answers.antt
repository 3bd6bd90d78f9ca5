-- An accepted call's matrix is made; a refusal leaves the lists by its cause.
use lib.ListN.{length}
use Rattle.csr32.specs.Seen.{lent}
use Rattle.coarse_matrix.proofs.Causes.{told_refused, told_done, work_refused, work_done, galerkin_call}
use Rattle.coarse_matrix.proofs.galerkin_coarse.Goals as goal

pub returns-in-Ok : goal.returns-in-Ok
returns-in-Ok c =
    let a = c.args in
    let e = galerkin_call (lent a.a.now) a.c a.transfer_ptr.now a.transfer_idx.now a.weights.now (length a.ints.now) (length a.floats.now) in
    let k = c.in-Ok.ensures in
    let g = c.galerkin_into.ensures in
    let t = told_done _ _ _ e _ _ _ k.0 (rw (k.3.matrix, k.3.cols, k.3.weights) at g.1) in
    (t.0, work_done _ _ _ e 0 _ _ k.0 g.0, t.1)

pub returns-in-Err : goal.returns-in-Err
returns-in-Err c =
    let a = c.args in
    let e = galerkin_call (lent a.a.now) a.c a.transfer_ptr.now a.transfer_idx.now a.weights.now (length a.ints.now) (length a.floats.now) in
    let t = told_refused _ _ _ e _ _ _ _ c.in-Err.ensures c.leave-in-Err.ensures in
    (t.0, work_refused _ _ _ e 0 _ _ _ c.in-Err.ensures c.leave.ensures, t.1)
