-- An accepted call's matrix is made; a refusal leaves the list by its cause.
use lib.ListN.{length}
use Rattle.csr32.specs.Seen.{lent}
use Rattle.coarse_matrix.proofs.Causes.{told_refused, told_done, constant_call}
use Rattle.coarse_matrix.proofs.constant_coarse.Goals as goal

pub returns-in-Ok : goal.returns-in-Ok
returns-in-Ok c =
    let a = c.args in
    let k = c.in-Ok.ensures in
    let g = k.2 in
    told_done _ _ _ (constant_call (lent a.a.now) a.block_size a.ids.now a.groups (length a.coarse.now)) _ _ _ k.0 (rw (g.matrix, g.block, g.names, g.coarse) at c.constant_into.ensures)

pub returns-in-Err : goal.returns-in-Err
returns-in-Err c =
    let a = c.args in
    told_refused _ _ _ (constant_call (lent a.a.now) a.block_size a.ids.now a.groups (length a.coarse.now)) _ _ _ _ c.in-Err.ensures c.leave.ensures
