-- An accepted call's rows are built; a refusal leaves the lists by its cause.
use Rattle.csr32.specs.Seen.{lent}
use Rattle.transfer.proofs.Calling.{call_stops, call_goes}
use Rattle.transfer.proofs.smoothed_transfer.Goals as goal

pub returns-in-Ok : goal.returns-in-Ok
returns-in-Ok c =
    let a = c.args in
    let k = c.in-Ok.ensures.1 in
    let m = c.assemble in
    call_goes (lent a.a.now) a.block_size a.ids.now a.groups a.diagonal.now a.damping a.ints.now a.floats.now m.result m.new.ints m.new.floats c.in-Ok.ensures.0
    (rw (k.matrix, k.block, k.names, k.coarse, k.diagonal, k.factor) at m.ensures)

pub returns-in-Err : goal.returns-in-Err
returns-in-Err c =
    let a = c.args in
    call_stops (lent a.a.now) a.block_size a.ids.now a.groups a.diagonal.now a.damping a.ints.now a.floats.now c.in-Err.cause c.leave.new.list c.leave-in-Err.new.list c.in-Err.ensures c.leave.ensures c.leave-in-Err.ensures
