-- What is read stands in the front of its room; what the call yields is handed out; the rooms are cleared.
use mathlib.Core.Path.{sym, ◌∙◌}
use Rattle.definitions.specs.Setup.{lent_of}
use Rattle.yelomawin_bytes.proofs.Carried.{setup_carried}
use Rattle.yelomawin_bytes.proofs.Handing.{matrix_emptied, setup_told, answer_told}
use Rattle.yelomawin_bytes.proofs.yelomawin_bytes_setup.Goals as goal

pub returns-then-output-3 : goal.returns-then-output-3
returns-then-output-3 c =
    let a = c.args in
    let lent = lent_of a.ints_room.now a.floats_room.now a.work_ints.now a.work_floats.now in
    let m = sym c.matrix.ensures ∙ c.if-matrix.true in
    let i = sym c.output.ensures ∙ c.if-output.true in
    let f = sym c.output-then-output.ensures ∙ c.if-output-2.true in
    let w = sym c.output-then-output-2.ensures ∙ c.if-output-3.true in
    let r = c.read_matrix.ensures in
    let k = c.clear_matrix.ensures in
    let call = c.yelomawin_setup-number in
    let t = setup_carried a.rows a.cols a.block_size a.group_size a.aggregation a.basis a.coarse_policy lent a.record_room.now _ _ _ (c.filled.ensures ∙ r.row_room_read.front) (c.filled-then-output-3.ensures ∙ r.col_room_read.front) (c.filled-then-output-3-2.ensures ∙ r.value_room_read.front) call.ensures in
    let ints = rw c.leaves_all-kept.ensures at c.hand.ensures in
    let floats = rw c.leaves_all-kept.ensures at c.hand-then-output-3.ensures in
    let out = setup_told _ _ lent i f call.auto.setup_ints call.auto.setup_floats ints floats t.0 t.1.0 in
    let n = answer_told _ w call.auto.record c.hand-then-output-3-2.ensures t.1.1 in
    rw (m, i, f, w) (t.0, matrix_emptied r.row_room_read r.col_room_read r.value_room_read k.row_room_after k.col_room_after k.value_room_after, out.0, n.in_room, out.1.0, out.1.1, n.in_bytes)
