-- What is read stands in the front of its room; what the call yields is handed out; the rooms are cleared.
use mathlib.Core.Path.{sym, ◌∙◌}
use Rattle.definitions.specs.Numbers.{zeroᶠ}
use Rattle.definitions.specs.Estimate.{estimate_work_left}
use Rattle.yelomawin.specs.Calls.{exported_estimate}
use Rattle.yelomawin.proofs.Handing.{parts}
use Rattle.yelomawin_bytes.proofs.Handing.{emptied_out, matrix_emptied, answer_told}
use Rattle.yelomawin_bytes.proofs.yelomawin_bytes_estimate.Goals as goal

pub returns-then-output : goal.returns-then-output
unfolding estimate_work_left exported_estimate
returns-then-output c =
    let m = sym c.matrix.ensures ∙ c.if-matrix.true in
    let e = sym c.input.ensures ∙ c.if-input.true in
    let w = sym c.output.ensures ∙ c.if-output.true in
    let r = c.read_matrix.ensures in
    let k = c.clear_matrix.ensures in
    let d = c.read.ensures in
    let call = c.yelomawin_estimate-number in
    let t = rw (c.filled.ensures ∙ r.row_room_read.front, c.filled-then-output.ensures ∙ r.col_room_read.front, c.filled-then-output-2.ensures ∙ r.value_room_read.front, c.filled-then-output-3.ensures ∙ d.front) at (parts call.ensures) in
    rw (m, e, w) (
      t.0,
      matrix_emptied r.row_room_read r.col_room_read r.value_room_read k.row_room_after k.col_room_after k.value_room_after,
      emptied_out zeroᶠ d c.zero.ensures,
      t.1.0,
      answer_told _ w call.auto.answer c.hand.ensures t.1.1,
    )
