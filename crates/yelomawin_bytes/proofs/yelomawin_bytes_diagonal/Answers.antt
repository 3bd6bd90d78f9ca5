-- What is read stands in the front of its room; what the call yields is handed out; the rooms are cleared.
use mathlib.Core.Path.{sym, ◌∙◌}
use Rattle.definitions.specs.Diagonal.{diagonal_left}
use Rattle.yelomawin.specs.Calls.{exported_diagonal, exported}
use Rattle.yelomawin.proofs.Handing.{parts}
use Rattle.yelomawin_bytes.proofs.Handing.{matrix_emptied, floats_told, answer_told}
use Rattle.yelomawin_bytes.proofs.yelomawin_bytes_diagonal.Goals as goal

pub returns-then-output-2 : goal.returns-then-output-2
unfolding diagonal_left exported_diagonal exported
returns-then-output-2 c =
    let m = sym c.matrix.ensures ∙ c.if-matrix.true in
    let d = sym c.output.ensures ∙ c.if-output.true in
    let w = sym c.output-then-output.ensures ∙ c.if-output-2.true in
    let r = c.read_matrix.ensures in
    let k = c.clear_matrix.ensures in
    let call = c.yelomawin_diagonal-number in
    let t = rw (c.filled.ensures ∙ r.row_room_read.front, c.filled-then-output-2.ensures ∙ r.col_room_read.front, c.filled-then-output-2-2.ensures ∙ r.value_room_read.front) at (parts call.ensures) in
    rw (m, d, w) (
      t.0,
      matrix_emptied r.row_room_read r.col_room_read r.value_room_read k.row_room_after k.col_room_after k.value_room_after,
      floats_told _ d call.auto.diagonal (rw c.leaves_all.ensures at c.hand.ensures) t.0 t.1.0,
      answer_told _ w call.auto.answer c.hand-then-output-2.ensures t.1.1,
    )
