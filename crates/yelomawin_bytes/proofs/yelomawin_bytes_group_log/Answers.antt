-- What is read stands in the front of its room; what the call yields is handed out; the rooms are cleared.
use mathlib.Core.Path.{sym, ◌∙◌}
use Rattle.yelomawin.specs.Calls.{exported_group_log}
use Rattle.yelomawin.proofs.Handing.{log_parts}
use Rattle.yelomawin_bytes.proofs.Handing.{both_emptied, logged_ids_told, log_told, answer_told}
use Rattle.yelomawin_bytes.proofs.yelomawin_bytes_group_log.Goals as goal

pub returns-then-output-3 : goal.returns-then-output-3
unfolding exported_group_log
returns-then-output-3 c =
    let o = sym c.input.ensures ∙ c.if-input.true in
    let n = sym c.input-then-input.ensures ∙ c.if-input-2.true in
    let i = sym c.output.ensures ∙ c.if-output.true in
    let l = sym c.output-then-output.ensures ∙ c.if-output-2.true in
    let w = sym c.output-then-output-2.ensures ∙ c.if-output-3.true in
    let r = c.read.ensures in
    let s = c.read-then-output-3.ensures in
    let call = c.yelomawin_group_log-number in
    let t = rw (c.filled.ensures ∙ r.front, c.filled-then-output-3.ensures ∙ s.front) at (log_parts call.ensures) in
    rw (o, n, i, l, w) (
      t.0,
      both_emptied 0 r s c.zero.ensures c.zero-then-output-3.ensures,
      logged_ids_told _ i call.auto.ids c.hand.ensures t.0 t.1.0,
      log_told _ l call.auto.log c.hand-then-output-3.ensures t.0 t.1.1.0,
      t.1.1.1.0,
      answer_told _ w call.auto.answer c.hand-then-output-3-2.ensures t.1.1.1.1,
    )
