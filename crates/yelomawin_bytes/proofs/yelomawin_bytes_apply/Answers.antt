-- What is read stands in the front of its room; what the call yields is handed out; the rooms are cleared.
use mathlib.Core.Path.{sym, ◌∙◌}
use Rattle.definitions.specs.Numbers.{zeroᶠ}
use Rattle.definitions.specs.Apply.{apply_left, apply_work_left}
use Rattle.yelomawin_bytes.proofs.Carried.{apply_carried}
use Rattle.yelomawin_bytes.proofs.Handing.{told_where, both_emptied, floats_made, answer_told}
use Rattle.yelomawin_bytes.proofs.yelomawin_bytes_apply.Goals as goal

pub returns-then-output-2 : goal.returns-then-output-2
unfolding apply_left apply_work_left
returns-then-output-2 c =
    let a = c.args in
    let n = sym c.input.ensures ∙ c.if-input.true in
    let i = sym c.input-then-input.ensures ∙ c.if-input-2.true in
    let f = sym c.input-then-input-2.ensures ∙ c.if-input-3.true in
    let x = sym c.input-then-input-3.ensures ∙ c.if-input-4.true in
    let z = sym c.output.ensures ∙ c.if-output.true in
    let w = sym c.output-then-output.ensures ∙ c.if-output-2.true in
    let p = c.read.ensures in
    let q = c.read-then-output-2.ensures in
    let r = c.read-then-output-2-2.ensures in
    let s = c.read-then-output-2-3.ensures in
    let call = c.yelomawin_apply-number in
    let t = apply_carried a.correction_room.now a.work.now a.answer_room.now _ _ _ _ (c.filled.ensures ∙ p.front) (c.filled-then-output-2.ensures ∙ q.front) (c.filled-then-output-2-2.ensures ∙ r.front) (c.filled-then-output-2-3.ensures ∙ s.front) call.ensures in
    let out = floats_made _ _ z call.auto.correction (rw c.leaves_all.ensures at c.hand.ensures) t.0 t.1.0 in
    rw (n, i, f, x, z, w) (
      t.0,
      both_emptied 0 p q c.zero.ensures c.zero-then-output-2.ensures,
      both_emptied zeroᶠ r s c.zero-then-output-2-2.ensures c.zero-then-output-2-3.ensures,
      out.in_room,
      told_where _ _ _ t.1.1.0,
      out.in_bytes,
      answer_told _ w call.auto.answer c.hand-then-output-2.ensures t.1.1.1,
    )
