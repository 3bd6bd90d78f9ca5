-- What is read stands in the front of its room; what the call yields is handed out; the rooms are cleared.
use mathlib.Core.Path.{sym, ◌∙◌}
use Rattle.definitions.specs.Numbers.{zeroᶠ}
use Rattle.definitions.specs.Block.{block_apply_left}
use Rattle.yelomawin.specs.Calls.{exported_block_apply, exported}
use Rattle.yelomawin.proofs.Handing.{parts}
use Rattle.yelomawin_bytes.proofs.Handing.{both_emptied, floats_told, answer_told}
use Rattle.yelomawin_bytes.proofs.yelomawin_bytes_block_apply.Goals as goal

pub returns-then-output-2 : goal.returns-then-output-2
unfolding block_apply_left exported_block_apply exported
returns-then-output-2 c =
    let f = sym c.input.ensures ∙ c.if-input.true in
    let x = sym c.input-then-input.ensures ∙ c.if-input-2.true in
    let z = sym c.output.ensures ∙ c.if-output.true in
    let w = sym c.output-then-output.ensures ∙ c.if-output-2.true in
    let r = c.read.ensures in
    let s = c.read-then-output-2.ensures in
    let call = c.yelomawin_block_apply-number in
    let t = rw (c.filled.ensures ∙ r.front, c.filled-then-output-2.ensures ∙ s.front) at (parts call.ensures) in
    rw (f, x, z, w) (
      t.0,
      both_emptied zeroᶠ r s c.zero.ensures c.zero-then-output-2.ensures,
      floats_told _ z call.auto.correction (rw c.leaves_all.ensures at c.hand.ensures) t.0 t.1.0,
      answer_told _ w call.auto.answer c.hand-then-output-2.ensures t.1.1,
    )
