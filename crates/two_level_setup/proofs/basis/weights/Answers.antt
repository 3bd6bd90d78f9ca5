-- No check of the call fails, it makes at most rows + entries weights, and behind what is lent of the work lists stand zeros, before and after.
use Rattle.two_level_setup.specs.Memory.{lists}
use Rattle.two_level_setup.proofs.Weights.{transfer_refused, weights_kept}
use Rattle.csr32.specs.Seen.{lent}
use Prim.Native.Nat.{◌+◌, ◌*◌}
use lib.ListN.{length}
use lib.Seq.{length_front}
use native.Mathlib.Omega.{arith}
use mathlib.Core.Path.{◌∙◌}
use Rattle.two_level_setup.proofs.basis.weights.Goals as goal

pub returns-in-Err-clause-placed : goal.returns-in-Err-clause-placed
returns-in-Err-clause-placed c =
    let a = c.args in
    let h = c.requires in
    let q = h.basis_value.1 in
    let d = c.place_columns in
    let k = c.smoothed_transfer-answer in
    transfer_refused (lent a.a.now) a.setup a.damping (lists a.memory.now) h.ample d.new.ints d.new.work d.auto.ints d.auto.work (rw q.pointers at d.ensures) k.result (rw (q.pointers, q.weights) at k.ensures.0) _ 0 _ c.in-Err.is (omega arith)

pub returns-in-Ok-clause-placed : goal.returns-in-Ok-clause-placed
returns-in-Ok-clause-placed c =
    let a = c.args in
    let h = c.requires in
    let d = c.place_columns in
    let k = c.smoothed_transfer-answer in
    let m = c.min-transfers in
    let q = h.basis_value.1 in
    let i = c.keep_columns in
    let f = c.keep_weights in
    let li = length_front d.new.work k.new.ints (a.a.now.rows + (a.a.now.rows + length a.a.now.values.now) + 1 + 2 * a.setup.coarse) k.auto.ints ∙ d.auto.work in
    let lf = length_front a.memory.now.work_floats.now k.new.floats (a.a.now.rows + length a.a.now.values.now + a.setup.coarse) k.auto.floats in
    weights_kept (lent a.a.now) a.setup a.damping (lists a.memory.now) h.ample d.new.ints d.new.work d.auto.ints d.auto.work (rw q.pointers at d.ensures) k.result (rw (q.pointers, q.weights) at k.ensures.0) h.basis_value.0 _ m.result c.in-Ok.is (omega arith) (λ h. omega arith)
    k.new.ints k.new.floats (rw (q.pointers, q.weights) at k.ensures.1.0) (rw (q.pointers, q.weights) at k.ensures.1.1) i.new.ints i.new.work f.new.floats f.new.work li lf (rw q.pointers at i.ensures) (rw q.weights at f.ensures) (i.auto.ints ∙ d.auto.ints) f.auto.floats (i.auto.work ∙ li) (f.auto.work ∙ lf)
