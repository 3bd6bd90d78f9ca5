-- Zeros where the diagonal stood behind the weights, then the front of the work list; behind both stand zeros already.
use Rattle.two_level_setup.proofs.Weights.{moved_floats}
use borrow.Rule.Slice.PartMut.{same_len_mid}
use Prim.Native.Nat.{◌+◌, ◌-◌}
use native.Mathlib.Omega.{arith}
use Rattle.two_level_setup.proofs.basis.keep_weights.Goals as goal

pub returns : goal.returns
returns c =
    let a = c.args in
    let p = c.requires in
    let m = c.min in
    let b = c.fill in
    let k = c.copy_front in
    let z = c.fill-2 in
    moved_floats a.used a.count (a.used + m.result) a.end a.floats.now a.work.now b.new.self k.new.to z.new.self (omega arith) (omega arith)
    (omega (arith, p.0)) p.1.0 p.1.1 (b.ensures.after (λ y e. e)) k.ensures (same_len_mid (a.used + m.result) (a.end - (a.used + m.result)) a.floats.now b.new.self b.auto.self) (z.ensures.after (λ y e. e))
