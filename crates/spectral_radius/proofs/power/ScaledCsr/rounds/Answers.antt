-- What the rounds that are left make of the vector stays what all make of the first.
use mathlib.Core.Path.{◌≡◌, ◌∙◌}
use Prim.Native.Nat.{suc, ◌+◌, ◌-◌}
use native.Mathlib.Omega.{arith}
use Rattle.std.proofs.lemmas.Result.{err_from_is_err_and}
use Rattle.csr32.specs.Seen.{square}
use Rattle.spectral_radius.proofs.Stages.{rounds_go, rounds_stop, rounds_done}
use Rattle.spectral_radius.proofs.power.ScaledCsr.rounds.Goals as goal

pub returns-in_err-round : goal.returns-in_err-round
returns-in_err-round c =
    let m = c.args.self.now in
    let l = c.loop in
    let left : 10 - l.counter ≡ suc (10 - (l.counter + 1)) = omega arith in
    let p = err_from_is_err_and c.from_residual.result c.from_residual.ensures.1 in
    rw (p.1, p.2) (rounds_stop (square m.a) m.s.now l.x (10 - (l.counter + 1)) _ c.in_err-round.ensures ∙ (rw left at l.invariant))

pub loop-preserved : goal.loop-preserved
loop-preserved c =
    let m = c.args.self.now in
    let l = c.loop in
    let left : 10 - l.counter ≡ suc (10 - (l.counter + 1)) = omega arith in
    rounds_go (square m.a) m.s.now l.x (10 - (l.counter + 1)) c.round.new.x c.in_ok-round.ensures ∙ (rw left at l.invariant)

pub returns : goal.returns
returns c =
    let m = c.args.self.now in
    let l = c.loop in
    rounds_done (square m.a) m.s.now l.x (10 - l.counter) (omega arith) ∙ l.invariant
