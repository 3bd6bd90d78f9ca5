-- Stage 1, the rounds, and what follows them.
use Rattle.std.proofs.lemmas.Result.{err_from_is_err_and}
use Rattle.csr32.specs.Seen.{square}
use Rattle.spectral_radius.proofs.Course.{powered_1, powered_2, powered_3}
use Rattle.spectral_radius.proofs.power.ScaledCsr.estimate.Goals as goal

pub returns-in_err-begin : goal.returns-in_err-begin
returns-in_err-begin c =
    let m = c.args.self.now in
    let p = err_from_is_err_and c.from_residual.result c.from_residual.ensures.1 in
    rw (p.1, p.2) (powered_1 (square m.a) m.s.now _ (rw c.requires.1 at c.in_err-begin.ensures))

pub returns-in_err-rounds : goal.returns-in_err-rounds
returns-in_err-rounds c =
    let m = c.args.self.now in
    let f = c.from_residual-in_err-rounds in
    let p = err_from_is_err_and f.result f.ensures.1 in
    rw (p.1, p.2) (powered_2 (square m.a) m.s.now c.begin.new.x (rw c.requires.1 at c.in_ok-begin.ensures) _ c.in_err-rounds.ensures)

pub returns : goal.returns
returns c =
    let m = c.args.self.now in
    powered_3 (square m.a) m.s.now c.begin.new.x (rw c.requires.1 at c.in_ok-begin.ensures) c.rounds.new.x c.finish.result c.in_ok-rounds.ensures c.finish.ensures
