-- Causes 20 and 21 come first.
use Rattle.std.proofs.lemmas.Result.{err_from_is_err_and}
use Rattle.csr32.specs.Seen.{square}
use Rattle.spectral_radius.proofs.Course.{diagonal_stops, diagonal_goes}
use Rattle.spectral_radius.proofs.run.Goals as goal

pub returns-in_err-check : goal.returns-in_err-check
returns-in_err-check c =
    let p = err_from_is_err_and c.from_residual.result c.from_residual.ensures.1 in
    rw (p.1, p.2) (diagonal_stops (square c.args.a.now) c.args.d.now _ c.in_err-check.ensures)

pub returns : goal.returns
returns c = diagonal_goes (square c.args.a.now) c.args.d.now c.inverse_roots.new.s c.estimate.result c.in_ok-check.ensures c.inverse_roots.ensures c.estimate.ensures
