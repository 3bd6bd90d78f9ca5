-- The factor of the gathered numbers is the block's factor.
use Rattle.std.proofs.lemmas.Result.{err_from_is_err_and}
use Rattle.csr32.specs.Seen.{square}
use Rattle.block_factor.proofs.Shape.{square_fits}
use Rattle.block_factor.proofs.Placing.{into_refused, into_accepted}
use Rattle.block_factor.proofs.jacobi.BlockJacobi.block_into.Goals as goal

pub returns-in_err-block : goal.returns-in_err-block
returns-in_err-block c =
    let x = c.args in
    let g = c.gather in
    let p = err_from_is_err_and c.from_residual.result c.from_residual.ensures.1 in
    let z = into_refused (square x.self.now.a) x.first x.w g.result g.ensures.0 g.ensures.1 (square_fits x.w c.requires.1) _ x.place.now c.in_err-block.ensures in
    rw (p.1, p.2) (record { value = z.0; place_after = z.1 })

pub returns : goal.returns
returns c =
    let x = c.args in
    let g = c.gather in
    let z = into_accepted (square x.self.now.a) x.first x.w g.result g.ensures.0 g.ensures.1 (square_fits x.w c.requires.1) c.in_ok-block.block.a x.place.now _ c.in_ok-block.ensures c.requires.2 c.copy_front.ensures in
    record { value = z.0; place_after = z.1 }
