-- The factors of the gathered numbers are the blocks' factors, and each fills its half of the place.
use Rattle.csr32.specs.Seen.{square}
use Rattle.block_factor.proofs.Shape.{square_fits}
use Rattle.block_factor.proofs.Placing.{pair_placed}
use Rattle.block_factor.proofs.jacobi.BlockJacobi.pair_into.Goals as goal

pub returns : goal.returns
returns c =
    let x = c.args in
    let m = x.self.now in
    let g = c.gather in
    let h = c.gather-2 in
    pair_placed (square m.a) x.first m.size g.result h.result c.in_ok-one.one.a c.in_ok-one.two.a g.ensures.0 g.ensures.1 h.ensures.0 h.ensures.1 c.in_ok-one.ensures
    x.place.now c.copy_front.new.to c.copy_front-2.new.to c.requires.1 (square_fits m.size m.small) c.copy_front.ensures c.copy_front-2.ensures
