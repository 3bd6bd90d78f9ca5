-- The block apply is accepted.
use Rattle.two_level_apply.proofs.BlockSolves.{blocks_left_lem}
use Rattle.two_level_apply.proofs.preconditioner.Preconditioner.solve_blocks.Goals as goal

pub returns : goal.returns
returns c =
    let p = c.args.self.now in
    let d = c.block_apply in
    blocks_left_lem p.setup p.places p.ints.now p.floats.now p.laid c.factors.result.now c.args.residual.now c.args.correction.now d.new.correction c.factors.ensures c.requires.rows c.requires.room d.ensures.correction_after
