-- The steps one after the other: the solution stands in front.
use Rattle.two_level_apply.proofs.Solving.{correction_is}
use Rattle.two_level_apply.proofs.preconditioner.Preconditioner.correct.Goals as goal

pub returns-clause-correction_after : goal.returns-clause-correction_after
returns-clause-correction_after c =
    let a = c.args in
    let p = a.self.now in
    correction_is p.setup p.ints.now p.floats.now a.residual.now c.restrict.new.rhs a.work.now c.solve_coarse.new.work c.requires.work_room c.restrict.ensures c.solve_coarse.ensures
    c.solve_blocks.new.correction c.prolong.new.z c.solve_blocks.ensures c.prolong.ensures
