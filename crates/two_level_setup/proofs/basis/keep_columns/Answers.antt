-- The front of the work list over zeros; behind both stand zeros already.
use Rattle.two_level_setup.proofs.Weights.{moved_ints}
use Rattle.two_level_setup.proofs.basis.keep_columns.Goals as goal

pub returns : goal.returns
returns c =
    let a = c.args in
    let k = c.copy_front in
    moved_ints a.nodes a.count a.ints.now a.work.now k.new.to c.fill.new.self c.requires.1 k.ensures (c.fill.ensures.after (λ y e. e))
