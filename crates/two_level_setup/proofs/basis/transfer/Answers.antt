-- Constant: nothing is to be done.
use Rattle.two_level_setup.specs.Memory.{lists}
use Rattle.two_level_setup.proofs.Bases.{constant_simulates}
use Rattle.csr32.specs.Seen.{lent}
use Rattle.two_level_setup.proofs.basis.transfer.Goals as goal

pub returns-in-PiecewiseConstant-clause-built : goal.returns-in-PiecewiseConstant-clause-built
returns-in-PiecewiseConstant-clause-built c = let a = c.args in constant_simulates (lent a.a.now) a.setup (lists a.memory.now) c.in-PiecewiseConstant.is
