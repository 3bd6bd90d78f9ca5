use mathlib.Core.Path.{◌≡◌}
use Rattle.block_apply.specs.Solved.{solved_to}
use Rattle.block_apply.proofs.blocks.whole_blocks.Given as goal

abbrev pub invariant-loop-k : goal.invariant-loop-k
invariant-loop-k g l = l.z ≡ solved_to l.k g.row.W l.factors l.r l.initial.z
