use mathlib.Core.Path.{◌≡◌}
use lib.ListN.{get_or}
use lib.Ieee.{nan}
use Rattle.definitions.specs.Lists.{tab}
use Rattle.definitions.specs.Numbers.{reduced, ◌*ᶠ◌}
use Rattle.definitions.specs.Block.{lower}
use Rattle.block_apply.proofs.solve.row_rest.Given as goal

abbrev pub invariant-loop-k : goal.invariant-loop-k
invariant-loop-k g l = l.rest ≡ reduced (get_or l.r l.i nan) (tab (λ k. lower l.l g.row.W l.i k *ᶠ get_or l.z k nan) l.k)
