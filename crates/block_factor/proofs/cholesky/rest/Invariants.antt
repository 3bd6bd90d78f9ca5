-- The sum is the entry less the products passed.
use mathlib.Core.Path.{◌≡◌}
use lib.ListN.{get_or}
use lib.Ieee.{nan}
use Rattle.definitions.specs.Lists.{tab}
use Rattle.definitions.specs.Numbers.{reduced, ◌*ᶠ◌}
use Rattle.definitions.specs.Block.{in_block}
use Rattle.block_factor.specs.Dense.{dense_entry}
use Rattle.block_factor.proofs.cholesky.rest.Given as goal

abbrev pub invariant-loop-k : goal.invariant-loop-k
invariant-loop-k l = l.sum ≡ reduced (dense_entry l.a.size l.a.a l.i l.j) (tab (λ k. get_or l.l.a (in_block l.a.size l.i k) nan *ᶠ get_or l.l.a (in_block l.a.size l.j k) nan) l.k)
