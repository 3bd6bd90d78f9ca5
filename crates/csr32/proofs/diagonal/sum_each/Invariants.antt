-- The sum is that of the numbers passed, if there are any.
use mathlib.Core.Path.{◌≡◌}
use lib.Dec.{eqb}
use lib.ListN.{length}
use Rattle.csr32.specs.Found.{sum_found}
use Rattle.csr32.proofs.Stored.{numbers_at}
use Rattle.csr32.proofs.diagonal.sum_each.Given as goal

abbrev pub invariant-loop-c : goal.invariant-loop-c
invariant-loop-c l = l.sum ≡ sum_found (numbers_at (λ c. eqb c l.column) l.columns l.values 0 (length l.yielded))
