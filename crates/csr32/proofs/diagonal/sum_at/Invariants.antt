-- The entries passed are counted, and the position of a single one is known.
use lib.Dec.{eqb}
use Rattle.csr32.proofs.Single.{Single}
use Rattle.csr32.proofs.diagonal.sum_at.Given as goal

abbrev pub invariant-loop-k : goal.invariant-loop-k
invariant-loop-k l = Single (λ c. eqb c l.column) l.columns l.values 0 l.k l.count l.at
