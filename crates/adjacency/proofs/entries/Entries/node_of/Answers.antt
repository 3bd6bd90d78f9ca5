-- The quotient by the reciprocal: `by_reciprocal`.
use native.Mathlib.Omega.{arith}
use Rattle.adjacency.proofs.Reciprocal.{by_reciprocal, reciprocal_fits}
use Rattle.adjacency.proofs.entries.Entries.node_of.Goals as goal

pub overflow_mul-result : goal.overflow_mul-result
overflow_mul-result c = let e = c.args.self.now in rw e.inverse (omega (arith, reciprocal_fits e.size c.args.column e.fit.some c.requires))

pub returns : goal.returns
returns c = let e = c.args.self.now in rw e.inverse (by_reciprocal e.size c.args.column e.fit.some c.requires)
