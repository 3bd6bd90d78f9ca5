-- Neighbour lists by a number: 0 asks for Graph's, any other for StrongGraph's.
use Rattle.std.specs.Prelude.{ℕ, zero, suc}
use Rattle.definitions.specs.declared.TwoLevelAggregation.{TwoLevelAggregation}
use Rattle.definitions.specs.declared.TwoLevelAggregation.TheVariants.{Graph, StrongGraph}

unfoldable pub lists_by : ℕ → TwoLevelAggregation
lists_by zero = Graph
lists_by (suc n) = StrongGraph
