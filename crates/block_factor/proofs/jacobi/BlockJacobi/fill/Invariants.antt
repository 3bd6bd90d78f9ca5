-- The blocks left to do give, from the factors so far, what the whole gives.
use mathlib.Core.Path.{◌≡◌}
use Prim.Native.Nat.{◌-◌, ◌*◌, ◌≤◌}
use lib.ListN.{take}
use Rattle.definitions.specs.Block.{block_count, factors_from, factors_of}
use Rattle.csr32.specs.Seen.{square}
use Rattle.block_factor.proofs.jacobi.BlockJacobi.fill.Given as goal

abbrev pub invariant-loop-k : goal.invariant-loop-k
invariant-loop-k l = record {
  before : l.used ≤ l.k * l.self.size * l.self.size;
  within : l.used ≤ l.self.a.rows * l.self.size;
  left : factors_from (square l.self.a) l.self.size (block_count l.self.a.rows l.self.size - l.k) l.k (take l.used l.factors) ≡ factors_of (square l.self.a) l.self.size;
}
