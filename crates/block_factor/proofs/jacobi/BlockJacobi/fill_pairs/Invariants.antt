-- The blocks left to do give, from the factors so far, what the whole gives.
use mathlib.Core.Path.{◌≡◌}
use Prim.Native.Nat.{◌-◌, ◌*◌}
use lib.ListN.{take}
use Rattle.definitions.specs.Block.{block_count, factors_from, factors_of}
use Rattle.csr32.specs.Seen.{square}
use Rattle.block_factor.proofs.jacobi.BlockJacobi.fill_pairs.Given as goal

abbrev pub invariant-loop-pair : goal.invariant-loop-pair
invariant-loop-pair l = let a = square l.self.a in let size = l.self.size in
    factors_from a size (block_count a.rows size - 2 * l.pair) (2 * l.pair) (take (2 * l.pair * size * size) l.factors) ≡ factors_of a size
