-- The blocks left to do give, from the factors so far, what the whole gives.
use mathlib.Core.Path.{◌≡◌}
use Prim.Native.Nat.{◌+◌, ◌*◌, ◌/◌, ◌≤◌}
use native.Mathlib.Omega.{arith}
use lib.ListN.{length}
use Rattle.csr32.specs.Seen.{square}
use Rattle.block_factor.proofs.Turns.{pair_turn_at}
use Rattle.block_factor.proofs.Filling.{blocks_none, pairs_more}
use Rattle.block_factor.proofs.jacobi.BlockJacobi.fill_pairs.Goals as goal

pub loop-pair-init : goal.loop-pair-init
loop-pair-init c = let x = c.args in blocks_none (square x.self.now.a) x.self.now.size x.factors.now

pub slice_bounds-pair_into-end : goal.slice_bounds-pair_into-end
slice_bounds-pair_into-end c =
    let x = c.args.self.now in
    omega (arith, (pair_turn_at x.a.rows x.size c.loop-pair.pair x.some c.loop-pair-test.true).ends)

pub loop-pair-preserved : goal.loop-pair-preserved
loop-pair-preserved c =
    let x = c.args.self.now in
    let l = c.loop-pair in
    let t = pair_turn_at x.a.rows x.size l.pair x.some c.loop-pair-test.true in
    let used = 2 * l.pair * x.size * x.size in
    let end = used + 2 * (x.size * x.size) in
    let inside : end ≤ length l.factors = omega (arith, t.ends) in
    let next : 2 * (l.pair + 1) ≡ 2 * l.pair + 2 = omega arith in
    rw (next, ← t.next) (pairs_more (square x.a) x.size (2 * l.pair) used end t l.factors _ (omega arith) inside c.pair_into.auto.place l.invariant c.in-Some.ensures)

pub returns-clause-factors_after : goal.returns-clause-factors_after
returns-clause-factors_after c =
    let x = c.args.self.now in
    let e : c.loop-pair.pair ≡ x.a.rows / (2 * x.size) = omega arith in
    rw e at c.loop-pair.invariant
