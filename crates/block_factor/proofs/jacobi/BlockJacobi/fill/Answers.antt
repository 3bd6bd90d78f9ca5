-- The blocks left to do give, from the factors so far, what the whole gives.
use Rattle.std.specs.Prelude.{Ok}
use mathlib.Core.Path.{◌≡◌, refl, ◌∙◌}
use Prim.Native.Nat.{◌+◌, ◌-◌, ◌*◌, ◌/◌, ◌≤◌}
use native.Mathlib.Omega.{arith}
use native.Mathlib.Nat.{le-div_iff_mul-le}
use lib.ListN.{length}
use borrow.Rule.Slice.PartMut.{same_len_mid}
use Rattle.definitions.specs.Block.{block_count, width_of, factors_of}
use Rattle.definitions.specs.Answers.{answer_of}
use Rattle.csr32.specs.Seen.{square}
use Rattle.csr32.proofs.Results.{left_done, left_cleared}
use Rattle.block_factor.proofs.Turns.{turn}
use Rattle.block_factor.proofs.Filling.{blocks_more, blocks_stop, blocks_all}
use Rattle.block_factor.proofs.jacobi.BlockJacobi.fill.Goals as goal

pub slice_bounds-block_into-end : goal.slice_bounds-block_into-end
slice_bounds-block_into-end c =
    let x = c.args.self.now in
    let l = c.loop-k in
    omega (arith, (turn x.a.rows x.size l.k l.used c.min-w.result x.some x.small c.loop-k-test.true l.invariant.before c.min-w.ensures).ends)

pub loop-k-preserved : goal.loop-k-preserved
unfolding block_count width_of
loop-k-preserved c =
    let x = c.args.self.now in
    let l = c.loop-k in
    let w = c.min-w in
    let b = c.block_into in
    let t = turn x.a.rows x.size l.k l.used w.result x.some x.small c.loop-k-test.true l.invariant.before w.ensures in
    let inside : l.used + w.result * w.result ≤ length l.factors = omega (arith, t.ends) in record {
      before = t.next;
      within = t.ends;
      left = blocks_more (square x.a) x.size l.k l.used _ w.result c.loop-k-test.true w.ensures refl l.factors _ inside b.auto.place b.ensures.place_after l.invariant.left (Ok tt) c.in_default.ensures.value refl;
    }

pub returns-in-Err : goal.returns-in-Err
unfolding block_count width_of answer_of
returns-in-Err c =
    let x = c.args.self.now in
    let l = c.loop-k in
    let w = c.min-w in
    let b = c.block_into in
    let t = turn x.a.rows x.size l.k l.used w.result x.some x.small c.loop-k-test.true l.invariant.before w.ensures in
    let inside : l.used + w.result * w.result ≤ length l.factors = omega (arith, t.ends) in
    let o = blocks_stop (square x.a) x.size l.k l.used _ w.result c.loop-k-test.true w.ensures refl l.factors _ inside b.auto.place b.ensures.place_after l.invariant.left b.result b.ensures.value _ c.in-Err.is in
    let long = same_len_mid l.used (l.used + w.result * w.result - l.used) l.factors b.new.place b.auto.place ∙ l.auto.factors ∙ c.fill_pairs-start.auto.factors in
    record { value = rw (o.0, answer_of); factors_after = left_cleared (factors_of (square x.a) x.size) _ _ c.args.factors.now _ o.0 o.1 long (c.fill.ensures.after (λ y e. e)) }

pub returns : goal.returns
unfolding answer_of block_count
returns c =
    let x = c.args.self.now in
    let l = c.loop-k in
    let begins : c.fill_pairs-start.result * x.size ≤ x.a.rows + (x.size - 1) = omega (arith, c.fill_pairs-start.ensures.size_bound) in
    let all : l.k ≡ (x.a.rows + (x.size - 1)) / x.size = omega (arith, l.auto.k-end ((le-div_iff_mul-le x.some).1 begins)) in
    let e = blocks_all (square x.a) x.size l.k l.used l.factors all l.invariant.left in
    record { value = rw (e, answer_of); factors_after = left_done l.used l.factors c.args.factors.now _ (omega (arith, l.invariant.within)) (l.auto.factors ∙ c.fill_pairs-start.auto.factors) (c.fill-2.ensures.after (λ y e. e)) (factors_of (square x.a) x.size) e }
