use Rattle.std.proofs.Common.{◌≡◌, ◌+◌, ◌-◌, length, get_or, refl, arith, length-set, length-take-le, length-drop, ap, take, drop}
use lib.Ieee.{nan}
use Rattle.definitions.specs.Numbers.{◌-ᶠ◌, ◌/ᶠ◌}
use Rattle.coarse_solve.proofs.Solving.{eight_within, eight_sum, on_more}
use Rattle.coarse_solve.proofs.solve.forward_eight.Goals as goal

pub row_sums-sums-requires : goal.row_sums-sums-requires
row_sums-sums-requires c =
    let a = c.args in
    let n : length a.y.now ≡ a.factor.now.n = omega arith in
    let m = length-take-le a.i a.y.now (omega arith) in
    λ r h. eight_within a.factor.now.l.now a.factor.now.n a.i _ r c.starts.result a.factor.now.whole (omega arith) (omega (arith, m)) c.starts.ensures h

pub loop-r-preserved : goal.loop-r-preserved
loop-r-preserved c =
    let a = c.args in
    let o = c.loop-r in
    let k = a.i + o.r in
    let row = c.row-row in
    let n : length (take (k - a.i) (drop a.i o.y)) ≡ k - a.i = length-take-le (k - a.i) (drop a.i o.y) (omega (arith, length-drop a.i o.y, o.invariant.long)) in
    let s = eight_sum a.factor.now.l.now a.y.now o.y row.result.now c.starts.result c.row_sums-sums.result a.i o.r k _ c.add_products-sum.result o.invariant.on.kept refl (omega arith) (omega arith)
    c.starts.ensures c.row_sums-sums.ensures (row.ensures.entries (omega arith)) n c.add_products-sum.ensures in
    record {
      long = simp length-set o.invariant.long;
      on = on_more a.factor.now.l.now a.y.now o.y a.i k _ c.add_products-sum.result _ (omega arith) (omega arith) o.invariant.on s (ap (λ d. (get_or o.y k nan -ᶠ c.add_products-sum.result) /ᶠ d) (row.ensures.entries (omega arith) k (omega arith))) (omega arith);
    }
