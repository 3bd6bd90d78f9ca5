use Rattle.std.proofs.Common.{◌≡◌, ◌+◌, ◌*◌, ◌∙◌, sym, length, arith}
use Rattle.laws.proofs.Growing.{tab_none, tab_more, tab_all}
use Rattle.coarse_solve.specs.RowSums.{row_sum}
use Rattle.coarse_solve.proofs.Filling.{tab_several, square_within, square_sums, square_dot, inverse_is}
use Rattle.coarse_solve.proofs.stored.by_inverse.Goals as goal

pub loop-g-init : goal.loop-g-init
loop-g-init c = tab_none _ c.args.x.now

pub row_sums-requires : goal.row_sums-requires
row_sums-requires c = let a = c.args in λ r h. square_within (length a.b.now) (8 * c.loop-g.g) r _ c.starts.result c.requires.0 (omega arith) c.starts.ensures h

pub loop-g-preserved : goal.loop-g-preserved
loop-g-preserved c =
    let a = c.args in
    let o = c.loop-g in
    let n = length a.b.now in
    let i = 8 * o.g in
    let z : 8 * (o.g + 1) ≡ i + 8 = omega arith in
    rw z (tab_several (λ i. row_sum a.part.now a.b.now n (i * n)) i 8 _ o.x a.x.now c.copy_from_slice.new.self o.invariant (omega arith)
    (c.copy_from_slice.ensures.after ∙ square_sums a.part.now a.b.now n i c.starts.result c.row_sums.result c.starts.ensures c.row_sums.ensures))

pub loop-i-preserved : goal.loop-i-preserved
loop-i-preserved c =
    let a = c.args in
    let o = c.loop-i in
    let n = length a.b.now in
    tab_more (λ i. row_sum a.part.now a.b.now n (i * n)) o.i o.x a.x.now c.dot.result (omega arith) o.invariant (square_dot a.part.now a.b.now n o.i _ c.dot.result (omega arith) c.dot.ensures)

pub returns : goal.returns
returns c =
    let a = c.args in
    let o = c.loop-i in
    let n = length a.b.now in
    let e : length a.x.now ≡ n = c.requires.1 in
    rw e at (tab_all (λ i. row_sum a.part.now a.b.now n (i * n)) o.i o.x a.x.now (omega arith) o.invariant) ∙ sym (inverse_is n a.part.now a.b.now)
