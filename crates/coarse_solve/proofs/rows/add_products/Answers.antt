-- The pair that the loop is at holds the numbers at the index that it has come to.
use Rattle.std.proofs.Common.{length, length-append}
use Rattle.std.proofs.lemmas.Slice.Zip.{zip_turn}
use borrow.Author.Rules.{rules}
use lib.Ieee.{nan}
use Rattle.coarse_solve.specs.RowSums.{product}
use Rattle.coarse_solve.proofs.Sums.{added_none, products_more}
use Rattle.coarse_solve.proofs.rows.add_products.Goals as goal

pub loop-p-init : goal.loop-p-init
loop-p-init c = added_none _ (product _ _)

pub loop-p-preserved : goal.loop-p-preserved
loop-p-preserved c =
    let a = c.args in
    let o = c.loop-p in
    let t = zip_turn a.a.now a.b.now o.yielded _ o.p-iterator c.next.new.self c.next.result (search rules) (search rules) o.yielded_by (c.in-Some.p, c.in-Some.q) c.in-Some.is c.next.ensures.steps in
    products_more a.sum a.a.now a.b.now (length o.yielded) _ o.sum c.in-Some.p.now c.in-Some.q.now o.invariant (t.2 nan) (t.3 nan) (length-append o.yielded _)
