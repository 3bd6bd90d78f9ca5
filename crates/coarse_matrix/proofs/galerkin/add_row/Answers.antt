-- An entry puts its value times the weights of its column's transfer row.
use mathlib.Core.Path.{subst, ◌∙◌}
use mathlib.Core.List.{flat_map}
use borrow.Author.Rules.{rules}
use Rattle.coarse_matrix.specs.Galerkin.{weights_of, Put, product_puts}
use Rattle.coarse_matrix.proofs.Passing.{passed_all}
use Rattle.coarse_matrix.proofs.Marking.{put_none, entries_more}
use Rattle.coarse_matrix.proofs.galerkin.add_row.Goals as goal

pub loop-column-init : goal.loop-column-init
unfolding product_puts flat_map
loop-column-init c = let a = c.args in put_none a.m.now.transfer.cols a.token a.stamps.now a.touched.now a.sums.now 0 c.requires.room

pub loop-column-preserved : goal.loop-column-preserved
loop-column-preserved c = entries_more c.loop-column.yielded (c.in-Some.column, c.in-Some.value) (weights_of c.args.m.now.transfer) c.loop-column.invariant c.add_products-count.ensures

pub returns : goal.returns
returns c =
    let a = c.args in
    let t = a.m.now.transfer in
    let l = c.loop-column in
    let e = passed_all c.row.result.0.now c.row.result.1.now l.yielded _ l.column-iterator c.next.new.self c.next.result (search rules) (search rules) l.yielded_by c.in-None.is c.next.ensures.steps in
    subst (λ es. Put t.cols a.token a.stamps.now a.touched.now a.sums.now 0 l.stamps l.touched l.sums l.count (product_puts (weights_of t) es)) (e ∙ c.row.ensures.entries) l.invariant
