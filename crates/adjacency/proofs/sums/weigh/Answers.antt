-- The entries left to weigh give the whole weighing.
use Rattle.std.proofs.Common.{◌≡◌, ◌/◌, ◌∙◌, ap, length, length-append, arith}
use Rattle.std.proofs.lemmas.Slice.Zip.{zip_turn, zip_end}
use borrow.Author.Rules.{rules}
use lib.Ieee.{nan}
use Rattle.adjacency.proofs.Weighing.{weigh_more, weigh_done}
use Rattle.adjacency.proofs.sums.weigh.Goals as goal

pub loop-column-preserved : goal.loop-column-preserved
loop-column-preserved c =
    let a = c.args in
    let o = c.loop-column in
    let t = zip_turn a.e.now.col_idx.now a.e.now.values.now o.yielded _ o.column-iterator c.next.new.self c.next.result (search rules) (search rules) o.yielded_by (c.in-Some.column, c.in-Some.x) c.in-Some.is c.next.ensures.steps in
    let inside = a.e.now.fit.inside (length o.yielded) t.0 in
    let w : c.node_of.result ≡ _ = c.node_of.ensures ∙ ap (λ n. n / a.e.now.size) (t.2 0) in
    rw (length-append o.yielded _) (weigh_more a.e.now.col_idx.now a.e.now.values.now a.e.now.size a.sums.now o.sums (length o.yielded) c.node_of.result c.in-Some.x.now _ o.invariant t.0 t.1 w (omega (arith, w, inside)) (t.3 nan))

pub returns : goal.returns
returns c =
    let a = c.args in
    let o = c.loop-column in
    let t = zip_end a.e.now.col_idx.now a.e.now.values.now o.yielded _ o.column-iterator c.next.new.self c.next.result (search rules) (search rules) o.yielded_by c.in-None.is c.next.ensures.steps in
    weigh_done a.e.now.col_idx.now a.e.now.values.now a.e.now.size a.sums.now o.sums (length o.yielded) o.invariant (omega (arith, t, a.e.now.fit.both))
