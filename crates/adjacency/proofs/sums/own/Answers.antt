-- The sum so far, with the squares that are left, is the whole total.
use Rattle.std.proofs.Common.{◌≡◌, ◌/◌, ◌∙◌, ap, sym, length, length-append, get_or, arith}
use Rattle.std.proofs.lemmas.Slice.Zip.{zip_turn, zip_end}
use borrow.Author.Rules.{rules}
use lib.Ieee.{nan}
use Rattle.adjacency.proofs.Weighing.{own_first, own_takes, own_skips, own_done}
use Rattle.adjacency.proofs.sums.own.Goals as goal

pub loop-column-init : goal.loop-column-init
loop-column-init c = let e = c.args.e.now in own_first e.col_idx.now e.values.now e.size c.args.v

pub node_of-requires : goal.node_of-requires
node_of-requires c =
    let a = c.args in
    let o = c.loop-column in
    let t = zip_turn a.e.now.col_idx.now a.e.now.values.now o.yielded _ o.column-iterator c.next.new.self c.next.result (search rules) (search rules) o.yielded_by (c.in-Some.column, c.in-Some.x) c.in-Some.is c.next.ensures.steps in
    rw (t.2 0) (a.e.now.fit.low (length o.yielded) t.0)

pub loop-column-preserved-then-node_of-v : goal.loop-column-preserved-then-node_of-v
loop-column-preserved-then-node_of-v c =
    let a = c.args in
    let o = c.loop-column in
    let t = zip_turn a.e.now.col_idx.now a.e.now.values.now o.yielded _ o.column-iterator c.next.new.self c.next.result (search rules) (search rules) o.yielded_by (c.in-Some.column, c.in-Some.x) c.in-Some.is c.next.ensures.steps in
    let e : get_or a.e.now.col_idx.now (length o.yielded) 0 / a.e.now.size ≡ a.v = ap (λ n. n / a.e.now.size) (sym (t.2 0)) ∙ sym c.node_of.ensures ∙ c.if-node_of-v.true in
    rw (length-append o.yielded _) (own_takes a.e.now.col_idx.now a.e.now.values.now a.e.now.size a.v o.sum (length o.yielded) o.invariant t.0 t.1 c.in-Some.x.now (t.3 nan) e)

pub loop-column-preserved : goal.loop-column-preserved
loop-column-preserved c =
    let a = c.args in
    let o = c.loop-column in
    let t = zip_turn a.e.now.col_idx.now a.e.now.values.now o.yielded _ o.column-iterator c.next.new.self c.next.result (search rules) (search rules) o.yielded_by (c.in-Some.column, c.in-Some.x) c.in-Some.is c.next.ensures.steps in
    rw (length-append o.yielded _) (own_skips a.e.now.col_idx.now a.e.now.values.now a.e.now.size a.v o.sum (length o.yielded) o.invariant t.0 t.1 (λ z. c.if-node_of-v.false (c.node_of.ensures ∙ ap (λ n. n / a.e.now.size) (t.2 0) ∙ z)))

pub returns : goal.returns
returns c =
    let a = c.args in
    let o = c.loop-column in
    let t = zip_end a.e.now.col_idx.now a.e.now.values.now o.yielded _ o.column-iterator c.next.new.self c.next.result (search rules) (search rules) o.yielded_by c.in-None.is c.next.ensures.steps in
    own_done a.e.now.col_idx.now a.e.now.values.now a.e.now.size a.v o.sum (length o.yielded) o.invariant (omega (arith, t, a.e.now.fit.both))
