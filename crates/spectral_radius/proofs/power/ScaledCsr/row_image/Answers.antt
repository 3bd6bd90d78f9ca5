-- The pair that the loop is at holds the column and the value at the index that it has come to.
use mathlib.Core.Path.{◌∙◌}
use native.Mathlib.Omega.{arith}
use lib.ListN.{length, length-append}
use lib.Ieee.{nan}
use borrow.Author.Rules.{rules}
use Rattle.std.proofs.lemmas.Slice.Zip.{zip_turn, zip_end}
use Rattle.csr32.specs.Parts.{part}
use Rattle.csr32.specs.Seen.{square}
use Rattle.spectral_radius.proofs.Products.{added_none, added_more, added_all}
use Rattle.spectral_radius.proofs.power.ScaledCsr.row_image.Goals as goal

pub loop-column-init : goal.loop-column-init
loop-column-init c = let m = c.args.self.now in added_none (part m.a.row_ptr.now c.args.i m.a.col_idx.now) (part m.a.row_ptr.now c.args.i m.a.values.now) m.s.now c.args.x.now

pub bounds-self-col : goal.bounds-self-col
bounds-self-col c =
    let r = c.row in
    let o = c.loop-column in
    let t = zip_turn r.result.0.now r.result.1.now o.yielded _ o.column-iterator c.next.new.self c.next.result (search rules) (search rules) o.yielded_by (c.in-Some.column, c.in-Some.value) c.in-Some.is c.next.ensures.steps in
    omega (arith, t.2 0, r.ensures.below (length o.yielded) t.0)

pub loop-column-preserved : goal.loop-column-preserved
loop-column-preserved c =
    let x = c.args in
    let m = x.self.now in
    let r = c.row in
    let o = c.loop-column in
    let t = zip_turn r.result.0.now r.result.1.now o.yielded _ o.column-iterator c.next.new.self c.next.result (search rules) (search rules) o.yielded_by (c.in-Some.column, c.in-Some.value) c.in-Some.is c.next.ensures.steps in
    rw (← r.ensures.columns, ← r.ensures.values) (added_more r.result.0.now r.result.1.now m.s.now x.x.now (length o.yielded) _ c.in-Some.column.now c.in-Some.value.now o.sum (length-append o.yielded _) t.0 r.ensures.same (t.2 0) (t.3 nan)
    (rw (← r.ensures.columns, ← r.ensures.values) at o.invariant))

pub returns : goal.returns
returns c =
    let x = c.args in
    let m = x.self.now in
    let r = c.row in
    let o = c.loop-column in
    let t = zip_end r.result.0.now r.result.1.now o.yielded _ o.column-iterator c.next.new.self c.next.result (search rules) (search rules) o.yielded_by c.in-None.is c.next.ensures.steps in
    added_all r.result.0.now r.result.1.now m.s.now x.x.now (square m.a) x.i (length o.yielded) o.sum (omega (arith, t, r.ensures.same)) r.ensures.same r.ensures.entries (rw (← r.ensures.columns, ← r.ensures.values) at o.invariant)
