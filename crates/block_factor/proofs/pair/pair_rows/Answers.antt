-- Row by row for both blocks: the rows left to do give, from the rows there, what all give.
use mathlib.Core.Path.{◌≡◌, ◌∙◌}
use Prim.Native.Nat.{◌<◌}
use native.Mathlib.Omega.{arith}
use Rattle.block_factor.proofs.Steps.{rows_step, rows_end}
use Rattle.block_factor.proofs.pair.pair_rows.Goals as goal

pub loop-i-preserved : goal.loop-i-preserved
loop-i-preserved c =
    let x = c.args in
    let h = c.loop-i in
    let f = c.fill_row in
    let g = c.fill_row-in-loop-i in
    let s : f.new.l.size ≡ x.a.now.size = f.ensures.1 ∙ h.invariant.one_sized in
    let t : g.new.l.size ≡ x.b.now.size = g.ensures.1 ∙ h.invariant.two_sized in
    let k : h.i < x.b.now.size = omega arith in record {
      one_sized = c.put.ensures.1 ∙ s;
      two_sized = c.put-in-loop-i.ensures.1 ∙ t;
      one = rows_step x.a.now.size x.a.now.a x.s h.i h.l.a f.new.l.a c.put.new.self.a c.rest-p.result c.above.result c.root_by-x.result h.invariant.one (omega arith) f.ensures.0 c.rest-p.ensures c.above.ensures
          c.if-not-above.false c.root_by-x.ensures (rw s at c.put.ensures.0);
      two = rows_step x.b.now.size x.b.now.a x.t h.i h.m.a g.new.l.a c.put-in-loop-i.new.self.a c.rest-q.result c.above-in-loop-i.result c.root_by-y.result h.invariant.two k g.ensures.0 c.rest-q.ensures c.above-in-loop-i.ensures
          c.if-not-above-2.false c.root_by-y.ensures (rw t at c.put-in-loop-i.ensures.0);
    }

pub returns : goal.returns
returns c =
    let x = c.args in
    let h = c.loop-i in
    (rows_end x.a.now.size x.a.now.a x.s h.i h.l.a h.invariant.one (omega arith), rows_end x.b.now.size x.b.now.a x.t h.i h.m.a h.invariant.two (omega arith))
