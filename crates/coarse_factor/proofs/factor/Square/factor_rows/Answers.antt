-- Row by row: its entries left of the diagonal, its pivot, and its column.
use Prim.Native.Nat.{◌+◌, ◌-◌, ◌<◌}
use mathlib.Core.Path.{refl, sym, ◌∙◌}
use native.Mathlib.Omega.{arith}
use lib.ListN.{length, length-set}
use Rattle.definitions.specs.Coarse.{entry_in}
use Rattle.laws.proofs.Packed.{tri_row, tri_next}
use Rattle.coarse_factor.specs.Calls.{outcome_of}
use Rattle.coarse_factor.proofs.Cholesky.{rows_on, rows_stop, rows_end}
use Rattle.coarse_factor.proofs.Fronts.{pivot_here, row_here, fronts_next}
use Rattle.coarse_factor.proofs.factor.Square.factor_rows.Goals as goal

pub slice_bounds-row-end : goal.slice_bounds-row-end
slice_bounds-row-end c = omega (arith, tri_row c.loop-i.i c.args.self.now.c (omega arith))

pub bounds-l-start : goal.bounds-l-start
bounds-l-start c = omega (arith, tri_row c.loop-i.i c.args.self.now.c (omega arith))

pub returns-then-not-above : goal.returns-then-not-above
unfolding outcome_of
returns-then-not-above c =
    let a = c.args in
    let o = c.loop-i in
    let v = o.invariant in
    let n = c.renew-n in
    let long : o.start + o.i < length o.l = omega (arith, tri_row o.i a.self.now.c (omega arith)) in
    let k = c.put_row.ensures (entry_in a.self.now.m.now a.self.now.c) n.result (omega (arith, n.ensures.0)) n.ensures.3 in
    let d = pivot_here (entry_in a.self.now.m.now a.self.now.c) o.l c.put_row.new.l n.new.w n.result o.i o.start (o.start + o.i - o.start) v.starts (omega arith) n.ensures.0 n.ensures.1 (omega arith) n.ensures.3 k _ c.pair_rest.ensures.0 in
    (omega arith, sym (rows_stop a.self.now.m.now a.self.now.c a.tol o.i o.l c.put_row.new.l _ (omega arith) o.start v.starts k d (sym c.above.ensures ∙ c.if-not-above.true)) ∙ v.left)

pub loop-i-preserved : goal.loop-i-preserved
loop-i-preserved c =
    let a = c.args in
    let o = c.loop-i in
    let v = o.invariant in
    let n = c.renew-n in
    let l = c.put_row.new.l in
    let long : o.start + o.i < length o.l = omega (arith, tri_row o.i a.self.now.c (omega arith)) in
    let k = c.put_row.ensures (entry_in a.self.now.m.now a.self.now.c) n.result (omega (arith, n.ensures.0)) n.ensures.3 in
    let d = pivot_here (entry_in a.self.now.m.now a.self.now.c) o.l l n.new.w n.result o.i o.start (o.start + o.i - o.start) v.starts (omega arith) n.ensures.0 n.ensures.1 (omega arith) n.ensures.3 k _ c.pair_rest.ensures.0 in
    let row = row_here (entry_in a.self.now.m.now a.self.now.c) o.l l n.new.w n.result o.i o.start (o.start + o.i - o.start) v.starts (omega arith) n.ensures.0 n.ensures.1 (omega arith) n.ensures.3 k in
    record {
      long = simp length-set (c.put_row.auto.l ∙ v.long);
      starts = tri_next o.start o.i v.starts;
      left = sym (rows_on a.self.now.m.now a.self.now.c a.tol o.i o.l l _ (omega arith) o.start v.starts k d (sym c.above.ensures ∙ c.if-not-above.false) c.root-p.ensures refl) ∙ v.left;
      within = omega (arith, n.ensures.0);
      columns = simp length-set n.ensures.2;
      fronts = fronts_next (entry_in a.self.now.m.now a.self.now.c) o.l l _ n.new.w _ _ n.result o.i o.start c.root-p.result (omega (arith, n.ensures.2)) v.starts (omega arith) k row c.pair_rest.ensures.0 c.over.ensures n.ensures.3;
    }

pub returns : goal.returns
unfolding outcome_of
returns c =
    let a = c.args in
    let o = c.loop-i in
    let v = o.invariant in
    (v.long, sym (rows_end a.self.now.m.now a.self.now.c a.tol o.i o.l (omega arith)) ∙ v.left)
