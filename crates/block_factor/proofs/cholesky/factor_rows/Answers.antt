-- The rows left to do give, from the rows there, what the whole gives.
use mathlib.Core.Path.{◌≡◌, sym, ◌∙◌}
use native.Mathlib.Omega.{arith}
use Rattle.definitions.specs.Block.{in_block}
use Rattle.block_factor.specs.Dense.{dense_entry}
use Rattle.block_factor.specs.Factored.{pivot_row}
use Rattle.block_factor.proofs.Steps.{rows_step, rows_end, row_refused}
use Rattle.block_factor.proofs.cholesky.factor_rows.Goals as goal

pub loop-i-preserved : goal.loop-i-preserved
loop-i-preserved c =
    let x = c.args in
    let h = c.loop-i in
    let f = c.fill_row in
    let s : f.new.l.size ≡ x.a.now.size = f.ensures.1 ∙ h.invariant.sized in record {
      sized = c.put.ensures.1 ∙ s;
      left = rows_step x.a.now.size x.a.now.a x.tol h.i h.l.a f.new.l.a c.put.new.self.a c.rest-pivot.result c.above.result c.root_by.result h.invariant.left (omega arith) f.ensures.0 c.rest-pivot.ensures c.above.ensures
          c.if-not-above.false c.root_by.ensures (rw s at c.put.ensures.0);
    }

pub returns-then-not-above : goal.returns-then-not-above
returns-then-not-above c =
    let x = c.args in
    let h = c.loop-i in
    let f = c.fill_row in
    sym (h.invariant.left x.first)
    ∙ row_refused (in_block x.a.now.size) (dense_entry x.a.now.size x.a.now.a) (pivot_row x.first) x.tol x.a.now.size h.i h.l.a f.new.l.a c.rest-pivot.result c.above.result (omega arith)
    f.ensures.0 c.rest-pivot.ensures c.above.ensures c.if-not-above.true

pub returns : goal.returns
returns c =
    let x = c.args in
    let h = c.loop-i in
    rows_end x.a.now.size x.a.now.a x.tol h.i h.l.a h.invariant.left (omega arith) x.first
