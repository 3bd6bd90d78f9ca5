-- Every column is there; what the entries that are left take off stays what the whole row takes off.
use Prim.Native.Nat.{◌+◌, ◌≤◌}
use mathlib.Core.Path.{◌≡◌, refl, sym, ap, ◌∙◌}
use native.Mathlib.Omega.{arith}
use lib.ListN.{get_or, set, replicate, length-set}
use Rattle.definitions.specs.Numbers.{zeroᶠ, oneᶠ, ◌/ᶠ◌}
use Rattle.definitions.specs.Matrix.{stored}
use Rattle.definitions.specs.Transfer.{coarse_column}
use Rattle.laws.proofs.Growing.{tab_none, tab_more}
use lib.Ieee.{nan}
use Rattle.transfer.proofs.Steps.{lowered, smoothing}
use Rattle.transfer.proofs.Passes.{rest_step, rest_done}
use Rattle.transfer.proofs.Rowwise.{span}
use Rattle.transfer.proofs.Visiting.{visited_all, all_columns}
use Rattle.transfer.proofs.Weighing.{weighed_row}
use Rattle.transfer.proofs.weights.weigh_all.Goals as goal

pub loop-column-init : goal.loop-column-init
loop-column-init c = tab_none (λ i. i) c.args.t.now

pub loop-column-preserved : goal.loop-column-preserved
loop-column-preserved c = let l = c.loop-column in tab_more (λ i. i) l.column l.t c.args.t.now l.column (omega arith) l.invariant refl

pub loop-k-preserved : goal.loop-k-preserved
loop-k-preserved c =
    let s = c.args.s.now in
    let a = s.a in
    let l = c.loop-k in
    let p = span a.rows a.row_ptr.now a.col_idx.now a.values.now a.fits c.args.i _ _ c.requires.i_lt_rows refl refl in
    rw c.share.ensures (rest_step a.col_idx.now a.values.now (coarse_column s.groups.size s.groups.ids.now) s.damping _ (get_or a.row_ptr.now (c.args.i + 1) 0) l.k c.column_of-j.result l.w (omega arith) (omega (arith, p.1, a.fits.same)) p.1 c.column_of-j.ensures.value ∙ l.invariant)

pub returns : goal.returns
returns c =
    let s = c.args.s.now in
    let a = s.a in
    let l = c.loop-k in
    let column = coarse_column s.groups.size s.groups.ids.now in
    let from = get_or a.row_ptr.now c.args.i 0 in
    let to = get_or a.row_ptr.now (c.args.i + 1) 0 in
    let inv = oneᶠ /ᶠ get_or s.diagonal.now c.args.i nan in
    let p = span a.rows a.row_ptr.now a.col_idx.now a.values.now a.fits c.args.i from to c.requires.i_lt_rows refl refl in
    let up : l.k ≤ to = l.auto.k-end p.0 in
    let e : l.k ≡ to = omega (arith, up) in
    let all = c.loop-column in
    let es = stored a.col_idx.now a.values.now from to in
    let w = sym (rest_done a.col_idx.now a.values.now column s.damping inv to l.w) ∙ (rw e at l.invariant) ∙ ap (λ j. lowered (smoothing column s.damping inv es) (set (replicate s.groups.coarse zeroᶠ) j oneᶠ)) c.column_of-own.ensures.value in
    record {
      visited = visited_all _ s.groups.coarse all.t (all_columns all.column s.groups.coarse all.t c.args.t.now (omega arith) c.requires.long.0 all.invariant) (omega arith);
      weights = weighed_row column s.damping inv (column c.args.i) es s.groups.coarse _ l.w w (omega (arith, c.requires.long.1, length-set c.fill.new.self c.column_of-own.result oneᶠ));
    }
