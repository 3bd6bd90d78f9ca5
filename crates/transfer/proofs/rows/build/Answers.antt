-- When i rows are put, pointers, columns and weights are those of the rows before i.
use Prim.Native.Nat.{◌+◌, ◌≤◌}
use mathlib.Core.Path.{◌≡◌, ap}
use native.Mathlib.Omega.{arith}
use lib.ListN.{length, get_or, length-set}
use Rattle.definitions.specs.Transfer.{transfer_row, transfer_of}
use Rattle.csr32.specs.Seen.{square}
use Rattle.transfer.proofs.Rowwise.{row_kept, row_room}
use Rattle.transfer.proofs.Storing.{rowed_none, rowed_more, rowed_all}
use Rattle.transfer.proofs.Visiting.{visited_below}
use Rattle.transfer.proofs.rows.build.Goals as goal

pub loop-i-init : goal.loop-i-init
loop-i-init c = (omega arith, rowed_none _ c.args.pointers.now c.args.columns.now c.args.weights.now (omega arith))

pub store-at-requires-clause-below : goal.store-at-requires-clause-below
store-at-requires-clause-below c =
    let v = c.weigh-n in
    let lw : length v.new.w ≡ c.args.s.now.groups.coarse = omega arith in
    rw lw (visited_below _ _ _ _ v.ensures.visited)

pub store-at-requires-clause-room : goal.store-at-requires-clause-room
store-at-requires-clause-room c =
    let s = c.args.s.now in
    let a = s.a in
    let l = c.loop-i in
    let v = c.weigh-n in
    let r = row_room a.rows a.row_ptr.now a.col_idx.now a.values.now a.fits l.i l.at c.loop-i-test.true l.invariant.0 s.diagonal.now s.damping s.groups.size s.groups.ids.now s.groups.coarse (rw s.same_rows at s.groups.grouped) v.new.t v.new.w v.result v.ensures (omega arith) in
    (omega (arith, r.1, c.requires.room), omega (arith, r.1, c.requires.room))

pub loop-i-preserved : goal.loop-i-preserved
loop-i-preserved c =
    let s = c.args.s.now in
    let a = s.a in
    let l = c.loop-i in
    let v = c.weigh-n in
    let n = c.store-at in
    let lw : length v.new.w ≡ s.groups.coarse = omega arith in
    let r = row_room a.rows a.row_ptr.now a.col_idx.now a.values.now a.fits l.i l.at c.loop-i-test.true l.invariant.0 s.diagonal.now s.damping s.groups.size s.groups.ids.now s.groups.coarse (rw s.same_rows at s.groups.grouped) v.new.t v.new.w v.result v.ensures lw in
    let k = row_kept (square a) s.diagonal.now s.damping s.groups.size s.groups.ids.now s.groups.coarse l.i v.new.t v.new.w v.result v.ensures lw in
    (omega (arith, r.0, n.ensures.many), rowed_more (transfer_row (square a) s.diagonal.now s.damping s.groups.size s.groups.ids.now s.groups.coarse) l.i l.at n.result l.pointers l.columns n.new.columns l.weights n.new.weights l.invariant.1 _ v.new.w n.ensures k.0 k.1 (omega (arith, c.requires.room, length-set c.args.pointers.now 0 0)))

pub returns : goal.returns
unfolding transfer_of
returns c =
    let s = c.args.s.now in
    let a = s.a in
    let l = c.loop-i in
    let e : l.i ≡ a.rows = omega arith in
    let b : l.at ≤ a.rows + length a.values.now = omega (arith, l.invariant.0, e, ap (λ k. get_or a.row_ptr.now k 0) e, a.fits.last) in
    rowed_all (transfer_row (square a) s.diagonal.now s.damping s.groups.size s.groups.ids.now s.groups.coarse) a.rows l.at l.pointers l.columns l.weights (rw e at l.invariant.1) (omega (arith, c.requires.room, length-set c.args.pointers.now 0 0)) (omega (arith, b, c.requires.room)) (omega (arith, b, c.requires.room))
