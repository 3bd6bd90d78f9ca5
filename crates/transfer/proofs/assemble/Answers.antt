-- The rows are built; zeros put behind them pad both lists.
use Prim.Native.Nat.{◌+◌}
use mathlib.Core.List.{◌++◌}
use native.Mathlib.Omega.{arith}
use lib.Seq.{length-take-le}
use lib.ListN.{drop, length-append, length-drop}
use Rattle.definitions.specs.Transfer.{transfer_of}
use Rattle.csr32.specs.Seen.{square}
use Rattle.transfer.proofs.Calling.{all_done}
use Rattle.transfer.proofs.assemble.Goals as goal

pub returns : goal.returns
returns c =
    let s = c.args.s.now in
    let b = c.build-n in
    let n = b.new in
    let i = c.split_at_mut-pointers.ensures in
    let k = c.split_at_mut-columns.ensures in
    let f = c.split_at_mut-weights.ensures in
    let behind = n.t ++ drop s.groups.coarse c.split_at_mut-columns.result.1.now in
    let past = n.w ++ drop s.groups.coarse c.split_at_mut-weights.result.1.now in
    all_done (transfer_of (square s.a) s.diagonal.now s.damping s.groups.size s.groups.ids.now s.groups.coarse) (s.a.rows + 1) b.result
    c.args.ints.now n.pointers n.columns behind c.fill.new.self c.args.floats.now n.weights past c.fill-2.new.self b.ensures
    (omega (arith, b.auto.pointers, i.front_len))
    (omega (arith, length-append n.pointers (n.columns ++ behind), length-append n.columns behind, length-append n.t (drop s.groups.coarse c.split_at_mut-columns.result.1.now), length-drop s.groups.coarse c.split_at_mut-columns.result.1.now, b.auto.pointers, b.auto.columns, b.auto.t, length-take-le s.groups.coarse c.split_at_mut-columns.result.1.now, i.front_len, i.back_len, k.front_len, k.back_len))
    (omega (arith, length-append n.weights past, length-append n.w (drop s.groups.coarse c.split_at_mut-weights.result.1.now), length-drop s.groups.coarse c.split_at_mut-weights.result.1.now, b.auto.weights, b.auto.w, length-take-le s.groups.coarse c.split_at_mut-weights.result.1.now, f.front_len, f.back_len))
    (c.fill.ensures.after (λ y e. e)) (c.fill-2.ensures.after (λ y e. e))
