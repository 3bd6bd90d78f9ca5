-- What the sums hold, by the definition's row, and what their products with the row's weights add.
use Prim.Native.Nat.{suc, ◌+◌}
use mathlib.Core.Path.{◌≡◌}
use native.Mathlib.Omega.{arith}
use lib.ListN.{length}
use Rattle.csr32.specs.Seen.{square}
use Rattle.coarse_matrix.specs.Galerkin.{weights_of}
use Rattle.coarse_matrix.proofs.Product.{room_first, row_below, row_law}
use Rattle.coarse_matrix.proofs.galerkin.add_to_coarse.Goals as goal

pub add_row-count-requires-clause-room : goal.add_row-count-requires-clause-room
add_row-count-requires-clause-room c =
    let a = c.args in
    room_first a.m.now.transfer.cols (a.r + 1) a.stamps.now c.requires.long.0 (λ j q. omega (arith, c.requires.by_index j (omega (arith, c.requires.long))))

pub weigh_row-requires-clause-below : goal.weigh_row-requires-clause-below
weigh_row-requires-clause-below c =
    let a = c.args in
    let m = a.m.now in
    let t = m.transfer in
    let d = c.add_row-count in
    let lu : length d.new.sums ≡ t.cols = omega (arith, c.requires.long) in
    let s : a.r + 1 ≡ suc a.r = omega arith in
    rw lu (row_below (square m.a) (weights_of t) t.cols a.r (a.r + 1) a.stamps.now d.new.stamps a.touched.now d.new.touched a.sums.now d.new.sums a.coarse.now a.coarse.now d.result s
    (λ j q. c.requires.by_index j (omega (arith, c.requires.long))) (omega (arith, c.requires.long)) (omega (arith, c.requires.long)) c.requires.long.3 d.ensures)

pub returns : goal.returns
returns c =
    let a = c.args in
    let m = a.m.now in
    let t = m.transfer in
    let d = c.add_row-count in
    let s : a.r + 1 ≡ suc a.r = omega arith in
    row_law (square m.a) (weights_of t) t.cols a.r (a.r + 1) a.stamps.now d.new.stamps a.touched.now d.new.touched a.sums.now d.new.sums a.coarse.now c.weigh_row.new.coarse d.result s
    (λ j q. c.requires.by_index j (omega (arith, c.requires.long))) (omega (arith, c.requires.long)) (omega (arith, c.requires.long)) c.requires.long.3 d.ensures
    c.weigh_row.ensures
