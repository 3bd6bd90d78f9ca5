-- One row more.
use native.Mathlib.Omega.{arith}
use lib.ListN.{length}
use Rattle.csr32.specs.Seen.{square}
use Rattle.coarse_matrix.specs.Galerkin.{weights_of}
use Rattle.coarse_matrix.proofs.Product.{rows_first, rows_more}
use Rattle.coarse_matrix.proofs.galerkin.add_all.Goals as goal

pub loop-r-init : goal.loop-r-init
loop-r-init c =
    let a = c.args in
    let t = a.m.now.transfer in
    rows_first (square a.m.now.a) (weights_of t) t.cols (length a.stamps.now) a.stamps.now a.coarse.now c.requires.cleared.0 (omega (arith, c.requires.long)) c.requires.cleared.1

pub loop-r-preserved : goal.loop-r-preserved
loop-r-preserved c =
    let a = c.args in
    let t = a.m.now.transfer in
    let l = c.loop-r in
    let d = c.add_to_coarse in
    rows_more (square a.m.now.a) (weights_of t) t.cols l.r l.stamps d.new.stamps l.coarse d.new.coarse l.invariant d.ensures
