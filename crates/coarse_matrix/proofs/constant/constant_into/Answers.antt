-- All rows into zeros, averaged.
use mathlib.Core.List.{◌++◌}
use mathlib.Core.Path.{refl}
use Prim.Native.Nat.{◌*◌}
use lib.ListN.{drop, get_or}
use Rattle.definitions.specs.Transfer.{coarse_column}
use Rattle.csr32.specs.Seen.{square}
use Rattle.coarse_matrix.proofs.Squares.{constant_law}
use Rattle.coarse_matrix.proofs.constant.constant_into.Goals as goal

pub returns : goal.returns
returns c =
    let m = c.args.m.now in
    let a = m.a in
    let n = m.groups.coarse in
    let z = c.fill.new.self in
    let d = c.add_matrix in
    let g = rw m.same_rows at m.groups.grouped in
    constant_law (square a) n (coarse_column m.groups.size m.groups.ids.now) (λ k h. g.within (get_or a.col_idx.now k 0) (a.fits.within k h))
    c.args.coarse.now z d.new.coarse (d.new.coarse ++ drop (n * n) z) c.average.new.m g.small c.requires
    (c.fill.ensures.after (λ y e. e)) d.ensures refl c.average.ensures.1
