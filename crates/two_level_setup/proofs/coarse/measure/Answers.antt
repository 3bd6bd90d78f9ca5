-- The count is at most the square's numbers.
use Rattle.coarse_matrix.proofs.Zeros.{nonzeros_few}
use Prim.Native.Nat.{◌+◌, ◌*◌, ◌≤◌}
use mathlib.Core.Path.{◌≡◌}
use Rattle.definitions.specs.Numbers.{nonzeros}
use lib.ListN.{take}
use lib.Seq.{length-take-le}
use Rattle.layout.proofs.Sizes.{whole_fits}
use native.Mathlib.Omega.{arith}
use Rattle.two_level_setup.proofs.coarse.measure.Goals as goal

pub overflow_add-result : goal.overflow_add-result
overflow_add-result c =
    let a = c.args in
    let p = c.requires in
    let n = a.setup.coarse * a.setup.coarse in
    let k : c.nonzeros-count.result ≡ nonzeros (take n a.work.now) = c.nonzeros-count.ensures in
    let h : a.entries + c.nonzeros-count.result ≤ 20_971_520 = omega (arith, p.0, whole_fits a.setup.coarse p.1, k, nonzeros_few (take n a.work.now), length-take-le n a.work.now p.2) in
    record { fits = omega (arith, h) }
