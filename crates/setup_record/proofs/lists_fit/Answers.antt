-- The integers are enough for the groups' ids.
use mathlib.Core.Path.{sym}
use Prim.Native.Nat.{◌≤◌}
use native.Mathlib.Omega.{arith}
use lib.ListN.{length}
use lib.Seq.{length-take-le}
use Rattle.layout.proofs.Sizes.{at}
use Rattle.setup_record.proofs.Limits.{ids_room}
use Rattle.setup_record.proofs.lists_fit.Goals as goal

pub slice_bounds-all_below-end : goal.slice_bounds-all_below-end
slice_bounds-all_below-end c =
    let a = c.args in
    let p = at a.s a.p c.requires.1 in
    let room : a.p.ints ≤ length a.ints.now = omega arith in
    sym (length-take-le a.p.pointers a.ints.now (rw p.pointers (ids_room a.s.basis a.s _ (rw (← p.ints) room))))
