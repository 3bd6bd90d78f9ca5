-- After joining the numbers are still those of groups.
use Prim.Native.Nat.{◌+◌}
use native.Mathlib.Omega.{arith}
use lib.Seq.{length-take-le}
use Rattle.aggregates.proofs.Stages.{joined_upto}
use Rattle.aggregates.proofs.settle.Goals as goal

pub renumber-count-requires-clause-upto : goal.renumber-count-requires-clause-upto
renumber-count-requires-clause-upto c v h =
    let a = c.args in
    let s = a.lists.now in
    let j = c.join_groups-joinings in
    omega (arith, joined_upto s.nodes a.groups a.floor s.offsets.now s.neighbours.now a.ids.now j.new.ids c.requires.joins j.ensures.groups_after v, length-take-le (a.groups + 1) j.new.room (omega (arith, j.auto.room, c.requires.space, c.requires.joins.few)))
