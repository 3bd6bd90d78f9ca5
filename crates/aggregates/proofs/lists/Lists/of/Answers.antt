-- The list of v lies within the neighbours.
use Prim.Native.Nat.{◌+◌, ◌≤◌}
use lib.ListN.{get_or}
use native.Mathlib.Omega.{arith}
use native.Mathlib.Numerals.{add-one}
use Rattle.definitions.specs.Groups.{listed}
use Rattle.aggregates.proofs.NodeLists.{offset_within, part_is}
use Rattle.aggregates.proofs.lists.Lists.of.Goals as goal

pub slice_bounds-result-end : goal.slice_bounds-result-end
slice_bounds-result-end c =
    let s = c.args.self.now in
    let rises : get_or s.offsets.now c.args.v 0 ≤ get_or s.offsets.now (c.args.v + 1) 0 = rw (add-one c.args.v) (s.fit.rises c.args.v c.requires) in
    omega (arith, rises, offset_within s.nodes s.offsets.now s.neighbours.now s.fit (c.args.v + 1) (omega arith))

pub returns : goal.returns
unfolding listed
returns c =
    let s = c.args.self.now in
    let rises : get_or s.offsets.now c.args.v 0 ≤ get_or s.offsets.now (c.args.v + 1) 0 = rw (add-one c.args.v) (s.fit.rises c.args.v c.requires) in
    rw (← add-one c.args.v) (part_is _ _ _ rises)
