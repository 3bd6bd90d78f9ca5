-- `grow_all` goes through the nodes.
use Rattle.definitions.specs.Groups.{listed}
use Rattle.aggregates.proofs.growth.Seeding.{seeding_passes, seeding_grows, seeding_last}
use Rattle.aggregates.proofs.growth.grow_all.Goals as goal
use Rattle.aggregates.proofs.growth.grow_all.Goals.{then-ids-v-eq0, else-ids-v-eq0}

pub loop-v-preserved : goal.loop-v-preserved
loop-v-preserved c =
    let s = c.args.lists.now in
    let l = c.loop-v in
    elim c.if-ids-v-eq0.branch [
      | then-ids-v-eq0 w ↦ rw (w.ids-is, w.g-is) (seeding_grows (listed s.offsets.now s.neighbours.now) s.nodes c.args.ids.now c.args.size l.ids l.g l.v l.invariant c.loop-v-test.true w.grow_group.new.ids w.if-ids-v-eq0.true w.grow_group.ensures)
      | else-ids-v-eq0 w ↦ rw (w.ids-is, w.g-is) (seeding_passes (listed s.offsets.now s.neighbours.now) s.nodes c.args.ids.now c.args.size l.ids l.g l.v l.invariant c.loop-v-test.true w.if-ids-v-eq0.false)
    ]

pub returns-clause-grown : goal.returns-clause-grown
returns-clause-grown c =
    let s = c.args.lists.now in
    let l = c.loop-v in
    seeding_last (listed s.offsets.now s.neighbours.now) s.nodes c.args.ids.now c.args.size l.ids l.g l.v l.invariant c.loop-v-test.false c.requires.blank
