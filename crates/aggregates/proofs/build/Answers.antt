-- `build`: growth, joining, renumbering.
use Rattle.aggregates.proofs.Stages.{grown_joins, built_after}
use Rattle.aggregates.proofs.build.Goals as goal

pub settle-counts-requires-clause-joins : goal.settle-counts-requires-clause-joins
settle-counts-requires-clause-joins c =
    let a = c.args in
    let s = a.lists.now in
    let g = c.grow_all-groups in
    grown_joins s.nodes a.size s.offsets.now s.neighbours.now c.requires.sized.0 g.result g.new.ids g.ensures.grown s.fit s.few g.ensures.upper_bound

pub returns-clause-built : goal.returns-clause-built
returns-clause-built c =
    let a = c.args in
    let s = a.lists.now in
    let g = c.grow_all-groups in
    let k = c.settle-counts in
    built_after s.nodes a.size s.offsets.now s.neighbours.now c.requires.sized.0 g.result g.new.ids g.ensures.grown c.floor_of-floor.result k.result.groups k.result.joinings k.new.ids a.log.now k.new.log c.floor_of-floor.ensures k.ensures
