-- `join_groups`: the chains of the grown groups, then the rounds.
use mathlib.Core.Path.{◌∙◌, ap}
use native.Mathlib.Omega.{arith}
use Rattle.aggregates.specs.JoinState.{chains}
use Rattle.definitions.specs.Groups.{size_in}
use Rattle.aggregates.proofs.joining.Begun.{begun_rep, begun_state}
use Rattle.aggregates.proofs.joining.join_groups.Goals as goal

pub join_rounds-requires-clause-rep : goal.join_rounds-requires-clause-rep
join_rounds-requires-clause-rep c =
    let a = c.args in
    let k = c.link.new in
    begun_rep a.lists.now.nodes a.groups a.lists.now.offsets.now a.lists.now.neighbours.now a.ids.now c.requires.joins (chains k.next k.first k.counts) (omega arith) (omega arith) (omega arith) (λ o h. c.link.ensures o (omega arith))

pub join_rounds-requires-clause-grown : goal.join_rounds-requires-clause-grown
join_rounds-requires-clause-grown c =
    let a = c.args in
    let k = c.link.new in
    begun_state a.lists.now.nodes a.groups a.lists.now.offsets.now a.lists.now.neighbours.now a.ids.now c.requires.joins (chains k.next k.first k.counts) (omega arith) (omega arith) (omega arith) (λ o h. c.link.ensures o (omega arith))

pub join_rounds-requires-clause-none : goal.join_rounds-requires-clause-none
join_rounds-requires-clause-none c =
    let a = c.args in
    let k = c.link.new in
    ap (λ s. size_in s 0) (begun_state a.lists.now.nodes a.groups a.lists.now.offsets.now a.lists.now.neighbours.now a.ids.now c.requires.joins (chains k.next k.first k.counts) (omega arith) (omega arith) (omega arith) (λ o h. c.link.ensures o (omega arith))) ∙ c.requires.joins.none
