-- `move_group`: the chain of g is relabelled, and put before that of b.
use mathlib.Core.Path.{refl}
use native.Mathlib.Omega.{arith}
use lib.ListN.{length}
use Rattle.aggregates.specs.JoinState.{chains, members_of, moved}
use Rattle.aggregates.proofs.joining.Moving.{move_last}
use Rattle.aggregates.proofs.joining.move_group.Goals as goal

pub relabel_chain-last-requires : goal.relabel_chain-last-requires
unfolding members_of
relabel_chain-last-requires c = record { nodes = c.requires.nexts; within = c.requires.nodes }

pub bounds-next-last : goal.bounds-next-last
bounds-next-last c =
    let a = c.args in
    omega (arith, c.requires.nexts, c.relabel_chain-last.ensures.last c.requires.some, move_last (length a.ids.now) (chains a.next.now a.first.now a.counts.now) a.g a.b c.requires)

pub returns-clause-joined : goal.returns-clause-joined
unfolding members_of
returns-clause-joined c = c.relabel_chain-last.ensures.joined

pub returns-clause-linked : goal.returns-clause-linked
unfolding moved
returns-clause-linked c = rw (c.relabel_chain-last.ensures.last c.requires.some) refl
