-- The neighbour lists as far as the list goes, then the room below them.
use Rattle.std.proofs.lemmas.Result.{err_from_is_err_and}
use mathlib.Core.Path.{refl}
use native.Mathlib.Omega.{arith}
use Rattle.std.proofs.lemmas.Bool.Decides.{nat_tests}
use Rattle.definitions.specs.Refusal.{require, ◌>>=◌}
use Rattle.aggregates.specs.Within.{lists_call, stored_checks}
use Rattle.aggregates.proofs.checks.Cut.{offsets_are, neighbours_are}
use Rattle.aggregates.proofs.checks.check_stored.Goals as goal

pub returns-then-nodes-gt-MAX_ROWS : goal.returns-then-nodes-gt-MAX_ROWS
unfolding stored_checks lists_call require ◌>>=◌
returns-then-nodes-gt-MAX_ROWS c = grind (arith, nat_tests)

pub returns-in_err-lists : goal.returns-in_err-lists
unfolding stored_checks ◌>>=◌
returns-in_err-lists c =
    let a = c.args in
    let o = offsets_are a.nodes a.stored.now c.get.result c.min.ensures c.split_at.ensures.front c.split_at.ensures.back c.get.ensures.lookup c.copied.ensures c.unwrap_or-count.ensures c.min-2.ensures in
    let nb = neighbours_are a.nodes a.stored.now c.get.result c.min.ensures c.split_at.ensures.front c.split_at.ensures.back c.get.ensures.lookup c.copied.ensures c.unwrap_or-count.ensures c.min-2.ensures in
    let p = err_from_is_err_and c.from_residual.result c.from_residual.ensures.1 in
    rw (p.1, p.2) (rw (rw (o, nb) at c.in_err-lists.ensures) refl)

pub returns-then-below-nodes : goal.returns-then-below-nodes
unfolding stored_checks require ◌>>=◌
returns-then-below-nodes c =
    let a = c.args in
    let o = offsets_are a.nodes a.stored.now c.get.result c.min.ensures c.split_at.ensures.front c.split_at.ensures.back c.get.ensures.lookup c.copied.ensures c.unwrap_or-count.ensures c.min-2.ensures in
    let nb = neighbours_are a.nodes a.stored.now c.get.result c.min.ensures c.split_at.ensures.front c.split_at.ensures.back c.get.ensures.lookup c.copied.ensures c.unwrap_or-count.ensures c.min-2.ensures in
    rw (rw (o, nb) at c.in_ok-lists.ensures.0) (rw (← nb) (grind (arith, nat_tests)))

pub returns : goal.returns
unfolding stored_checks require ◌>>=◌
returns c =
    let a = c.args in
    let o = offsets_are a.nodes a.stored.now c.get.result c.min.ensures c.split_at.ensures.front c.split_at.ensures.back c.get.ensures.lookup c.copied.ensures c.unwrap_or-count.ensures c.min-2.ensures in
    let nb = neighbours_are a.nodes a.stored.now c.get.result c.min.ensures c.split_at.ensures.front c.split_at.ensures.back c.get.ensures.lookup c.copied.ensures c.unwrap_or-count.ensures c.min-2.ensures in
    let l = rw (o, nb) at c.in_ok-lists.ensures in
    (rw l.0 (rw (← nb) (grind (arith, nat_tests))), l.1, l.2, rw (← nb) (omega arith))
