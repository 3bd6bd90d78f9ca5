-- The neighbour lists, then the room.
use Rattle.std.proofs.lemmas.Result.{err_from_is_err_and}
use mathlib.Core.Path.{refl}
use native.Mathlib.Omega.{arith}
use Rattle.std.proofs.lemmas.Bool.Decides.{nat_tests}
use Rattle.definitions.specs.Refusal.{require, ◌>>=◌}
use Rattle.aggregates.proofs.checks.Order.{call_is}
use Rattle.aggregates.proofs.checks.check.Goals as goal

pub returns-in_err-lists : goal.returns-in_err-lists
unfolding ◌>>=◌
returns-in_err-lists c =
    let a = c.args in
    let p = err_from_is_err_and c.from_residual.result c.from_residual.ensures.1 in
    rw (p.1, p.2) (rw (call_is a.nodes a.size a.offsets.now a.neighbours.now a.room a.work, c.in_err-lists.ensures) refl)

pub returns-then-room-nodes : goal.returns-then-room-nodes
unfolding require ◌>>=◌
returns-then-room-nodes c =
    let a = c.args in
    rw (call_is a.nodes a.size a.offsets.now a.neighbours.now a.room a.work, c.in_ok-lists.ensures.0) (grind (arith, nat_tests))

pub returns : goal.returns
unfolding require ◌>>=◌
returns c =
    let a = c.args in
    let l = c.in_ok-lists.ensures in
    (rw (call_is a.nodes a.size a.offsets.now a.neighbours.now a.room a.work, l.0) (grind (arith, nat_tests)), l.1, l.2, omega arith, omega arith)
