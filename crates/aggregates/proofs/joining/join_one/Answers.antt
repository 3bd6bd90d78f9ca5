-- `join_one`: `gather`, `choose_group`, `log_joining` and `move_group` make the turn of the definitions.
use mathlib.Core.Path.{refl, ◌∙◌}
use native.Mathlib.Omega.{arith}
use Prim.Native.Nat.{◌-◌, ◌<◌}
use lib.ListN.{length, get_or}
use Rattle.aggregates.specs.JoinState.{chains}
use Rattle.aggregates.proofs.joining.Whole.{turn_empty, turn_large, asks_gather, named_few, named_within, turn_none, asks_log, turn_logged, asks_move, turn_moved}
use Rattle.aggregates.proofs.joining.join_one.Goals as goal
use Rattle.aggregates.proofs.joining.join_one.Goals.{then-size-eq0-via-then-size-eq0, then-size-eq0-via-else-size-eq0+then-floor-size}

pub returns-then-size-eq0 : goal.returns-then-size-eq0
returns-then-size-eq0 c =
    let a = c.args in
    elim c.then-size-eq0.branch [
      | then-size-eq0-via-then-size-eq0 w ↦ (let t = turn_empty a.lists.now.nodes (length a.counts.now - 1) a.lists.now.offsets.now a.lists.now.neighbours.now a.ids.now (chains a.next.now a.first.now a.counts.now) c.requires.turn.rep a.floor a.g c.requires.turn.own w.if-size-eq0.true in record { turned = t.0; hits_unchanged = refl; log_after = t.1 a.made a.log.now })
      | then-size-eq0-via-else-size-eq0+then-floor-size w ↦ (let t = turn_large a.lists.now.nodes (length a.counts.now - 1) a.lists.now.offsets.now a.lists.now.neighbours.now a.ids.now (chains a.next.now a.first.now a.counts.now) c.requires.turn.rep a.floor a.g c.requires.turn.own w.if-size-eq0.false (omega (arith, w.if-floor-size.true)) in record { turned = t.0; hits_unchanged = refl; log_after = t.1 a.made a.log.now })
    ]

pub gather-end-requires-clause-gathers : goal.gather-end-requires-clause-gathers
gather-end-requires-clause-gathers c = let a = c.args in asks_gather a.lists.now.nodes (length a.counts.now - 1) a.lists.now.offsets.now a.lists.now.neighbours.now a.ids.now (chains a.next.now a.first.now a.counts.now) c.requires.turn.rep a.floor a.g c.requires.turn.own (length a.names.now) c.requires.space

pub choose_group-b-requires-clause-few : goal.choose_group-b-requires-clause-few
choose_group-b-requires-clause-few c = let a = c.args in rw c.gather-end.ensures.named (omega (arith, named_few a.lists.now.nodes (length a.counts.now - 1) a.lists.now.offsets.now a.lists.now.neighbours.now a.ids.now (chains a.next.now a.first.now a.counts.now) c.requires.turn.rep a.floor a.g c.requires.turn.own, c.requires.turn.rep.small))

pub choose_group-b-requires-clause-within : goal.choose_group-b-requires-clause-within
choose_group-b-requires-clause-within c = let a = c.args in rw c.gather-end.ensures.named (named_within a.lists.now.nodes (length a.counts.now - 1) a.lists.now.offsets.now a.lists.now.neighbours.now a.ids.now (chains a.next.now a.first.now a.counts.now) c.requires.turn.rep a.floor a.g c.requires.turn.own a.hits.now c.requires.counted)

pub returns-then-b-eq0 : goal.returns-then-b-eq0
returns-then-b-eq0 c =
    let a = c.args in
    let some : 0 < get_or a.counts.now a.g 0 = omega (arith, c.if-size-eq0.false) in
    let low : get_or a.counts.now a.g 0 < a.floor = omega (arith, c.if-floor-size.false) in
    let choice = rw c.gather-end.ensures.named at c.choose_group-b.ensures.value in
    let t = turn_none a.lists.now.nodes (length a.counts.now - 1) a.lists.now.offsets.now a.lists.now.neighbours.now a.ids.now (chains a.next.now a.first.now a.counts.now) c.requires.turn.rep a.floor a.g c.requires.turn.own some low c.choose_group-b.result choice c.if-b-eq0.true in
    record { turned = t.0; hits_unchanged = c.choose_group-b.ensures.unchanged; log_after = t.1 a.made a.log.now }

pub log_joining-requires-clause-rules : goal.log_joining-requires-clause-rules
log_joining-requires-clause-rules c =
    let a = c.args in
    let some : 0 < get_or a.counts.now a.g 0 = omega (arith, c.if-size-eq0.false) in
    let low : get_or a.counts.now a.g 0 < a.floor = omega (arith, c.if-floor-size.false) in
    let choice = rw c.gather-end.ensures.named at c.choose_group-b.ensures.value in
    rw (c.gather-end.ensures.named, c.choose_group-b.ensures.unchanged) (asks_log a.lists.now.nodes (length a.counts.now - 1) a.lists.now.offsets.now a.lists.now.neighbours.now a.ids.now (chains a.next.now a.first.now a.counts.now) c.requires.turn.rep a.floor a.g c.requires.turn.own some low c.choose_group-b.result choice c.if-b-eq0.false a.hits.now c.requires.counted c.requires.zeros)

pub move_group-requires : goal.move_group-requires
move_group-requires c =
    let a = c.args in
    let some : 0 < get_or a.counts.now a.g 0 = omega (arith, c.if-size-eq0.false) in
    let low : get_or a.counts.now a.g 0 < a.floor = omega (arith, c.if-floor-size.false) in
    let choice = rw c.gather-end.ensures.named at c.choose_group-b.ensures.value in
    rw c.requires.turn.rep.nodes (asks_move a.lists.now.nodes (length a.counts.now - 1) a.lists.now.offsets.now a.lists.now.neighbours.now a.ids.now (chains a.next.now a.first.now a.counts.now) c.requires.turn.rep a.floor a.g c.requires.turn.own some low c.choose_group-b.result choice c.if-b-eq0.false)

pub returns : goal.returns
returns c =
    let a = c.args in
    let some : 0 < get_or a.counts.now a.g 0 = omega (arith, c.if-size-eq0.false) in
    let low : get_or a.counts.now a.g 0 < a.floor = omega (arith, c.if-floor-size.false) in
    let choice = rw c.gather-end.ensures.named at c.choose_group-b.ensures.value in
    record {
      turned = turn_moved a.lists.now.nodes (length a.counts.now - 1) a.lists.now.offsets.now a.lists.now.neighbours.now a.ids.now (chains a.next.now a.first.now a.counts.now) c.requires.turn.rep a.floor a.g c.requires.turn.own some low c.choose_group-b.result choice c.if-b-eq0.false _ _ c.move_group.ensures.joined c.move_group.ensures.linked;
      hits_unchanged = c.log_joining.ensures.unchanged ∙ c.choose_group-b.ensures.unchanged;
      log_after = (rw c.gather-end.ensures.named at c.log_joining.ensures.log_after) ∙ turn_logged a.lists.now.nodes (length a.counts.now - 1) a.lists.now.offsets.now a.lists.now.neighbours.now a.ids.now (chains a.next.now a.first.now a.counts.now) c.requires.turn.rep a.floor a.g c.requires.turn.own some low c.choose_group-b.result choice c.if-b-eq0.false c.requires.turn.none a.made a.log.now;
    }
