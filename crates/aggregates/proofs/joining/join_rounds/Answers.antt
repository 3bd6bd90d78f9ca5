-- `join_rounds`: rounds until one joins nothing.
use mathlib.Core.Path.{◌≡◌, refl}
use native.Mathlib.Omega.{arith}
use Prim.Native.Nat.{◌-◌}
use lib.ListN.{length}
use Rattle.std.specs.Int.{from_bool}
use Rattle.aggregates.specs.JoinState.{chains, state_of}
use Rattle.aggregates.proofs.joining.Rounds.{first_round, first_turn, next_turn, round_less, next_round, last_round}
use Rattle.aggregates.proofs.joining.join_rounds.Goals as goal

pub rounds-init : goal.rounds-init
rounds-init c =
    let a = c.args in
    record { between = first_round a.lists.now.nodes a.groups a.lists.now.offsets.now a.lists.now.neighbours.now (state_of a.groups a.ids.now (chains a.next.now a.first.now a.counts.now)) a.floor a.log.now a.ids.now (chains a.next.now a.first.now a.counts.now) refl c.requires.rep c.requires.none; zeros = c.requires.zeros }

pub loop-g-init : goal.loop-g-init
loop-g-init c =
    let a = c.args in
    let r = c.rounds in
    record { turns = first_turn a.lists.now.nodes a.groups a.lists.now.offsets.now a.lists.now.neighbours.now (state_of a.groups r.ids (chains r.next r.first r.counts)) a.floor r.log r.made r.ids (chains r.next r.first r.counts) refl r.invariant.between.rep r.invariant.between.none; zeros = r.invariant.zeros }

pub loop-g-preserved : goal.loop-g-preserved
loop-g-preserved c =
    let a = c.args in
    let l = c.loop-g in
    let r = c.rounds in
    let j = c.join_one-joined in
    let held : length l.counts - 1 ≡ a.groups = omega (arith, l.invariant.turns.rep.sizes) in
    record {
      turns = rw c.from-made.ensures (next_turn a.lists.now.nodes a.groups a.lists.now.offsets.now a.lists.now.neighbours.now (state_of a.groups r.ids (chains r.next r.first r.counts)) a.floor r.log r.made l.ids (chains l.next l.first l.counts) l.log j.new.ids (chains j.new.next j.new.first j.new.counts) j.new.log l.made l.g (from_bool j.result) l.invariant.turns (omega arith) (rw held at j.ensures.turned) (rw held at j.ensures.log_after));
      zeros = rw j.ensures.hits_unchanged l.invariant.zeros;
    }

pub rounds-smaller : goal.rounds-smaller
rounds-smaller c =
    let a = c.args in
    let l = c.loop-g in
    let r = c.rounds in
    round_less a.lists.now.nodes a.groups a.lists.now.offsets.now a.lists.now.neighbours.now (state_of a.groups a.ids.now (chains a.next.now a.first.now a.counts.now)) a.floor a.log.now r.ids (chains r.next r.first r.counts) r.log l.ids (chains l.next l.first l.counts) l.log r.made l.made l.g r.invariant.between l.invariant.turns (omega arith) (λ z. omega (arith, c.if-made-before.false))

pub rounds-preserved : goal.rounds-preserved
rounds-preserved c =
    let a = c.args in
    let l = c.loop-g in
    let r = c.rounds in
    record { between = next_round a.lists.now.nodes a.groups a.lists.now.offsets.now a.lists.now.neighbours.now (state_of a.groups a.ids.now (chains a.next.now a.first.now a.counts.now)) a.floor a.log.now r.ids (chains r.next r.first r.counts) r.log l.ids (chains l.next l.first l.counts) l.log r.made l.made l.g r.invariant.between l.invariant.turns (omega arith) (λ z. omega (arith, c.if-made-before.false)); zeros = l.invariant.zeros }

pub returns-then-made-before : goal.returns-then-made-before
returns-then-made-before c =
    let a = c.args in
    let l = c.loop-g in
    let r = c.rounds in
    last_round a.lists.now.nodes a.groups a.lists.now.offsets.now a.lists.now.neighbours.now (state_of a.groups a.ids.now (chains a.next.now a.first.now a.counts.now)) a.floor a.log.now r.ids (chains r.next r.first r.counts) r.log l.ids (chains l.next l.first l.counts) l.log r.made l.made l.g r.invariant.between l.invariant.turns (omega arith) c.if-made-before.true a.ids.now c.requires.grown
