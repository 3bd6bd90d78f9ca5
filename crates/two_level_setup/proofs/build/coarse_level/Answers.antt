-- Room, then the transfer, then the coarse part: each reads what the one before it leaves.
use Rattle.two_level_setup.specs.Memory.{lists}
use Rattle.two_level_setup.specs.Promises.{room_in}
use Rattle.two_level_setup.specs.Stages.{options_of}
use Rattle.two_level_setup.proofs.Lengths.{same_room}
use Rattle.two_level_setup.proofs.Rooms.{ample_of}
use Rattle.two_level_setup.proofs.Levels.{room_refused, level_refused, level_built}
use Rattle.two_level_setup.proofs.FineParts.{bounds}
use Rattle.csr32.specs.Seen.{lent}
use mathlib.Core.Path.{refl}
use Rattle.std.proofs.lemmas.Result.{err_from_is_err_and}
use Rattle.two_level_setup.proofs.build.coarse_level.Goals as goal

pub coarse_room-requires : goal.coarse_room-requires
coarse_room-requires c =
    let a = c.args in
    bounds (lent a.a.now) (options_of a.setup) c.requires.fit.front

pub transfer-requires : goal.transfer-requires
transfer-requires c =
    let a = c.args in
    let m = lent a.a.now in
    let h = c.requires in
    ample_of m a.setup (room_in (lists a.memory.now)) h.fit h.counted (rw c.room.ensures at (c.in_ok-coarse_room.ensures m refl refl))

pub coarse-requires : goal.coarse-requires
coarse-requires c =
    let a = c.args in
    let t = c.in_ok-filled.ensures in
    rw (same_room a.memory.now c.transfer.new.memory t.kept) (t.ample _ refl)

pub returns-in_err-coarse_room-clause-built : goal.returns-in_err-coarse_room-clause-built
returns-in_err-coarse_room-clause-built c =
    let a = c.args in
    let m = lent a.a.now in
    let x = lists a.memory.now in
    let p = err_from_is_err_and c.from_residual.result c.from_residual.ensures.1 in
    rw (p.1, p.2) (room_refused m a.setup (room_in x) x _ (rw c.room.ensures at (c.in_err-coarse_room.ensures m refl refl)) _ _ refl)

pub returns-in_err-filled-clause-built : goal.returns-in_err-filled-clause-built
returns-in_err-filled-clause-built c =
    let a = c.args in
    let m = lent a.a.now in
    let x = lists a.memory.now in
    let p = err_from_is_err_and c.from_residual-in_err-filled.result c.from_residual-in_err-filled.ensures.1 in
    rw (p.1, p.2) (level_refused m a.setup (room_in x) x _ (rw c.room.ensures at (c.in_ok-coarse_room.ensures m refl refl)) refl _ _ c.in_err-filled.ensures.built _ _ refl)

pub returns-clause-built : goal.returns-clause-built
returns-clause-built c =
    let a = c.args in
    let m = lent a.a.now in
    let x = lists a.memory.now in
    level_built m a.setup (room_in x) x _ (rw c.room.ensures at (c.in_ok-coarse_room.ensures m refl refl)) refl _ _ c.in_ok-filled.ensures.built _ _ _ refl c.coarse.ensures.built
