-- The weights read the diagonal that the damping factor left, and the record is filled with both numbers.
use Rattle.two_level_setup.specs.Memory.{lists}
use Rattle.two_level_setup.proofs.Bases.{damping_fits, placed_of, estimate_refused, smoothed_built}
use Rattle.two_level_setup.specs.Stages.{filled}
use Rattle.two_level_setup.specs.Promises.{room_in}
use Rattle.csr32.specs.Seen.{lent}
use mathlib.Core.Path.{refl}
use Rattle.std.proofs.lemmas.Result.{err_from_is_err_and}
use Rattle.two_level_setup.proofs.basis.smoothed.Goals as goal

pub damping-requires : goal.damping-requires
damping-requires c =
    let a = c.args in
    let h = c.requires in
    let room = room_in (lists a.memory.now) in
    let q = placed_of (lent a.a.now) a.setup room h.ample _ c.places-p.ensures in
    rw q.weights (damping_fits (lent a.a.now) a.setup room h.ample _ refl)

pub weights-count-requires-clause-basis_value : goal.weights-count-requires-clause-basis_value
weights-count-requires-clause-basis_value c =
    let a = c.args in
    let h = c.requires in
    (h.basis_value, placed_of (lent a.a.now) a.setup (room_in (lists a.memory.now)) h.ample _ c.places-p.ensures)

pub returns-in_err-found-clause-built : goal.returns-in_err-found-clause-built
returns-in_err-found-clause-built c =
    let a = c.args in
    let h = c.requires in
    let d = c.damping in
    let q = placed_of (lent a.a.now) a.setup (room_in (lists a.memory.now)) h.ample _ c.places-p.ensures in
    let p = err_from_is_err_and c.from_residual.result c.from_residual.ensures.1 in
    rw (p.1, p.2) (estimate_refused (lent a.a.now) a.setup (lists a.memory.now) h.basis_value _ d.new.floats d.new.work (rw q.weights at c.in_err-found.ensures) _ _ refl)

pub returns-clause-built : goal.returns-clause-built
unfolding filled
returns-clause-built c =
    let a = c.args in
    let h = c.requires in
    let d = c.damping in
    let w = c.weights-count in
    let q = placed_of (lent a.a.now) a.setup (room_in (lists a.memory.now)) h.ample _ c.places-p.ensures in
    smoothed_built (lent a.a.now) a.setup (lists a.memory.now) h.basis_value _ d.new.floats d.new.work (rw q.weights at c.in_ok-found.ensures) _ refl d.auto.floats d.auto.work w.result _ w.ensures.placed _ refl
