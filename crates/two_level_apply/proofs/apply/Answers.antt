-- Each way out is one of the four checks that fails, or the correction.
use native.Mathlib.Omega.{arith}
use Rattle.setup_record.proofs.Misfits.{misfit_tells}
use Rattle.two_level_apply.proofs.Parts.{laid, bounds}
use Rattle.two_level_apply.proofs.Calls.{residual_wrong, correction_wrong, misfit, work_short, corrected}
use Rattle.two_level_apply.proofs.apply.Goals as goal

pub returns-then-given-rows : goal.returns-then-given-rows
returns-then-given-rows c = let a = c.args in residual_wrong a.setup a.ints.now a.floats.now a.residual.now a.correction.now a.work.now c.if-given-rows.true

pub returns-then-room-rows : goal.returns-then-room-rows
returns-then-room-rows c = let a = c.args in correction_wrong a.setup a.ints.now a.floats.now a.residual.now a.correction.now a.work.now c.if-given-rows.false c.if-room-rows.true

pub returns-in_default : goal.returns-in_default
returns-in_default c =
    let a = c.args in
    misfit a.setup a.ints.now a.floats.now a.residual.now a.correction.now a.work.now c.if-given-rows.false c.if-room-rows.false (misfit_tells a.setup a.ints.now a.floats.now _ c.setup_fits.ensures c.in_default.is)

pub overflow_mul-setup : goal.overflow_mul-setup
overflow_mul-setup c =
    let a = c.args in
    omega (arith, bounds a.setup _ a.ints.now a.floats.now (laid a.setup a.ints.now a.floats.now _ c.setup_fits.ensures _ c.in-Some.is))

pub returns-then-work-setup : goal.returns-then-work-setup
returns-then-work-setup c =
    let a = c.args in
    let l = laid a.setup a.ints.now a.floats.now _ c.setup_fits.ensures _ c.in-Some.is in
    work_short a.setup a.ints.now a.floats.now a.residual.now a.correction.now a.work.now c.if-given-rows.false c.if-room-rows.false l.fits c.if-work-setup.true

pub invariant_of-preconditioner : goal.invariant_of-preconditioner
invariant_of-preconditioner c = let a = c.args in record { laid = laid a.setup a.ints.now a.floats.now _ c.setup_fits.ensures _ c.in-Some.is }

pub returns : goal.returns
returns c =
    let a = c.args in
    let l = laid a.setup a.ints.now a.floats.now _ c.setup_fits.ensures _ c.in-Some.is in
    corrected a.setup a.ints.now a.floats.now a.residual.now a.correction.now a.work.now c.if-given-rows.false c.if-room-rows.false l.fits c.if-work-setup.false _ _ c.correct.ensures.correction_after c.correct.ensures.work_after
