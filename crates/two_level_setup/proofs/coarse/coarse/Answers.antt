-- The fronts that are lent are long enough; behind them stand zeros, before and after.
use Rattle.two_level_setup.specs.Memory.{lists}
use Rattle.two_level_setup.proofs.CoarseParts.{stop_front, factor_fits, coarse_left}
use Rattle.csr32.specs.Seen.{lent}
use Rattle.two_level_setup.proofs.Bases.{placed_of}
use Rattle.two_level_setup.proofs.FineParts.{bounds}
use Rattle.two_level_setup.specs.Stages.{options_of, measured, filled}
use Rattle.layout.proofs.Sizes.{whole_fits}
use Rattle.two_level_setup.specs.Promises.{room_in}
use native.Mathlib.Omega.{arith}
use mathlib.Core.Path.{sym}
use Rattle.two_level_setup.proofs.coarse.coarse.Goals as goal

pub matrix-requires-clause-placed : goal.matrix-requires-clause-placed
matrix-requires-clause-placed c = let a = c.args in placed_of (lent a.a.now) a.setup (room_in (lists a.memory.now)) c.requires _ c.places-p.ensures

pub measure-measured-requires : goal.measure-measured-requires
measure-measured-requires c =
    let a = c.args in
    let w = c.requires in
    let m = c.matrix in
    let b = bounds (lent a.a.now) (options_of a.setup) w.front in
    let f = factor_fits (lent a.a.now) a.setup (lists a.memory.now) w m.new.work_ints m.new.work_floats m.auto.work_ints m.auto.work_floats in
    (b.entries_most, f.0, f.2)

pub overflow_add-stop : goal.overflow_add-stop
overflow_add-stop c =
    let a = c.args in
    let w = c.requires in
    let q = placed_of (lent a.a.now) a.setup (room_in (lists a.memory.now)) w _ c.places-p.ensures in
    let b = bounds (lent a.a.now) (options_of a.setup) w.front in
    omega (arith, q.coarse, w.counted.transfers, b.used, b.rows_most, b.entries_most, whole_fits a.setup.coarse w.small)

pub slice_bounds-factor-end : goal.slice_bounds-factor-end
slice_bounds-factor-end c =
    let a = c.args in
    let w = c.requires in
    let q = placed_of (lent a.a.now) a.setup (room_in (lists a.memory.now)) w _ c.places-p.ensures in
    omega (arith, q.coarse, w.floats, w.counted.transfers)

pub slice_bounds-factor-end-2 : goal.slice_bounds-factor-end-2
slice_bounds-factor-end-2 c =
    let a = c.args in
    let w = c.requires in
    let q = placed_of (lent a.a.now) a.setup (room_in (lists a.memory.now)) w _ c.places-p.ensures in
    let m = c.matrix in
    rw q.coarse (sym (stop_front (lent a.a.now) a.setup (lists a.memory.now) w m.new.work_ints m.new.work_floats m.auto.work_ints m.auto.work_floats))

pub factor-requires : goal.factor-requires
unfolding measured filled
factor-requires c =
    let a = c.args in
    let w = c.requires in
    let q = placed_of (lent a.a.now) a.setup (room_in (lists a.memory.now)) w _ c.places-p.ensures in
    let m = c.matrix in
    rw (c.measure-measured.ensures, q.coarse) (factor_fits (lent a.a.now) a.setup (lists a.memory.now) w m.new.work_ints m.new.work_floats m.auto.work_ints m.auto.work_floats)

pub returns-clause-built : goal.returns-clause-built
unfolding measured filled
returns-clause-built c =
    let a = c.args in
    let w = c.requires in
    let q = placed_of (lent a.a.now) a.setup (room_in (lists a.memory.now)) w _ c.places-p.ensures in
    let m = c.matrix in
    let f = c.factor in
    rw q.coarse (coarse_left (lent a.a.now) a.setup (lists a.memory.now) w m.new.work_ints m.new.work_floats m.auto.work_ints m.auto.work_floats f.result f.new.floats f.new.work (rw q.coarse at f.auto.floats) f.auto.work m.ensures (rw (c.measure-measured.ensures, q.coarse) at f.ensures))
