-- The blocks ask 1 to 8; once they are accepted no check of the grouping fails, and there are no more groups than nodes.
use Rattle.two_level_setup.specs.Memory.{lists}
use Rattle.two_level_setup.proofs.FineParts.{bounds, groups_most, groups_refused, groups_few, fine_built}
use Rattle.two_level_setup.proofs.Asking.{blocks_judged, blocks_fit, blocks_as}
use Rattle.csr32.specs.Seen.{lent}
use Rattle.std.proofs.lemmas.Result.{err_from_is_err_and}
use mathlib.Core.Path.{refl}
use Rattle.two_level_setup.proofs.fine.fine.Goals as goal

pub start-requires : goal.start-requires
start-requires c =
    let a = c.args in
    let m = lent a.a.now in
    let sized = c.requires in
    let b = c.blocks-2 in
    let p = blocks_fit m a.options (lists a.memory.now) sized _ c.in_ok-blocks.ensures.value refl in
    let g = c.aggregate in
    let few = groups_few m a.options (lists a.memory.now) p _ c.in_ok-blocks.ensures.value refl _ g.new.ids g.new.work_ints g.new.work_floats c.in_ok-groups.ensures _ refl in
    (groups_most m a.options _ p.front few, (bounds m a.options p.front).entries_most, p.front.least)

pub returns-in_err-blocks-clause-built : goal.returns-in_err-blocks-clause-built
returns-in_err-blocks-clause-built c =
    let a = c.args in
    let b = c.blocks-2 in
    let p = err_from_is_err_and c.from_residual.result c.from_residual.ensures.1 in
    rw (p.1, p.2) (blocks_judged (lent a.a.now) a.options (lists a.memory.now) c.requires _ c.in_err-blocks.ensures.value _ b.new.factors refl c.in_err-blocks.ensures.factors_after)

pub returns-in_err-groups-clause-built : goal.returns-in_err-groups-clause-built
returns-in_err-groups-clause-built c =
    let a = c.args in
    let b = c.blocks-2 in
    let g = c.aggregate in
    let m = lent a.a.now in
    let fit = blocks_fit m a.options (lists a.memory.now) c.requires _ c.in_ok-blocks.ensures.value refl in
    let p = err_from_is_err_and c.from_residual-in_err-groups.result c.from_residual-in_err-groups.ensures.1 in
    rw (p.1, p.2) (blocks_as m a.options (lists a.memory.now) c.requires _ c.in_ok-blocks.ensures.value refl _ _ (groups_refused m a.options (lists a.memory.now) fit _ c.in_ok-blocks.ensures.value refl _ g.new.ids g.new.work_ints g.new.work_floats c.in_err-groups.ensures _ _ refl))

pub returns-clause-built : goal.returns-clause-built
returns-clause-built c =
    let a = c.args in
    let b = c.blocks-2 in
    let g = c.aggregate in
    let s = c.start in
    let m = lent a.a.now in
    let fit = blocks_fit m a.options (lists a.memory.now) c.requires _ c.in_ok-blocks.ensures.value refl in
    blocks_as m a.options (lists a.memory.now) c.requires _ c.in_ok-blocks.ensures.value refl _ _ (fine_built m a.options (lists a.memory.now) fit _ c.in_ok-blocks.ensures.value refl _ g.new.ids g.new.work_ints g.new.work_floats c.in_ok-groups.ensures _ refl s.result s.ensures b.new.factors c.in_ok-blocks.ensures.factors_after g.auto.ids b.auto.factors g.auto.work_ints g.auto.work_floats)
