-- Sizes first; where they fit, what is built; where not, 1 to 13 in their order.
use Rattle.two_level_setup.specs.Memory.{lists}
use Rattle.two_level_setup.proofs.Lengths.{came_back}
use Rattle.two_level_setup.proofs.Checks.{stopped, short, whole_is}
use Rattle.definitions.specs.Setup.{lengths_of, lent_of}
use Rattle.csr32.specs.Seen.{lent}
use Rattle.std.proofs.lemmas.Result.{err_from_is_err_and}
use Rattle.std.proofs.Common.{rules}
use mathlib.Core.Path.{refl}
use Rattle.two_level_setup.proofs.setup.Goals as goal

pub returns-then-sizes_fit : goal.returns-then-sizes_fit
unfolding lengths_of
returns-then-sizes_fit c =
    let a = c.args in
    let e = rw (whole_is (lent a.a.now) a.options (lent_of a.ints.now a.floats.now a.work_ints.now a.work_floats.now) (rw c.room.ensures at (c.sizes_fit.ensures.fit c.if-sizes_fit.true))) at c.build_or_clear.ensures.built in
    (e.0, came_back (lists c.build_or_clear.new.memory) _ _ _ _ _ (search rules) (search rules) (search rules) (search rules) e.1)

pub returns-in_err-front : goal.returns-in_err-front
returns-in_err-front c =
    let a = c.args in
    let p = err_from_is_err_and c.from_residual.result c.from_residual.ensures.1 in
    rw (p.1, p.2) (stopped (lent a.a.now) a.options (lent_of a.ints.now a.floats.now a.work_ints.now a.work_floats.now) _ c.in_err-front.ensures _ refl)

pub returns : goal.returns
unfolding lengths_of
returns c =
    let a = c.args in
    short (lent a.a.now) a.options (lent_of a.ints.now a.floats.now a.work_ints.now a.work_floats.now) _ c.in_ok-front.ensures refl (rw c.room.ensures at (c.sizes_fit.ensures.misfit c.if-sizes_fit.false))
