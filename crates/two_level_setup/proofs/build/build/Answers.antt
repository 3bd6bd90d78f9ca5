-- The fine level, then the coarse one.
use Rattle.two_level_setup.specs.Memory.{lists}
use Rattle.two_level_setup.proofs.Lengths.{same_room}
use Rattle.two_level_setup.proofs.Levels.{level_fits, built_refused, built_whole}
use Rattle.csr32.specs.Seen.{lent}
use Rattle.std.proofs.lemmas.Result.{err_from_is_err_and}
use mathlib.Core.Path.{refl}
use Rattle.two_level_setup.proofs.build.build.Goals as goal

pub coarse_level-requires : goal.coarse_level-requires
coarse_level-requires c =
    let a = c.args in
    let f = c.in_ok-started.ensures in
    let z = level_fits (lent a.a.now) a.options (lists a.memory.now) c.requires _ (lists c.fine.new.memory) f.built (same_room _ _ f.kept) _ refl in
    record { fit = z.0; counted = z.1 }

pub returns-in_err-started-clause-built : goal.returns-in_err-started-clause-built
returns-in_err-started-clause-built c =
    let a = c.args in
    let f = c.in_err-started.ensures in
    let p = err_from_is_err_and c.from_residual.result c.from_residual.ensures.1 in
    rw (p.1, p.2) (built_refused (lent a.a.now) a.options (lists a.memory.now) c.requires _ (lists c.fine.new.memory) f.built (same_room _ _ f.kept) _ refl)

pub returns-clause-built : goal.returns-clause-built
returns-clause-built c =
    let a = c.args in
    let f = c.in_ok-started.ensures in
    built_whole (lent a.a.now) a.options (lists a.memory.now) c.requires _ (lists c.fine.new.memory) f.built (same_room _ _ f.kept) _ refl _ _ c.coarse_level.ensures.built
