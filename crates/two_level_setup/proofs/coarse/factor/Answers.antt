-- The factor's answer and what is stored of it.
use Rattle.two_level_setup.proofs.Storing.{unfactored, factored}
use Rattle.two_level_setup.specs.Stages.{filled}
use borrow.Rule.Slice.PartMut.{same_len_mid}
use lib.ListN.{length}
use Prim.Native.Nat.{◌-◌}
use mathlib.Core.Path.{refl}
use Rattle.std.proofs.lemmas.Result.{err_from_is_err_and}
use Rattle.two_level_setup.proofs.coarse.factor.Goals as goal

pub returns-in_err-scale : goal.returns-in_err-scale
returns-in_err-scale c =
    let a = c.args in
    let p = c.requires in
    let r = err_from_is_err_and c.from_residual.result c.from_residual.ensures.1 in
    rw (r.1, r.2) (unfactored a.setup a.start a.floats.now a.work.now p.0 p.1 p.2 _ c.in_err-scale.ensures.0 _ _ _ refl)

pub returns : goal.returns
unfolding filled
returns c =
    let a = c.args in
    let p = c.requires in
    let f = c.coarse_factor in
    let more = f.new.lower in
    factored a.setup a.start a.floats.now a.work.now p.0 p.1 p.2 _ c.in_ok-scale.ensures.0 _ refl more c.in_ok-scale.ensures.1 _ _ _
    (same_len_mid a.start (length a.floats.now - a.start) a.floats.now more f.auto.lower) refl c.store.ensures
