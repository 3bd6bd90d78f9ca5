-- Each test in turn: where one fails, one of 1 to 13 does.
use Rattle.two_level_setup.specs.Memory.{lengths}
use Rattle.two_level_setup.proofs.Asking.{too_many, misshapen, shaped_bounds, roomed}
use Rattle.two_level_setup.proofs.Rooms.{entry_room}
use Rattle.csr32.specs.Seen.{lent}
use Rattle.std.specs.Prelude.{is_ok}
use mathlib.Core.Path.{refl, ap, ◌∙◌}
use native.Mathlib.Omega.{arith}
use Rattle.two_level_setup.proofs.build.sizes_fit.Goals as goal

pub returns-then-a-gt-MAX_ROWS : goal.returns-then-a-gt-MAX_ROWS
returns-then-a-gt-MAX_ROWS c = let a = c.args in too_many (lent a.a.now) a.options (lengths a.room) c.then-a-gt-MAX_ROWS.either

pub holds-requires : goal.holds-requires
holds-requires c =
    let a = c.args in
    (shaped_bounds (lent a.a.now) a.options (lengths a.room) c.is_ok.result (c.is_ok.ensures.value ∙ ap is_ok c.shape.ensures) c.if-is_ok.true (omega arith) (omega arith), omega arith)

pub returns-then-is_ok : goal.returns-then-is_ok
returns-then-is_ok c =
    let a = c.args in
    roomed (lent a.a.now) a.options (lengths a.room) c.is_ok.result (c.is_ok.ensures.value ∙ ap is_ok c.shape.ensures) c.if-is_ok.true c.holds.result (entry_room _ _ _ (c.holds.ensures (lent a.a.now) a.options refl refl refl))

pub returns-else-is_ok : goal.returns-else-is_ok
returns-else-is_ok c = let a = c.args in misshapen (lent a.a.now) a.options (lengths a.room) c.is_ok.result (c.is_ok.ensures.value ∙ ap is_ok c.shape.ensures) c.if-is_ok.false
