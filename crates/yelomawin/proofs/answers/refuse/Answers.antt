-- The cause's two values are all that it has.
use mathlib.Core.Path.{ap, ◌∙◌}
use Rattle.causes.specs.Told.{told_of}
use Rattle.causes.specs.declared.Row.{Row}
use Rattle.yelomawin.proofs.Receiving.{told}
use Rattle.yelomawin.proofs.answers.refuse.Goals as goal

pub returns : goal.returns
unfolding told_of
returns c =
    let a = c.args in
    let row = c.told-told in
    record { value = ap (λ (x : Row). x.number) row.ensures; list_after = c.receive.ensures ∙ rw row.ensures (told a.cause a.list.now) }
