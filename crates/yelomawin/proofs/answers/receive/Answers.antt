-- The front is the values, as far as there is room, and the rest zeros.
use mathlib.Core.Path.{◌∙◌}
use Rattle.yelomawin.proofs.Receiving.{receives}
use Rattle.yelomawin.proofs.answers.receive.Goals as goal

pub returns : goal.returns
returns c = c.copy_front.ensures ∙ rw (c.fill.ensures.after (λ y e. e)) (receives c.args.values.now c.args.list.now)
