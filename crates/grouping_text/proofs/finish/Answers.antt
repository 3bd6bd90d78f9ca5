-- `finish` closes the last number and says what was read.
use Rattle.grouping_text.proofs.Program.{puts_whole, said_is}
use Rattle.grouping_text.proofs.finish.Goals as goal

pub returns-clause-value : goal.returns-clause-value
returns-clause-value c =
    (puts_whole _ _ _ _ _ (said_is _ _ _ _ c.close-last.ensures c.min-end.ensures) c.say.ensures).0

pub returns-clause-out_after : goal.returns-clause-out_after
returns-clause-out_after c =
    (puts_whole _ _ _ _ _ (said_is _ _ _ _ c.close-last.ensures c.min-end.ensures) c.say.ensures).1
