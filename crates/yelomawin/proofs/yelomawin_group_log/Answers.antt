-- What grouping with a log answers, as its number and values; the lists as it leaves them.
use Rattle.yelomawin.specs.Calls.{exported_group_log}
use Rattle.yelomawin.proofs.Handing.{handed_is, lists_are}
use Rattle.definitions.specs.Answers.{grouping_log_values}
use Rattle.definitions.specs.Answers.{values_with}
use Rattle.yelomawin.proofs.yelomawin_group_log.Goals as goal

pub returns : goal.returns
unfolding exported_group_log values_with grouping_log_values
returns c = let g = c.group_log-made.ensures in let t = c.tell.ensures in rw (← g.0) (handed_is t.value (lists_are g.1.0 g.1.1.0 g.1.1.1) t.list_after)
