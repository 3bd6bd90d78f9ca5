-- What grouping alone answers, as its number and values; the lists as it leaves them.
use Rattle.yelomawin.specs.Calls.{exported_group}
use Rattle.yelomawin.proofs.Handing.{handed_is, pair_is}
use Rattle.definitions.specs.Answers.{grouping_values}
use Rattle.definitions.specs.Answers.{values_with}
use Rattle.yelomawin.proofs.yelomawin_group.Goals as goal

pub returns : goal.returns
unfolding exported_group values_with grouping_values
returns c = let g = c.group-made.ensures in let t = c.tell.ensures in rw (← g.0) (handed_is t.value (pair_is g.1.0 g.1.1) t.list_after)
