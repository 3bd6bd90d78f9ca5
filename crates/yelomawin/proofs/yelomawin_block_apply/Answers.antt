-- What the call answers, as its number and values; the list as it leaves it.
use Rattle.yelomawin.specs.Calls.{exported_block_apply, exported}
use Rattle.yelomawin.proofs.Handing.{handed_is}
use Rattle.definitions.specs.Answers.{answer_values}
use Rattle.definitions.specs.Answers.{values_with}
use Rattle.yelomawin.proofs.yelomawin_block_apply.Goals as goal

pub returns : goal.returns
unfolding exported_block_apply values_with answer_values exported
returns c = let g = c.block_apply-made.ensures in let t = c.tell.ensures in rw (← g.value) (handed_is t.value g.correction_after t.list_after)
