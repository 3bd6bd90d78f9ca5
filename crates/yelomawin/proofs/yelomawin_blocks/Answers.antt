-- What the call answers, as its number and values; the list as it leaves it.
use Rattle.yelomawin.specs.Calls.{exported_blocks, exported}
use Rattle.yelomawin.proofs.Handing.{handed_is}
use Rattle.definitions.specs.Answers.{answer_values}
use Rattle.definitions.specs.Answers.{values_with}
use Rattle.yelomawin.proofs.yelomawin_blocks.Goals as goal

pub returns : goal.returns
unfolding exported_blocks values_with answer_values exported
returns c = let g = c.blocks-made.ensures in let t = c.tell.ensures in rw (← c.matrix-a.ensures, ← g.value) (handed_is t.value g.factors_after t.list_after)
