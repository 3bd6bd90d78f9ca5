-- What the call answers, as its number and values; the list as it leaves it.
use Rattle.yelomawin.specs.Calls.{exported_diagonal, exported}
use Rattle.yelomawin.proofs.Handing.{handed_is}
use Rattle.definitions.specs.Answers.{answer_values}
use Rattle.definitions.specs.Answers.{values_with}
use Rattle.yelomawin.proofs.yelomawin_diagonal.Goals as goal

pub returns : goal.returns
unfolding exported_diagonal values_with answer_values exported
returns c = let g = c.diagonal-made.ensures in let t = c.tell.ensures in rw (← c.matrix-a.ensures, ← g.value) (handed_is t.value g.diagonal_after t.list_after)
