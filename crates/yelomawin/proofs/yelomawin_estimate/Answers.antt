-- What the call answers, as its number and values; the list as it leaves it.
use Rattle.yelomawin.specs.Calls.{exported_estimate}
use Rattle.yelomawin.proofs.Handing.{handed_is}
use Rattle.definitions.specs.Answers.{estimate_values}
use Rattle.definitions.specs.Answers.{values_with}
use Rattle.yelomawin.proofs.yelomawin_estimate.Goals as goal

pub returns : goal.returns
unfolding exported_estimate values_with estimate_values
returns c = let g = c.estimate-made.ensures in let t = c.tell.ensures in rw (← c.matrix-a.ensures, ← g.0) (handed_is t.value g.1 t.list_after)
