-- `choose_group` counts the names, picks one of them, and clears the counts.
use mathlib.Core.Path.{◌∙◌}
use Rattle.aggregates.proofs.joining.Together.{length_bump, wipe_bump, chosen_by}
use Rattle.aggregates.proofs.joining.choose_group.Goals as goal

pub pick-best-requires-clause-within : goal.pick-best-requires-clause-within
pick-best-requires-clause-within c = rw (c.tally.ensures, length_bump) c.requires.within

pub untally-requires : goal.untally-requires
untally-requires c = rw (c.tally.ensures, length_bump) c.requires.within

pub returns : goal.returns
returns c =
    let a = c.args in
    record {
      value = (rw c.tally.ensures at c.pick-best.ensures) ∙ chosen_by a.counts.now a.hits.now a.names.now c.requires.zeros c.requires.within;
      unchanged = c.untally.ensures ∙ rw c.tally.ensures (wipe_bump a.names.now a.hits.now c.requires.within c.requires.zeros);
    }
