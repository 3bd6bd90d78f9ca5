-- `rule_of` counts the names, scans them, and clears the counts.
use mathlib.Core.Path.{◌∙◌}
use Rattle.aggregates.proofs.joining.Together.{length_bump, wipe_bump}
use Rattle.aggregates.proofs.joining_log.Ruling.{rule_by_lem}
use Rattle.aggregates.proofs.joining_log.rule_of.Goals as goal

pub last_rule-rule-requires-clause-within : goal.last_rule-rule-requires-clause-within
last_rule-rule-requires-clause-within c = rw (c.tally.ensures, length_bump) c.requires.within

pub untally-requires : goal.untally-requires
untally-requires c = rw (c.tally.ensures, length_bump) c.requires.within

pub returns : goal.returns
returns c =
    let a = c.args in
    record {
      value = (rw c.tally.ensures at c.last_rule-rule.ensures) ∙ rule_by_lem a.counts.now a.hits.now a.names.now a.b c.requires;
      unchanged = c.untally.ensures ∙ rw c.tally.ensures (wipe_bump a.names.now a.hits.now c.requires.within c.requires.zeros);
    }
