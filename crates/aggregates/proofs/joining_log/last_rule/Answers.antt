-- `last_rule` goes through the names.
use mathlib.Core.Path.{ap, ◌∙◌}
use Prim.Native.Nat.{max}
use native.Mathlib.Omega.{arith}
use lib.ListN.{drop_of_length-le}
use Rattle.laws.proofs.Lists.{each_at}
use Rattle.aggregates.specs.Log.{rule_against}
use Rattle.aggregates.proofs.joining_log.Ruling.{rule_step, rule_last}
use Rattle.aggregates.proofs.joining_log.last_rule.Goals as goal

pub of-requires-clause-counted : goal.of-requires-clause-counted
of-requires-clause-counted c = omega (arith, c.requires.counted, each_at c.args.names.now c.loop-a.a-index 0 c.requires.within (omega arith))

pub of-requires-clause-named : goal.of-requires-clause-named
of-requires-clause-named c = each_at c.args.names.now c.loop-a.a-index 0 c.requires.within (omega arith)

pub loop-a-preserved : goal.loop-a-preserved
unfolding rule_against
loop-a-preserved c =
    let a = c.args in
    let l = c.loop-a in
    let e = rw (c.of.ensures, c.of-taker.ensures) at c.rule_against.ensures in
    rule_step a.counts.now a.hits.now a.names.now a.b l.rule l.a-index l.invariant c.max-rule.result (omega arith) (c.max-rule.ensures ∙ ap (max l.rule) e)

pub returns : goal.returns
returns c = let a = c.args in rule_last a.counts.now a.hits.now a.names.now a.b c.loop-a.rule c.loop-a.a-index c.loop-a.invariant (drop_of_length-le a.names.now (omega arith))
