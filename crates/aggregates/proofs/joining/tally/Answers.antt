-- `tally` goes through the names.
use native.Mathlib.Omega.{arith}
use lib.ListN.{drop_of_length-le}
use Rattle.laws.proofs.Lists.{each_at}
use Rattle.aggregates.proofs.joining.Counting.{tally_step, tally_last}
use Rattle.aggregates.proofs.joining.tally.Goals as goal

pub bounds-hits-a : goal.bounds-hits-a
bounds-hits-a c = omega (arith, each_at c.args.names.now c.loop-a.a-index 0 c.requires.within (omega arith))

pub bounds-hits-a-in-loop-a : goal.bounds-hits-a-in-loop-a
bounds-hits-a-in-loop-a c = omega (arith, each_at c.args.names.now c.loop-a.a-index 0 c.requires.within (omega arith))

pub loop-a-preserved : goal.loop-a-preserved
loop-a-preserved c = let a = c.args in tally_step a.names.now a.hits.now c.loop-a.hits c.loop-a.a-index c.loop-a.invariant (omega arith) (omega (arith, each_at a.names.now c.loop-a.a-index 0 c.requires.within (omega arith)))

pub returns : goal.returns
returns c = let a = c.args in tally_last a.names.now a.hits.now c.loop-a.hits c.loop-a.a-index c.loop-a.invariant (drop_of_length-le a.names.now (omega arith))
