-- The pair that the loop is at holds the column and the weight at the index that it has come to.
use Rattle.std.proofs.Common.{length, arith, length-append}
use Rattle.std.proofs.lemmas.Slice.Zip.{zip_turn, zip_end}
use borrow.Author.Rules.{rules}
use lib.Ieee.{nan}
use Rattle.definitions.specs.Numbers.{summed}
use Rattle.two_level_apply.proofs.Prolonging.{sum_step, sum_done}
use Rattle.two_level_apply.proofs.prolongation.weight_sum.Goals as goal

pub loop-column-preserved : goal.loop-column-preserved
loop-column-preserved c =
    let a = c.args in
    let o = c.loop-column in
    let t = zip_turn a.columns.now a.weights.now o.yielded _ o.column-iterator c.next.new.self c.next.result (search rules) (search rules) o.yielded_by (c.in-Some.column, c.in-Some.weight) c.in-Some.is c.next.ensures.steps in
    sum_step a.columns.now a.weights.now a.sol.now (length o.yielded) _ c.in-Some.column.now c.in-Some.weight.now o.sum _ (length-append o.yielded _) t.0 t.1 (t.2 0) (t.3 nan) o.invariant

pub returns : goal.returns
unfolding summed
returns c =
    let a = c.args in
    let o = c.loop-column in
    let t = zip_end a.columns.now a.weights.now o.yielded _ o.column-iterator c.next.new.self c.next.result (search rules) (search rules) o.yielded_by c.in-None.is c.next.ensures.steps in
    sum_done a.columns.now a.weights.now a.sol.now (length o.yielded) o.sum _ (omega (arith, t, c.requires.same)) o.invariant
