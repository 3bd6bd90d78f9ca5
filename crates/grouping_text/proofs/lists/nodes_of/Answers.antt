-- One node further, what is left asks what it asked.
use mathlib.Core.Path.{◌≡◌, refl}
use native.Mathlib.Omega.{arith}
use borrow.Author.Rules.{rules}
use lib.ListN.{length-set}
use Rattle.std.proofs.lemmas.Result.{err_from_is_err_and}
use Rattle.grouping_text.proofs.lists.Nodes.{goes_first, goes_bad, goes_next, goes_last}
use Rattle.grouping_text.proofs.lists.nodes_of.Goals as goal

pub loop-i-init : goal.loop-i-init
loop-i-init c = record { few = omega arith; same = refl; goes = goes_first c.args.numbers.now c.args.nodes c.args.offsets.now c.args.neighbours.now (omega arith) }

pub returns-in_err-got-clause-lists : goal.returns-in_err-got-clause-lists
returns-in_err-got-clause-lists c =
    let i = c.loop-i.invariant in
    let e = goes_bad _ _ _ _ _ _ _ i.goes c.loop-i-test.true _ (c.in_err-got.ensures.lists _) in
    let p = err_from_is_err_and c.from_residual.result c.from_residual.ensures.1 in
    rw (p.1, p.2) e

pub loop-i-preserved : goal.loop-i-preserved
loop-i-preserved c =
    let i = c.loop-i.invariant in
    record {
      few = c.in_ok-got.ensures.few;
      same = search rules;
      goes = goes_next _ _ _ _ _ _ _ i.goes c.loop-i-test.true _ _ _ (omega (arith, length-set c.args.offsets.now 0 0)) (c.in_ok-got.ensures.lists _);
    }

pub returns-clause-lists : goal.returns-clause-lists
returns-clause-lists c =
    let i = c.loop-i.invariant in
    let last : c.loop-i.i ≡ c.args.nodes = omega arith in
    goes_last _ _ _ _ _ _ (rw last at i.goes)
