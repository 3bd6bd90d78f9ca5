-- A refusal of the matrix, or cause 16 and zeros.
use Rattle.std.proofs.Common.{refl}
use Rattle.std.proofs.lemmas.Result.{err_from_is_err_and}
use Rattle.csr32.specs.Seen.{lent}
use Rattle.two_level_grouping.specs.Calls.{no_node}
use Rattle.two_level_grouping.proofs.Answering.{invalid_answered, no_node_answered}
use Rattle.two_level_grouping.proofs.no_node.Goals as goal

pub returns-in_err-readable : goal.returns-in_err-readable
returns-in_err-readable c =
    let x = c.args in
    let p = err_from_is_err_and c.from_residual.result c.from_residual.ensures.1 in
    rw (p.1, p.2) (invalid_answered x.ids.now x.work_ints.now x.work_floats.now x.aggregation (lent x.a.now) _ c.in_err-readable.ensures no_node _ refl)

pub returns : goal.returns
returns c =
    let x = c.args in
    no_node_answered x.ids.now x.work_ints.now x.work_floats.now x.aggregation (lent x.a.now) _ c.in_ok-readable.ensures refl _ _ _ (c.fill.ensures.after (λ y e. e)) (c.fill-2.ensures.after (λ y e. e)) (c.fill-3.ensures.after (λ y e. e))
