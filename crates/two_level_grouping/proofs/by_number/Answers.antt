-- A refusal of the matrix, or the groups.
use Rattle.std.proofs.Common.{refl, arith}
use Rattle.std.proofs.lemmas.Result.{err_from_is_err_and}
use Rattle.csr32.specs.Seen.{lent}
use Rattle.definitions.specs.declared.TwoLevelAggregation.TheVariants.{Contiguous}
use Rattle.adjacency.specs.Within.{read_of}
use Rattle.two_level_grouping.specs.Front.{shape_of_lem}
use Rattle.two_level_grouping.specs.Calls.{numbers_of}
use Rattle.two_level_grouping.proofs.Policies.{numbers_rows, numbers_answered}
use Rattle.two_level_grouping.proofs.Answering.{invalid_answered}
use Rattle.two_level_grouping.proofs.Fronts.{few_nodes}
use Rattle.two_level_grouping.proofs.by_number.Goals as goal

pub returns-in_err-structure : goal.returns-in_err-structure
unfolding read_of
returns-in_err-structure c =
    let x = c.args in
    let m = lent x.a.now in
    let p = err_from_is_err_and c.from_residual.result c.from_residual.ensures.1 in
    rw (p.1, p.2) (invalid_answered x.ids.now x.work_ints.now x.work_floats.now Contiguous m _ c.in_err-structure.ensures (numbers_of m x.options) _ refl)

pub contiguous-groups-requires : goal.contiguous-groups-requires
contiguous-groups-requires c =
    let x = c.args in
    let m = lent x.a.now in
    let w = numbers_rows m x.options x.ids.now x.work_ints.now x.work_floats.now c.requires _ c.in_ok-structure.ensures refl in
    let f = shape_of_lem m x.options c.requires.shape in
    (f.some, (omega (arith, c.requires.ids), (few_nodes m x.options w, f.fewest)))

pub returns : goal.returns
returns c =
    let x = c.args in
    let m = lent x.a.now in
    let k = c.contiguous-groups in
    numbers_answered m x.options x.ids.now x.work_ints.now x.work_floats.now c.requires _ c.in_ok-structure.ensures refl k.result k.new.ids _ _ k.ensures.0 k.ensures.1 (c.fill.ensures.after (λ y e. e)) (c.fill-2.ensures.after (λ y e. e))
