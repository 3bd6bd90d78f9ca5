-- Sizes that fit leave the rest to the policy, others a first cause in order.
use Rattle.std.proofs.Common.{refl}
use Rattle.std.proofs.lemmas.Result.{err_from_is_err_and}
use Rattle.csr32.specs.Seen.{lent}
use Rattle.two_level_grouping.proofs.Policies.{ready_of, went, stopped, short}
use Rattle.two_level_grouping.proofs.aggregate.Goals as goal

pub by_policy-requires : goal.by_policy-requires
by_policy-requires c =
    let x = c.args in
    let f = c.sizes_fit in
    ready_of (lent x.a.now) x.options x.ids.now x.work_ints.now x.work_floats.now f.result f.ensures c.if-sizes_fit.true

pub returns-then-sizes_fit : goal.returns-then-sizes_fit
returns-then-sizes_fit c =
    let x = c.args in
    let f = c.sizes_fit in
    went (lent x.a.now) x.options x.ids.now x.work_ints.now x.work_floats.now f.result f.ensures c.if-sizes_fit.true _ _ _ _ c.by_policy.ensures

pub returns-in_err-ask : goal.returns-in_err-ask
returns-in_err-ask c =
    let x = c.args in
    let f = c.sizes_fit in
    let p = err_from_is_err_and c.from_residual.result c.from_residual.ensures.1 in
    rw (p.1, p.2) (stopped (lent x.a.now) x.options x.ids.now x.work_ints.now x.work_floats.now f.result f.ensures c.if-sizes_fit.false _ c.in_err-ask.ensures _ refl)

pub returns : goal.returns
returns c =
    let x = c.args in
    let f = c.sizes_fit in
    short (lent x.a.now) x.options x.ids.now x.work_ints.now x.work_floats.now f.result f.ensures c.if-sizes_fit.false _ c.in_ok-ask.ensures refl
