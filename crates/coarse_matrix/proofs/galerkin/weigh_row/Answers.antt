-- One weight more.
use Prim.Native.Nat.{◌<◌}
use mathlib.Core.Path.{refl, ap, ◌∙◌}
use mathlib.Core.List.{flat_map}
use native.Mathlib.Omega.{arith}
use native.Mathlib.Nat.{mul-le-mul_right}
use borrow.Author.Rules.{rules}
use Rattle.laws.specs.Scatter.{scatter}
use Rattle.coarse_matrix.specs.Galerkin.{weighed_puts}
use Rattle.coarse_matrix.proofs.Passing.{at_below, passed_all}
use Rattle.coarse_matrix.proofs.Weighing.{weighed_more}
use Rattle.coarse_matrix.proofs.galerkin.weigh_row.Goals as goal

pub loop-row-init : goal.loop-row-init
unfolding weighed_puts scatter flat_map
loop-row-init c = refl

pub weigh-requires-clause-room : goal.weigh-requires-clause-room
weigh-requires-clause-room c =
    let t = c.args.transfer.now in
    let l = c.loop-row in
    let h : c.in-Some.row.now < t.cols = at_below c.row.result.0.now c.row.result.1.now l.yielded _ l.row-iterator c.next.new.self c.next.result (search rules) (search rules) l.yielded_by t.cols (c.in-Some.row, c.in-Some.weight) c.in-Some.is c.next.ensures.steps c.row.ensures.below in
    omega (arith, c.requires.long, mul-le-mul_right t.cols h)

pub loop-row-preserved : goal.loop-row-preserved
loop-row-preserved c =
    let a = c.args in
    let l = c.loop-row in
    weighed_more a.transfer.now.cols a.touched.now a.sums.now l.yielded (c.in-Some.row, c.in-Some.weight) a.coarse.now l.coarse c.weigh.new.coarse l.invariant c.weigh.ensures

pub returns : goal.returns
returns c =
    let a = c.args in
    let l = c.loop-row in
    let e = passed_all c.row.result.0.now c.row.result.1.now l.yielded _ l.row-iterator c.next.new.self c.next.result (search rules) (search rules) l.yielded_by c.in-None.is c.next.ensures.steps in
    l.invariant ∙ ap (λ ws. scatter (weighed_puts a.transfer.now.cols a.sums.now a.touched.now ws) a.coarse.now) (e ∙ c.row.ensures.entries)
