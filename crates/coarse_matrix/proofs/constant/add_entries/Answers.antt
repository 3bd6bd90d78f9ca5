-- The pair that the loop is at is one entry more.
use Prim.Native.Nat.{◌+◌}
use mathlib.Core.Path.{refl, ap, ◌∙◌}
use borrow.Author.Rules.{rules}
use Rattle.definitions.specs.Transfer.{coarse_column}
use Rattle.laws.specs.Scatter.{scatter}
use Rattle.coarse_matrix.specs.Scatter.{moved}
use Rattle.coarse_matrix.proofs.Passing.{at_below, passed_all, moved_more}
use Rattle.coarse_matrix.proofs.constant.add_entries.Goals as goal

pub loop-column-init : goal.loop-column-init
unfolding scatter
loop-column-init c = refl

pub loop-column-preserved : goal.loop-column-preserved
loop-column-preserved c =
    let m = c.args.m.now in
    let o = c.loop-column in
    moved_more (λ k. c.args.base + coarse_column m.groups.size m.groups.ids.now k) o.yielded (c.in-Some.column, c.in-Some.value) (c.args.base + c.column_of.result) c.args.coarse.now o.coarse (ap (λ k. c.args.base + k) c.column_of.ensures.value) o.invariant

pub returns : goal.returns
returns c =
    let m = c.args.m.now in
    let o = c.loop-column in
    let e = passed_all c.row.result.0.now c.row.result.1.now o.yielded _ o.column-iterator c.next.new.self c.next.result (search rules) (search rules) o.yielded_by c.in-None.is c.next.ensures.steps in
    o.invariant ∙ ap (λ es. scatter (moved (λ k. c.args.base + coarse_column m.groups.size m.groups.ids.now k) es) c.args.coarse.now) (e ∙ c.row.ensures.entries)
