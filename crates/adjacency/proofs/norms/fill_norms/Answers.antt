-- The norms of the nodes done so far are in their place.
use mathlib.Core.Path.{ap, ◌∙◌}
use native.Mathlib.Omega.{arith}
use Rattle.definitions.specs.Numbers.{rootᶠ}
use Rattle.adjacency.specs.Blocks.{matrix}
use Rattle.adjacency.proofs.Norming.{norm_is, normed_more}
use Rattle.adjacency.proofs.norms.fill_norms.Goals as goal

pub loop-v-preserved : goal.loop-v-preserved
loop-v-preserved c =
    let a = c.args.a.now in
    let o = c.loop-v in
    let e = c.entries in
    normed_more (matrix a) a.size o.v o.norms c.root_by.result o.invariant (omega arith)
    (c.root_by.ensures ∙ ap rootᶠ c.own.ensures ∙ norm_is a.fit (omega arith) e.result.size e.result.col_idx.now e.result.values.now e.ensures.sizes.0 e.ensures.columns e.ensures.values)
