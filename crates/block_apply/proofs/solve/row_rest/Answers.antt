use Rattle.std.proofs.Common.{get_or, refl}
use lib.Ieee.{nan}
use Rattle.definitions.specs.Numbers.{◌*ᶠ◌}
use Rattle.definitions.specs.Block.{lower}
use Rattle.laws.proofs.Growing.{reduced_none, reduced_more}
use Rattle.block_apply.proofs.solve.row_rest.Goals as goal

pub loop-k-init : goal.loop-k-init
loop-k-init g c = let a = c.args in reduced_none (get_or a.r.now a.i nan) (λ k. lower a.l.now g.row.W a.i k *ᶠ get_or a.z.now k nan)

pub loop-k-preserved : goal.loop-k-preserved
loop-k-preserved g c =
    let a = c.args in
    let o = c.loop-k in
    reduced_more (get_or a.r.now a.i nan) (λ k. lower a.l.now g.row.W a.i k *ᶠ get_or a.z.now k nan) o.k o.rest _ _ o.invariant refl refl
