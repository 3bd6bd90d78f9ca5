-- Each block's scale, symmetry test and rows are the definition's own.
use mathlib.Core.Path.{◌∙◌}
use Rattle.block_factor.specs.Dense.{dense}
use Rattle.block_factor.proofs.Steps.{goes}
use Rattle.std.proofs.lemmas.Option.{IfSome_then}
use Rattle.block_factor.proofs.pair.factor_pair.Goals as goal

pub returns : goal.returns
returns c =
    let b = c.args.b in
    let d = c.args.c in
    let r = c.pair_rows in
    IfSome_then r.result r.ensures
    (λ both rows. (
      λ first. goes first b.size (dense b.size b.a) c.top-s.result c.top-s.ensures c.skewed.result c.skewed.ensures c.if-skewed.false ∙ rows.0 first,
      λ first. goes first d.size (dense d.size d.a) c.top-t.result c.top-t.ensures c.skewed-2.result c.skewed-2.ensures c.if-skewed-2.false ∙ rows.1 first,
    ))
