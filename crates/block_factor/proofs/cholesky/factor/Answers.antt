-- The scale, the symmetry test and the rows are the definition's own.
use mathlib.Core.Path.{sym}
use mathlib.Core.List.{List}
use lib.Ieee.{Float}
use Rattle.std.specs.Prelude.{MatchResult, ◌≡◌}
use Rattle.std.proofs.Common.{subst}
use Rattle.definitions.specs.Refusal.{Outcome, refused, done}
use Rattle.block_factor.specs.Dense.{dense}
use Rattle.block_factor.proofs.Steps.{stopped, goes}
use Rattle.block_factor.proofs.cholesky.factor.Goals as goal

pub returns-then-skewed : goal.returns-then-skewed
returns-then-skewed c =
    let b = c.args.b in
    let t = c.skewed in
    stopped c.args.first b.size (dense b.size b.a) c.top-scale.result c.top-scale.ensures t.result t.ensures c.if-skewed.true

pub returns : goal.returns
returns c =
    let b = c.args.b in
    let t = c.skewed in
    let r = c.factor_rows in
    subst (λ (o : Outcome (List Float)). MatchResult r.result (λ l. o ≡ done l.a) (λ cause. o ≡ refused cause))
    (sym (goes c.args.first b.size (dense b.size b.a) c.top-scale.result c.top-scale.ensures t.result t.ensures c.if-skewed.false)) r.ensures
