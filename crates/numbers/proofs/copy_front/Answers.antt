-- The elements passed are the source's, the others as they were.
use mathlib.Core.Path.{◌≡◌, ◌∙◌, sym, subst}
use Prim.Native.Nat.{◌+◌}
use native.Mathlib.Omega.{arith}
use Rattle.std.specs.List.{slice_set}
use Rattle.numbers.proofs.Over.{Over, over_next, copied_at}
use Rattle.numbers.proofs.copy_front.Goals as goal

pub loop-i-preserved : goal.loop-i-preserved
loop-i-preserved g c =
    let l = c.loop-i in
    let x = c.index-from-i.result in
    subst (λ y. Over c.args.from.now c.args.to.now (slice_set l.to l.i y) (l.i + 1)) (sym c.index-from-i.is) (over_next x l.invariant (omega arith) (omega arith))

pub returns : goal.returns
returns g c = let e : c.loop-i.i ≡ c.min-n.result = omega arith in c.loop-i.invariant.front ∙ copied_at c.args.from.now c.args.to.now c.loop-i.i (e ∙ c.min-n.ensures)
