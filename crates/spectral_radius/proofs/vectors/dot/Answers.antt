-- The pair that the loop is at holds the numbers at the index that it has come to.
use mathlib.Core.Path.{◌≡◌, refl}
use mathlib.Core.List.{◌++◌, ◌∷◌, []}
use Prim.Native.Nat.{◌+◌}
use lib.ListN.{length, get_or, length-append}
use lib.Ieee.{nan}
use borrow.Author.Rules.{rules}
use Rattle.std.proofs.lemmas.Slice.Zip.{zip_turn}
use Rattle.definitions.specs.Numbers.{◌+ᶠ◌, ◌*ᶠ◌}
use Rattle.laws.proofs.Growing.{summed_none, summed_more}
use Rattle.spectral_radius.proofs.vectors.dot.Goals as goal

pub loop-p-init : goal.loop-p-init
loop-p-init c = summed_none (λ k. get_or c.args.x.now k nan *ᶠ get_or c.args.y.now k nan)

pub loop-p-preserved : goal.loop-p-preserved
loop-p-preserved c =
    let a = c.args in
    let o = c.loop-p in
    let t = zip_turn a.x.now a.y.now o.yielded _ o.p-iterator c.next.new.self c.next.result (search rules) (search rules) o.yielded_by (c.in-Some.p, c.in-Some.q) c.in-Some.is c.next.ensures.steps in
    let n : length (o.yielded ++ ((c.in-Some.p, c.in-Some.q) ∷ [])) ≡ length o.yielded + 1 = length-append o.yielded _ in
    rw n (summed_more (λ k. get_or a.x.now k nan *ᶠ get_or a.y.now k nan) (length o.yielded) o.sum (o.sum +ᶠ c.in-Some.p.now *ᶠ c.in-Some.q.now) (c.in-Some.p.now *ᶠ c.in-Some.q.now) o.invariant (rw (t.2 nan, t.3 nan)) refl)
