-- A column with the token keeps its sum, any other starts at zero.
use Prim.Native.Nat.{◌<◌}
use mathlib.Core.Path.{◌≡◌, subst, ◌∙◌}
use mathlib.Core.List.{[], ◌∷◌}
use native.Mathlib.Omega.{arith}
use borrow.Author.Rules.{rules}
use lib.ListN.{length, get_or, set}
use lib.Ieee.{nan}
use Rattle.definitions.specs.Numbers.{◌+ᶠ◌, ◌*ᶠ◌}
use Rattle.laws.specs.Scatter.{put}
use Rattle.coarse_matrix.specs.Galerkin.{Put, scaled}
use Rattle.coarse_matrix.proofs.Passing.{at_below, passed_all}
use Rattle.coarse_matrix.proofs.Marking.{put_none, put_again, put_new, weights_more, place_left}
use Rattle.coarse_matrix.proofs.galerkin.add_products.Goals as goal
use Rattle.coarse_matrix.proofs.galerkin.add_products.Goals.{then-stamps-k, else-stamps-k}

pub bounds-touched-n : goal.bounds-touched-n
bounds-touched-n c =
    let a = c.args in
    let t = a.m.now.transfer in
    let l = c.loop-column in
    let hk : c.in-Some.column.now < t.cols = at_below c.weights.result.0.now c.weights.result.1.now l.yielded _ l.column-iterator c.next.new.self c.next.result (search rules) (search rules) l.yielded_by t.cols (c.in-Some.column, c.in-Some.weight) c.in-Some.is c.next.ensures.steps c.weights.ensures.below in
    omega (arith, c.requires.long, place_left a.token l.stamps l.n c.in-Some.column.now l.invariant.room (omega (arith, c.requires.long)) c.if-stamps-k.true)

pub loop-column-preserved : goal.loop-column-preserved
loop-column-preserved c =
    let a = c.args in
    let t = a.m.now.transfer in
    let l = c.loop-column in
    let m = c.if-stamps-k in
    let k = c.in-Some.column.now in
    let x = a.value *ᶠ c.in-Some.weight.now in
    let hk : k < t.cols = at_below c.weights.result.0.now c.weights.result.1.now l.yielded _ l.column-iterator c.next.new.self c.next.result (search rules) (search rules) l.yielded_by t.cols (c.in-Some.column, c.in-Some.weight) c.in-Some.is c.next.ensures.steps c.weights.ensures.below in
    let ls : length l.stamps ≡ t.cols = omega (arith, c.requires.long) in
    let lt : length l.touched ≡ t.cols = omega (arith, c.requires.long) in
    let lu : length l.sums ≡ t.cols = omega (arith, c.requires.long) in
    let r : Put t.cols a.token l.stamps l.touched l.sums l.n m.stamps m.touched (set m.sums k (get_or m.sums k nan +ᶠ x)) m.n (put k x ∷ []) = elim m.branch [
      | then-stamps-k w ↦ rw (w.stamps-is, w.touched-is, w.sums-is, w.n-is) (put_new t.cols a.token l.stamps l.touched l.sums l.n k x hk l.invariant.room ls lt lu w.if-stamps-k.true)
      | else-stamps-k w ↦ rw (w.stamps-is, w.touched-is, w.sums-is, w.n-is) (put_again t.cols a.token l.stamps l.touched l.sums l.n k x hk l.invariant.room lu w.if-stamps-k.false)
    ] in
    weights_more l.yielded (c.in-Some.column, c.in-Some.weight) a.value l.invariant r

pub returns : goal.returns
returns c =
    let a = c.args in
    let l = c.loop-column in
    let e = passed_all c.weights.result.0.now c.weights.result.1.now l.yielded _ l.column-iterator c.next.new.self c.next.result (search rules) (search rules) l.yielded_by c.in-None.is c.next.ensures.steps in
    subst (λ es. Put a.m.now.transfer.cols a.token a.stamps.now a.touched.now a.sums.now a.count l.stamps l.touched l.sums l.n (scaled a.value es)) (e ∙ c.weights.ensures.entries) l.invariant
