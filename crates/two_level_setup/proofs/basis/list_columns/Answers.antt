-- A node's columns are its coarse columns, one after the other.
use Rattle.laws.proofs.Growing.{tab_none, tab_more, tab_all}
use Rattle.two_level_setup.proofs.Columns.{listing_first, listing_node}
use Rattle.definitions.specs.Lists.{tab, between}
use Prim.Native.Nat.{◌+◌, ◌-◌, ◌*◌, ◌≤◌}
use native.Mathlib.Nat.{mul-le-mul_right}
use lib.ListN.{length, get_or}
use borrow.Rule.Slice.PartMut.{mid_len}
use mathlib.Core.Path.{◌≡◌, refl, ap, ◌∙◌}
use native.Mathlib.Omega.{arith}
use Rattle.two_level_setup.proofs.basis.list_columns.Goals as goal

pub loop-node-init : goal.loop-node-init
loop-node-init c = listing_first c.args.size c.args.ids.now c.args.columns.now

pub loop-part-init : goal.loop-part-init
loop-part-init c = tab_none (λ j. c.min.result * c.args.size + j) _

pub loop-part-preserved : goal.loop-part-preserved
loop-part-preserved c = let o = c.loop-part in tab_more (λ j. c.min.result * c.args.size + j) o.part o.column-items _ _ (omega arith) o.invariant refl

pub loop-node-preserved : goal.loop-node-preserved
loop-node-preserved c =
    let a = c.args in
    let o = c.loop-node in
    let row = o.node * a.size in
    let v = c.min.result * a.size in
    let m : row + a.size - row ≡ a.size = omega arith in
    let n : (o.node + 1) * a.size ≡ row + a.size = omega arith in
    let h : row + a.size ≤ length o.columns = omega (arith, c.requires.2, mul-le-mul_right a.size c.loop-node-test.true) in
    let e : get_or a.ids.now o.node 0 ≤ 2_048 → v ≡ get_or a.ids.now o.node 0 * a.size = λ k. let q : c.min.result ≡ get_or a.ids.now o.node 0 = omega arith in rw q in
    let f : c.loop-part.column-items ≡ tab (λ j. v + j) a.size = tab_all (λ j. v + j) c.loop-part.part c.loop-part.column-items (between row (row + a.size) o.columns) (omega arith) c.loop-part.invariant ∙ ap (λ k. tab (λ j. v + j) k) (mid_len row (row + a.size) o.columns h ∙ m) in
    rw (m, n) (listing_node a.size a.ids.now a.columns.now o.columns _ o.node v c.loop-node-test.true e f o.invariant)
