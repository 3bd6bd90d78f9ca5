-- Every neighbour that a node lists is a node.
use mathlib.Core.Path.{◌≡◌}
use mathlib.Core.Bool.{Bool, true, false, not, ◌&&◌}
use mathlib.Core.List.{List, ◌∷◌}
use Prim.Native.Nat.{ℕ, ◌<◌, ◌/◌}
use lib.Dec.{leb, eqb}
use Rattle.definitions.specs.Lists.{any, joined_lists}
use Rattle.definitions.specs.Matrix.{Matrix}
use Rattle.definitions.specs.Links.{node_entries}
use Rattle.definitions.specs.Neighbours.{Neighbour, neighbours_of, strength, stronger, inserted, sorted, strong_neighbours_of, list_for, neighbour_lists}
use Rattle.definitions.specs.declared.TwoLevelAggregation.{TwoLevelAggregation}
use Rattle.definitions.specs.declared.TwoLevelAggregation.TheVariants.{Contiguous, Graph, StrongGraph}
use Rattle.laws.proofs.Lists.{Each, none, more, each_keep, each_up_to, each_map, each_tab, each_flat_map}
use Rattle.laws.proofs.Scans.{below_none}

inserted_each : {P : Neighbour → Type 0} (x : Neighbour) {ys : List Neighbour} → P x → Each P ys → Each P (inserted x ys)
unfolding inserted
inserted_each x p none = more p none
inserted_each {P} x p (more {x = y} {xs = ys} q k) = go (stronger x y) (inserted_each x p k)
  where
    go : (b : Bool) → Each P (inserted x ys) → Each P (elim b [ true ↦ x ∷ (y ∷ ys) | false ↦ y ∷ inserted x ys ])
    go true r = more p (more q k)
    go false r = more q r

sorted_each : {P : Neighbour → Type 0} {xs : List Neighbour} → Each P xs → Each P (sorted xs)
unfolding sorted
sorted_each none = none
sorted_each (more {x = x} p k) = inserted_each x p (sorted_each k)

module _ (a : Matrix) (size nodes v : ℕ) where
  plain_below : Each (λ w. w < nodes) (neighbours_of a size nodes v)
  unfolding neighbours_of
  plain_below = each_keep (λ w. not (eqb w v) && any (λ e. eqb (e.col / size) w) (node_entries a size v)) (each_up_to nodes (λ i h t. h))

  list_below : (k : TwoLevelAggregation) → Each (λ w. w < nodes) (list_for k a size nodes v)
  unfolding list_for strong_neighbours_of
  list_below Contiguous = none
  list_below Graph = plain_below
  list_below StrongGraph = each_map (λ x. x.node) (sorted_each (each_map (λ w. record { node = w; strong = strength a size v w }) plain_below))

pub lists_inside : (k : TwoLevelAggregation) (a : Matrix) (size nodes : ℕ) → any (λ w. leb nodes w) (joined_lists (neighbour_lists k a size nodes)) ≡ false
unfolding neighbour_lists
lists_inside k a size nodes =
    below_none nodes (each_flat_map (λ row. row) (each_tab (list_for k a size nodes) nodes (λ v h. list_below a size nodes v k)))
