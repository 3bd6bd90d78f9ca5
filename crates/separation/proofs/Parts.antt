-- An unconnected part, row by row: each stored entry leads to a column on its row's side. So a node's list names only nodes on its own side, and so do its groups.
use Rattle.std.proofs.lemmas.Nat.{div-mul-add}
use mathlib.Core.Path.{◌≡◌, refl, sym, ap, ◌∙◌}
use mathlib.Core.Bool.{Bool, true, false, not, ◌&&◌, beq}
use mathlib.Core.List.{List, [], ◌∷◌}
use Prim.Native.Nat.{ℕ, suc, ◌+◌, ◌*◌, ◌/◌, ◌<◌}
use native.Mathlib.Nat.{le_trans, div-mul-le_self, mul-le-mul_right}
use native.Mathlib.Omega.{arith}
use lib.Dec.{T, eqb, eqb→eq}
use lib.ListN.{get_or}
use lib.Ieee.Fits.{and_l, and_r}
use Rattle.definitions.specs.Lists.{up_to, any, all}
use Rattle.definitions.specs.Matrix.{Matrix, entries_of}
use Rattle.definitions.specs.Links.{node_entries, unconnected}
use Rattle.definitions.specs.Neighbours.{neighbours_of, strength, Neighbour, stronger, inserted, sorted, strong_neighbours_of, list_for, neighbour_lists}
use Rattle.definitions.specs.declared.TwoLevelAggregation.{TwoLevelAggregation}
use Rattle.definitions.specs.declared.TwoLevelAggregation.TheVariants.{Contiguous, Graph, StrongGraph}
use Rattle.laws.proofs.Lists.{Each, none, more, each_imp, each_any, each_all, each_keep, each_map, each_flat_map, each_up_to, all_up_to, any_each, tab_reads}

beq_is : (s t : Bool) → T (beq s t) → s ≡ t
beq_is true true h = refl
beq_is true false h = absurd h
beq_is false true h = absurd h
beq_is false false h = refl

-- ---- the entries of a row

pub entries_apart : (a : Matrix) (size : ℕ) (part : ℕ → Bool) → T (unconnected a size [] part)
    → (row : ℕ) → row < a.rows → Each (λ e. part (row / size) ≡ part (e.col / size)) (entries_of a row)
unfolding unconnected all
entries_apart a size part u row h =
    each_imp (λ e t. beq_is (part (row / size)) (part (e.col / size)) t)
    (each_all (λ e. beq (part (row / size)) (part (e.col / size))) (entries_of a row)
    (all_up_to (λ k. all (λ e. beq (part (k / size)) (part (e.col / size))) (entries_of a k)) a.rows
    (and_l (all (λ k. all (λ e. beq (part (k / size)) (part (e.col / size))) (entries_of a k)) (up_to a.rows)) true u) row h))

-- ---- the entries of a node, and its lists

pub row_of_node : (rows size v i : ℕ) → v < rows / size → i < size → v * size + i < rows
row_of_node rows size v i h l = le_trans (step v size i l) (le_trans (mul-le-mul_right size h) (div-mul-le_self rows size))
  where
    step : (x y z : ℕ) → z < y → x * y + z < suc x * y
    step x y z g = omega arith

module _ (a : Matrix) (size : ℕ) (part : ℕ → Bool) (u : T (unconnected a size [] part)) (v : ℕ) (h : v < a.rows / size) where
  node_entries_apart : Each (λ e. part (e.col / size) ≡ part v) (node_entries a size v)
  unfolding node_entries
  node_entries_apart =
      each_flat_map (λ i. entries_of a (v * size + i)) (each_up_to size
      (λ i l. each_imp (λ e k. sym k ∙ ap part (div-mul-add v size i l)) (entries_apart a size part u (v * size + i) (row_of_node a.rows size v i h l))))

  neighbours_apart : (nodes : ℕ) → Each (λ w. part w ≡ part v) (neighbours_of a size nodes v)
  unfolding neighbours_of
  neighbours_apart nodes =
      each_keep (λ w. not (eqb w v) && any (λ e. eqb (e.col / size) w) (node_entries a size v)) (each_any (up_to nodes) (λ w t. named w (and_r (not (eqb w v)) (any (λ e. eqb (e.col / size) w) (node_entries a size v)) t)))
    where
      named : (w : ℕ) → T (any (λ e. eqb (e.col / size) w) (node_entries a size v)) → part w ≡ part v
      named w t = let r = any_each (λ e. eqb (e.col / size) w) node_entries_apart t in sym (ap part (eqb→eq (r.0.col / size) w r.2)) ∙ r.1

  inserted_each : {P : Neighbour → Type 0} (x : Neighbour) {ys : List Neighbour} → P x → Each P ys → Each P (inserted x ys)
  unfolding inserted
  inserted_each x p none = more p none
  inserted_each {P} x p (more {x = y} {xs = ys} q k) = go (stronger x y) (inserted_each x p k)
    where
      go : (b : Bool) → Each P (inserted x ys) → Each P (elim b [ true ↦ x ∷ (y ∷ ys) | false ↦ y ∷ inserted x ys ])
      go true r = more p (more q k)
      go false r = more q r

  sorted_each : {P : Neighbour → Type 0} {xs : List Neighbour} → Each P xs → Each P (sorted xs)
  unfolding sorted
  sorted_each none = none
  sorted_each (more {x = x} p k) = inserted_each x p (sorted_each k)

  strong_apart : (nodes : ℕ) → Each (λ w. part w ≡ part v) (strong_neighbours_of a size nodes v)
  unfolding strong_neighbours_of
  strong_apart nodes = each_map (λ x. x.node) (sorted_each (each_map (λ w. record { node = w; strong = strength a size v w }) (neighbours_apart nodes)))

  listed_apart : (g : TwoLevelAggregation) (nodes : ℕ) → Each (λ w. part w ≡ part v) (list_for g a size nodes v)
  unfolding list_for
  listed_apart Contiguous nodes = none
  listed_apart Graph nodes = neighbours_apart nodes
  listed_apart StrongGraph nodes = strong_apart nodes

pub lists_apart : (g : TwoLevelAggregation) (a : Matrix) (size : ℕ) (part : ℕ → Bool) → T (unconnected a size [] part)
    → (v : ℕ) → Each (λ w. part w ≡ part v) (get_or (neighbour_lists g a size (a.rows / size)) v [])
unfolding neighbour_lists
lists_apart g a size part u v =
    tab_reads (Each (λ w. part w ≡ part v)) (list_for g a size (a.rows / size)) (a.rows / size) v [] (λ h. listed_apart a size part u v h g (a.rows / size)) none
