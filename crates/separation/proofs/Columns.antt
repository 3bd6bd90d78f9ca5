-- The side of a coarse column: that of the nodes of its group, which are all on one side. Every row's own coarse column is on the row's side.
use Rattle.std.proofs.lemmas.Nat.{div-mul-add}
use mathlib.Core.Path.{◌≡◌, refl, sym, ◌∙◌, subst}
use mathlib.Core.Bool.{Bool, true, false, ◌&&◌}
use mathlib.Core.List.{List, []}
use Prim.Native.Nat.{ℕ, suc, ◌+◌, ◌*◌, ◌/◌, ◌%◌, ◌≤◌, ◌<◌}
use native.Mathlib.Nat.{mod-lt, div-lt_iff_lt-mul, le_trans, mul-le-mul_right}
use native.Mathlib.Omega.{arith}
use lib.Dec.{T, eqb, eqb→eq}
use lib.ListN.{length, get_or}
use lib.Ieee.Fits.{and_i, and_l, and_r, eq→eqb}
use Rattle.definitions.specs.Lists.{tab, up_to, any}
use Rattle.definitions.specs.Refusal.{done}
use Rattle.definitions.specs.Matrix.{Matrix}
use Rattle.definitions.specs.Links.{unconnected}
use Rattle.definitions.specs.Neighbours.{neighbour_lists}
use Rattle.definitions.specs.Groups.{Grouping, no_anchor}
use Rattle.definitions.specs.Transfer.{coarse_column}
use Rattle.definitions.specs.Places.{node_count}
use Rattle.definitions.specs.Setup.{grouping_of}
use Rattle.definitions.specs.Separation.{follows_graph}
use Rattle.definitions.specs.declared.Options.{Options}
use Rattle.laws.proofs.Lists.{Each, each_at, any_tab, tab_any}
use Rattle.laws.proofs.GroupIds.{graph_grouping_lem}
use Rattle.separation.proofs.GroupsApart.{groups_apart}
use Rattle.separation.proofs.Parts.{lists_apart}

-- THE GROUPS OF AN UNCONNECTED PART, under Graph and StrongGraph: nodes with the same number are on the same side
pub nodes_apart : (a : Matrix) (o : Options) (g : Grouping) (part : ℕ → Bool) → T (follows_graph o.aggregation) → T (unconnected a o.block [] part) → 1 ≤ o.group
    → grouping_of o.aggregation a o ≡ done g
    → (u v : ℕ) → u < node_count a o → v < node_count a o → get_or g.ids u 0 ≡ get_or g.ids v 0 → part u ≡ part v
nodes_apart a o g part t u p e =
    subst (λ (x : Grouping). (w v : ℕ) → w < node_count a o → v < node_count a o → get_or x.ids w 0 ≡ get_or x.ids v 0 → part w ≡ part v) (graph_grouping_lem a o g o.aggregation t e)
    (groups_apart (λ v. get_or (neighbour_lists o.aggregation a o.block (node_count a o)) v []) no_anchor (node_count a o) part (lists_apart o.aggregation a o.block part u) o.group p)

-- ---- columns

pub column_below : (rows size count : ℕ) (ids : List ℕ) → 1 ≤ size → rows / size * size ≡ rows → length ids ≡ rows / size → Each (λ x. x < count) ids → (i : ℕ) → i < rows
    → coarse_column size ids i < count * size
unfolding coarse_column
column_below rows size count ids p w l e i h =
    le_trans (step (get_or ids (i / size) 0) size (i % size) (mod-lt i p))
    (mul-le-mul_right size (each_at ids (i / size) 0 e (subst (λ (x : ℕ). i / size < x) (sym l) ((div-lt_iff_lt-mul p).1 (subst (λ (x : ℕ). i < x) (sym w) h)))))
  where
    step : (x y z : ℕ) → z < y → x * y + z < suc x * y
    step x y z g = omega arith

module _ (part : ℕ → Bool) (nodes size : ℕ) (ids : List ℕ) where
  -- some node of the part is in the column's group
  unfoldable pub column_side : ℕ → Bool
  column_side j = any (λ v. part v && eqb (get_or ids v 0) (j / size)) (up_to nodes)

  pub column_side_lem : 1 ≤ size → ((u v : ℕ) → u < nodes → v < nodes → get_or ids u 0 ≡ get_or ids v 0 → part u ≡ part v)
      → (i : ℕ) → i / size < nodes → column_side (coarse_column size ids i) ≡ part (i / size)
  unfolding column_side coarse_column up_to
  column_side_lem p apart i h = go (part (i / size)) refl (any test (tab (λ k. k) nodes)) refl
    where
      v : ℕ
      v = i / size

      back : (get_or ids (i / size) 0 * size + i % size) / size ≡ get_or ids (i / size) 0
      back = div-mul-add (get_or ids (i / size) 0) size (i % size) (mod-lt i p)

      test : ℕ → Bool
      test w = part w && eqb (get_or ids w 0) ((get_or ids (i / size) 0 * size + i % size) / size)

      here : T (part (i / size)) → T (any test (tab (λ k. k) nodes))
      here t = any_tab test (λ k. k) nodes (i / size) h (and_i (part (i / size)) (eqb (get_or ids (i / size) 0) ((get_or ids (i / size) 0 * size + i % size) / size)) t (eq→eqb (sym back)))

      there : T (any test (tab (λ k. k) nodes)) → T (part (i / size))
      there t =
          let r = tab_any test (λ k. k) nodes t in
          let w = r.0 in
          let e : get_or ids w 0 ≡ get_or ids (i / size) 0 = eqb→eq (get_or ids w 0) ((get_or ids (i / size) 0 * size + i % size) / size) (and_r (part w) (eqb (get_or ids w 0) ((get_or ids (i / size) 0 * size + i % size) / size)) r.2) ∙ back in
          subst T (apart w (i / size) r.1 h e) (and_l (part w) (eqb (get_or ids w 0) ((get_or ids (i / size) 0 * size + i % size) / size)) r.2)

      go : (b : Bool) → part (i / size) ≡ b → (c : Bool) → any test (tab (λ k. k) nodes) ≡ c → any test (tab (λ k. k) nodes) ≡ part (i / size)
      go true e true d = d ∙ sym e
      go false e false d = d ∙ sym e
      go true e false d = absurd (subst T d (here (subst T (sym e) tt)))
      go false e true d = absurd (subst T e (there (subst T (sym d) tt)))
