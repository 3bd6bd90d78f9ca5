-- The groups that setup makes: a number for each node, each below the count, and no more groups than nodes.
use mathlib.Core.Path.{◌≡◌, refl, sym, ap, ◌∙◌, subst}
use mathlib.Core.Bool.{Bool, true, false}
use mathlib.Core.List.{List, [], ◌∷◌, ◌++◌, map}
use Prim.Native.Nat.{ℕ, zero, suc, ◌+◌, ◌-◌, ◌*◌, ◌/◌, ◌≤◌, ◌<◌}
use native.Mathlib.Nat.{div-lt_iff_lt-mul, lt-div-mul-add}
use native.Mathlib.Omega.{arith}
use lib.Dec.{T, eqb, ltb}
use lib.ListN.{length, get_or, set, replicate, length-set, length-replicate, length-append, length-map}
use Rattle.definitions.specs.Lists.{any}
use Rattle.definitions.specs.Refusal.{done}
use Rattle.definitions.specs.Matrix.{Matrix}
use Rattle.definitions.specs.Neighbours.{neighbour_lists}
use Rattle.definitions.specs.Groups.{Joining, Groups, Grouping, waiting, free, grow_group, grow_groups, nodes_in, relabelled, joined, replay, place, firsts, renumbered, groups_of, grown, joinings, graph_grouping, contiguous_grouping, no_anchor}
use Rattle.definitions.specs.Places.{node_count}
use Rattle.definitions.specs.Setup.{graph_of, grouping_of}
use Rattle.definitions.specs.Separation.{follows_graph}
use Rattle.definitions.specs.declared.Options.{Options}
use Rattle.definitions.specs.declared.Refusal.TheVariants.{NoNode}
use Rattle.definitions.specs.declared.TwoLevelAggregation.{TwoLevelAggregation}
use Rattle.definitions.specs.declared.TwoLevelAggregation.TheVariants.{Contiguous, Graph, StrongGraph}
use Rattle.laws.proofs.Lists.{Each, each_tab, length_tab}
use Rattle.laws.proofs.Outcomes.{done_inj, test_passed}
use Rattle.laws.proofs.Renumbered.{renumbered_length, renumbered_below}

-- ---- growth and joinings keep a number for each node

either : {A : Type 0} (P : A → Type 0) (b : Bool) (x y : A) → P x → P y → P (elim b [ true ↦ x | false ↦ y ])
either P true x y p q = p
either P false x y p q = q

module _ (lists : ℕ → List ℕ) (anchor : ℕ → Bool) where
  group_length : (g room : ℕ) (ids queue : List ℕ) → length (grow_group lists anchor g room ids queue) ≡ length ids
  unfolding grow_group
  group_length g zero ids queue = refl
  group_length g (suc room) ids queue = go (waiting ids queue) (λ i q. group_length g room i q)
    where
      go : (w : List ℕ) → ((i q : List ℕ) → length (grow_group lists anchor g room i q) ≡ length i)
          → length {A = ℕ} (elim w [ [] ↦ ids | v ∷ rest ↦ grow_group lists anchor g room (set ids v g) (rest ++ free lists anchor (set ids v g) (lists v)) ]) ≡ length ids
      go [] ih = refl
      go (v ∷ rest) ih = ih (set ids v g) (rest ++ free lists anchor (set ids v g) (lists v)) ∙ length-set ids v g

  groups_length : (size left v g : ℕ) (ids : List ℕ) → length (grow_groups lists anchor size left v g ids).0 ≡ length ids
  unfolding grow_groups
  groups_length size zero v g ids = refl
  groups_length size (suc left) v g ids =
      let next : List ℕ = elim (anchor v) [ true ↦ set ids v (suc g) | false ↦ grow_group lists anchor (suc g) size ids (v ∷ []) ] in
      let kept = either (λ l. length l ≡ length ids) (anchor v) (set ids v (suc g)) (grow_group lists anchor (suc g) size ids (v ∷ [])) (length-set ids v (suc g)) (group_length (suc g) size ids (v ∷ [])) in
      either (λ (x : List ℕ × ℕ). length x.0 ≡ length ids) (eqb (get_or ids v 0) 0) (grow_groups lists anchor size left (suc v) (suc g) next) (grow_groups lists anchor size left (suc v) g ids)
      (groups_length size left (suc v) (suc g) next ∙ kept) (groups_length size left (suc v) g ids)

relabelled_length : (b : ℕ) (vs ids : List ℕ) → length (relabelled b vs ids) ≡ length ids
unfolding relabelled
relabelled_length b [] ids = refl
relabelled_length b (v ∷ vs) ids = relabelled_length b vs (set ids v b) ∙ length-set ids v b

replay_length : (js : List Joining) (s : Groups) → length (replay js s).of ≡ length s.of
unfolding replay joined
replay_length [] s = refl
replay_length (j ∷ js) s = replay_length js (joined j s) ∙ relabelled_length j.taker (nodes_in s j.moved) s.of

module _ (lists : ℕ → List ℕ) (anchor : ℕ → Bool) (n size : ℕ) where
  pub grouping_length : length (graph_grouping lists anchor n size).ids ≡ n
  unfolding graph_grouping groups_of grown
  grouping_length =
      renumbered_length (replay (joinings lists anchor n size) (groups_of (grown lists anchor n size).0 (grown lists anchor n size).1)).of
      ∙ replay_length (joinings lists anchor n size) (groups_of (grown lists anchor n size).0 (grown lists anchor n size).1) ∙ groups_length lists anchor size n 0 0 (replicate n 0) ∙ length-replicate n 0

  pub grouping_below : Each (λ g. g < (graph_grouping lists anchor n size).count) (graph_grouping lists anchor n size).ids
  unfolding graph_grouping
  grouping_below = renumbered_below (replay (joinings lists anchor n size) (groups_of (grown lists anchor n size).0 (grown lists anchor n size).1)).of

-- ---- the grouping that setup makes, as the grouping by its lists

pub graph_grouping_lem : (a : Matrix) (o : Options) (g : Grouping) (k : TwoLevelAggregation) → T (follows_graph k) → grouping_of k a o ≡ done g
    → graph_grouping (λ v. get_or (neighbour_lists k a o.block (node_count a o)) v []) no_anchor (node_count a o) o.group ≡ g
unfolding grouping_of graph_of follows_graph
graph_grouping_lem a o g Contiguous t e = absurd t
graph_grouping_lem a o g Graph t e = done_inj (test_passed (ltb 0 (node_count a o)) NoNode _ g e).1
graph_grouping_lem a o g StrongGraph t e = done_inj (test_passed (ltb 0 (node_count a o)) NoNode _ g e).1

-- ---- the groups that setup makes: a number for each node, below the count

contiguous_below : (nodes size v : ℕ) → 1 ≤ size → v < nodes → v / size < (nodes + (size - 1)) / size
contiguous_below nodes size v p h = (div-lt_iff_lt-mul p).1 (low (lt-div-mul-add p))
  where
    low : nodes + (size - 1) < (nodes + (size - 1)) / size * size + size → v < (nodes + (size - 1)) / size * size
    low l = omega arith

pub ids_length : (a : Matrix) (o : Options) (g : Grouping) (k : TwoLevelAggregation) → grouping_of k a o ≡ done g → length g.ids ≡ node_count a o
unfolding grouping_of contiguous_grouping follows_graph
ids_length a o g Contiguous e = ap (λ (x : Grouping). length x.ids) (sym (done_inj e)) ∙ length_tab (λ v. v / o.group) (node_count a o)
ids_length a o g Graph e = ap (λ (x : Grouping). length x.ids) (sym (graph_grouping_lem a o g Graph tt e)) ∙ grouping_length _ no_anchor (node_count a o) o.group
ids_length a o g StrongGraph e = ap (λ (x : Grouping). length x.ids) (sym (graph_grouping_lem a o g StrongGraph tt e)) ∙ grouping_length _ no_anchor (node_count a o) o.group

pub ids_below : (a : Matrix) (o : Options) (g : Grouping) (k : TwoLevelAggregation) → 1 ≤ o.group → grouping_of k a o ≡ done g → Each (λ x. x < g.count) g.ids
unfolding grouping_of contiguous_grouping follows_graph
ids_below a o g Contiguous p e =
    subst (λ (x : Grouping). Each (λ y. y < x.count) x.ids) (done_inj e)
    (each_tab (λ v. v / o.group) (node_count a o) (λ v h. contiguous_below (node_count a o) o.group v p h))
ids_below a o g Graph p e = subst (λ (x : Grouping). Each (λ y. y < x.count) x.ids) (graph_grouping_lem a o g Graph tt e) (grouping_below _ no_anchor (node_count a o) o.group)
ids_below a o g StrongGraph p e = subst (λ (x : Grouping). Each (λ y. y < x.count) x.ids) (graph_grouping_lem a o g StrongGraph tt e) (grouping_below _ no_anchor (node_count a o) o.group)

-- ---- no more groups than nodes

firsts_few : (seen xs : List ℕ) → length (firsts seen xs) ≤ length seen + length xs
unfolding firsts
firsts_few seen [] = omega arith
firsts_few seen (x ∷ xs) = go (any (λ y. eqb x y) seen) (firsts_few seen xs) (firsts_few (seen ++ (x ∷ [])) xs)
  where
    go : (b : Bool) → length (firsts seen xs) ≤ length seen + length xs → length (firsts (seen ++ (x ∷ [])) xs) ≤ length (seen ++ (x ∷ [])) + length xs
        → length {A = ℕ} (elim b [ true ↦ firsts seen xs | false ↦ firsts (seen ++ (x ∷ [])) xs ]) ≤ length seen + suc (length xs)
    go true h k = omega arith
    go false h k = omega (arith, length-append seen (x ∷ []))

contiguous_few : (nodes size : ℕ) → 1 ≤ size → (nodes + (size - 1)) / size ≤ nodes
contiguous_few nodes (suc size) h = lower ((nodes + (suc size - 1)) / suc size) nodes ((div-lt_iff_lt-mul {k = suc size} (omega arith)).1 (grow nodes size))
  where
    grow : (x y : ℕ) → x + (suc y - 1) < suc x * suc y
    grow x y = omega arith

    lower : (x y : ℕ) → x < suc y → x ≤ y
    lower x y l = omega arith
contiguous_few nodes zero h = elim h [ ]

graph_few : (lists : ℕ → List ℕ) (n size : ℕ) → (graph_grouping lists no_anchor n size).count ≤ n
unfolding graph_grouping renumbered
graph_few lists n size = go (replay (joinings lists no_anchor n size) (groups_of (grown lists no_anchor n size).0 (grown lists no_anchor n size).1)).of (grouping_length lists no_anchor n size)
  where
    go : (ids : List ℕ) → length (map (λ x. place x (firsts [] ids)) ids) ≡ n → length (firsts [] ids) ≤ n
    go ids l = omega (arith, l, length-map ids (λ x. place x (firsts [] ids)), firsts_few [] ids)

pub count_few : (a : Matrix) (o : Options) (g : Grouping) (k : TwoLevelAggregation) → 1 ≤ o.group → grouping_of k a o ≡ done g → g.count ≤ node_count a o
unfolding grouping_of contiguous_grouping follows_graph
count_few a o g Contiguous p e = subst (λ (x : Grouping). x.count ≤ node_count a o) (done_inj e) (contiguous_few (node_count a o) o.group p)
count_few a o g Graph p e = subst (λ (x : Grouping). x.count ≤ node_count a o) (graph_grouping_lem a o g Graph tt e) (graph_few _ (node_count a o) o.group)
count_few a o g StrongGraph p e = subst (λ (x : Grouping). x.count ≤ node_count a o) (graph_grouping_lem a o g StrongGraph tt e) (graph_few _ (node_count a o) o.group)
