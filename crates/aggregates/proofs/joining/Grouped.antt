-- GROUP 0 HAS NO MEMBER: growth puts every node into a group above 0, and a joining moves members only between groups above 0. So no group that is named is 0.
use mathlib.Core.Path.{◌≡◌, refl, ap, ◌∙◌}
use mathlib.Core.Bool.{Bool, ◌||◌}
use mathlib.Core.List.{List, [], ◌∷◌, ◌++◌}
use Prim.Native.Nat.{ℕ, zero, suc, ◌<◌}
use native.Mathlib.Omega.{arith}
use borrow.Author.Tests.{eqb-false}
use lib.Dec.{eqb}
use lib.ListN.{length, get_or, set}
use lib.Seq.{get_or-set_other}
use Rattle.definitions.specs.Lists.{tab}
use Rattle.definitions.specs.Groups.{Groups, Joining, nodes_in, size_in, joined, replay, other_groups, named_groups, nodes_of, groups_of, grown, no_anchor, taker_of}
use Rattle.laws.proofs.Tests.{both_false}
use Rattle.laws.proofs.Lists.{Each, none, more, each_append}
use Rattle.aggregates.specs.JoinState.{turn_of}
use Rattle.aggregates.proofs.Stops.{by_test}
use Rattle.aggregates.proofs.growth.Between.{grown_all}
use Rattle.aggregates.proofs.joining.Linking.{nodes_passes}
use Rattle.aggregates.proofs.joining.Turns.{turn_stays, turn_joins}

none_nodes : (v : ℕ) (ids : List ℕ) → ((k : ℕ) → k < length ids → 0 < get_or ids k 0) → length (nodes_of 0 v ids) ≡ 0
unfolding nodes_of
none_nodes v [] h = refl
none_nodes v (x ∷ xs) h = rw (nodes_passes 0 v x xs (λ e. omega (arith, h 0 (omega arith)))) (none_nodes (suc v) xs (λ k l. h (suc k) (omega arith)))

pub none_grown : (lists : ℕ → List ℕ) (nodes size : ℕ) → 0 < size → size_in (groups_of (grown lists no_anchor nodes size).0 (grown lists no_anchor nodes size).1) 0 ≡ 0
unfolding groups_of tab
none_grown lists nodes size pos = let g = grown_all lists nodes size pos in none_nodes 0 (grown lists no_anchor nodes size).0 (λ v h. g.some v (omega (arith, g.long)))

-- a joining between groups above 0
pub none_joined : (j : Joining) (s : Groups) → 0 < j.moved → 0 < j.taker → size_in s 0 ≡ 0 → size_in (joined j s) 0 ≡ 0
unfolding joined
none_joined j s hm ht z =
    let both = nodes_in s j.moved ++ nodes_in s j.taker in
    ap length (get_or-set_other (set s.members j.taker both) j.moved 0 [] [] (λ e. omega arith) ∙ get_or-set_other s.members j.taker 0 both [] (λ e. omega arith)) ∙ z

pub none_turn : (lists : ℕ → List ℕ) (floor : ℕ) (s : Groups) (g : ℕ) → 0 < g → size_in s 0 ≡ 0 → size_in (replay (turn_of lists floor s g) s) 0 ≡ 0
unfolding replay
none_turn lists floor s g pos z = go (taker_of lists no_anchor floor s g) refl
  where
    go : (t : ℕ) → taker_of lists no_anchor floor s g ≡ t → size_in (replay (turn_of lists floor s g) s) 0 ≡ 0
    go zero e = rw (turn_stays lists floor s g e) z
    go (suc b) e = let j : Joining = record { moved = g; taker = suc b } in rw (turn_joins lists floor s g b j refl e) (none_joined j s pos (omega arith) z)

module _ (lists : ℕ → List ℕ) (anchor : ℕ → Bool) (g : ℕ) (s : Groups) (empty : size_in s 0 ≡ 0) where
  others_positive : (ws : List ℕ) → Each (λ o. 0 < o) (other_groups lists anchor g s ws)
  unfolding other_groups
  others_positive [] = none
  others_positive (w ∷ ws) =
      let o = get_or s.of w 0 in
      by_test (anchor w || eqb o g || eqb (size_in s o) 0)
      (λ e. rw (other_groups, e) (others_positive ws))
      (λ e. rw (other_groups, e) (more (above o (eqb-false (size_in s o) 0 (both_false (anchor w || eqb o g) (eqb (size_in s o) 0) e).1)) (others_positive ws)))
    where
      above : (o : ℕ) → (size_in s o ≡ 0 → ⊥) → 0 < o
      above zero d = absurd (d empty)
      above (suc o) d = omega arith

  each_positive : (vs : List ℕ) → Each (λ o. 0 < o) (named_groups lists anchor g s vs)
  unfolding named_groups
  each_positive [] = none
  each_positive (v ∷ vs) = by_test (anchor v)
      (λ e. rw (named_groups, e) (each_positive vs))
      (λ e. rw (named_groups, e) (each_append (others_positive (lists v)) (each_positive vs)))

pub named_positive : (lists : ℕ → List ℕ) (g : ℕ) (s : Groups) (vs : List ℕ) → size_in s 0 ≡ 0 → Each (λ o. 0 < o) (named_groups lists no_anchor g s vs)
named_positive lists g s vs z = each_positive lists no_anchor g s z vs
