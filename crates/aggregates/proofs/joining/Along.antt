-- EACH JOINING IN THE STATE IN WHICH IT HAPPENS: it moves a group above 0 to the group that the order puts first among those named, and group 0 has no member there.
-- A round makes no other joinings, and the rounds follow one another.
use mathlib.Core.Path.{◌≡◌, refl}
use mathlib.Core.List.{List, [], ◌∷◌, ◌++◌}
use Prim.Native.Nat.{ℕ, zero, suc, ◌<◌}
use native.Mathlib.Omega.{arith}
use lib.Dec.{ltb}
use Rattle.definitions.specs.Groups.{Joining, Groups, nodes_in, size_in, joined, replay, edges_to, chosen, named_groups, taker_of, round_from, joinings_from, floor_of, grown, joinings, no_anchor}
use Rattle.aggregates.proofs.Stops.{by_test, round_stays, round_joins, rounds_end, rounds_go, start}
use Rattle.aggregates.proofs.joining.Grouped.{none_grown, none_joined}

-- what holds of each of some joinings, made one after another
abbrev pub Along : (Groups → Joining → Type 0) → List Joining → Groups → Type 0
Along P [] s = Unit {0}
Along P (j ∷ js) s = P s j × Along P js (joined j s)

along_append : (P : Groups → Joining → Type 0) (js ks : List Joining) (s : Groups) → Along P js s → Along P ks (replay js s) → Along P (js ++ ks) s
unfolding replay
along_append P [] ks s a b = b
along_append P (j ∷ js) ks s a b = (a.0, along_append P js ks (joined j s) a.1 b)

-- the joining behind some others
pub along_at : (P : Groups → Joining → Type 0) (js : List Joining) (j : Joining) (ks : List Joining) (s : Groups) → Along P (js ++ (j ∷ ks)) s → P (replay js s) j
unfolding replay
along_at P [] j ks s a = a.0
along_at P (i ∷ js) j ks s a = along_at P js j ks (joined i s) a.1

module _ (lists : ℕ → List ℕ) where
  abbrev pub names_at : Groups → ℕ → List ℕ
  names_at s g = named_groups lists no_anchor g s (nodes_in s g)

  pub record Made (s : Groups) (j : Joining) : Type 0 where
    pub from : 0 < j.moved
    pub to : 0 < j.taker
    pub first : chosen (edges_to (names_at s j.moved)) (size_in s) 0 (names_at s j.moved) ≡ j.taker
    pub none : size_in s 0 ≡ 0

  none_after : (js : List Joining) (s : Groups) → Along Made js s → size_in s 0 ≡ 0 → size_in (replay js s) 0 ≡ 0
  unfolding replay
  none_after [] s a z = z
  none_after (j ∷ js) s a z = none_after js (joined j s) a.1 (none_joined j s a.0.from a.0.to z)

  taker_first : (floor : ℕ) (s : Groups) (g b : ℕ) → taker_of lists no_anchor floor s g ≡ suc b → chosen (edges_to (names_at s g)) (size_in s) 0 (names_at s g) ≡ suc b
  unfolding taker_of
  taker_first floor s g b e = by_test (ltb 0 (size_in s g))
      (λ t. by_test (ltb (size_in s g) floor)
      (λ u. rw (t, u, taker_of) at e)
      (λ u. let z : ◌≡◌ {A = ℕ} 0 (suc b) = rw (t, u, taker_of) at e in omega arith))
      (λ t. let z : ◌≡◌ {A = ℕ} 0 (suc b) = rw (t, taker_of) at e in omega arith)

  module _ (floor : ℕ) where
    round_made : (left g : ℕ) (s : Groups) → 0 < g → size_in s 0 ≡ 0 → Along Made (round_from lists no_anchor floor left g s) s
    unfolding round_from
    round_made zero g s pos z = tt
    round_made (suc left) g s pos z = go (taker_of lists no_anchor floor s g) refl (round_made left (suc g) s (omega arith) z) (λ j. round_made left (suc g) (joined j s) (omega arith))
      where
        go : (t : ℕ) → taker_of lists no_anchor floor s g ≡ t → Along Made (round_from lists no_anchor floor left (suc g) s) s
            → ((j : Joining) → size_in (joined j s) 0 ≡ 0 → Along Made (round_from lists no_anchor floor left (suc g) (joined j s)) (joined j s)) → Along Made (round_from lists no_anchor floor (suc left) g s) s
        go zero e stays joins = rw (round_stays lists no_anchor floor left g s e) stays
        go (suc b) e stays joins =
            let j : Joining = record { moved = g; taker = suc b } in
            rw (round_joins lists no_anchor floor left g b s j refl e) (record { from = pos; to = omega arith; first = taker_first floor s g b e; none = z }, joins j (none_joined j s pos (omega arith) z))

    rounds_made : (count fuel : ℕ) (s : Groups) → size_in s 0 ≡ 0 → Along Made (joinings_from lists no_anchor floor count fuel s) s
    unfolding joinings_from
    rounds_made count zero s z = tt
    rounds_made count (suc fuel) s z = go (round_from lists no_anchor floor count 1 s) refl (round_made count 1 s (omega arith) z) (λ js. rounds_made count fuel (replay js s))
      where
        go : (js : List Joining) → round_from lists no_anchor floor count 1 s ≡ js → Along Made (round_from lists no_anchor floor count 1 s) s
            → ((ks : List Joining) → size_in (replay ks s) 0 ≡ 0 → Along Made (joinings_from lists no_anchor floor count fuel (replay ks s)) (replay ks s)) → Along Made (joinings_from lists no_anchor floor count (suc fuel) s) s
        go [] e this next = rw (rounds_end lists no_anchor floor count (suc fuel) s e) tt
        go (j ∷ js) e this next =
            let made = rw e at this in
            rw (rounds_go lists no_anchor floor count fuel s (j ∷ js) (omega arith) e) (along_append Made (j ∷ js) (joinings_from lists no_anchor floor count fuel (replay (j ∷ js) s)) s made (next (j ∷ js) (none_after (j ∷ js) s made z)))

  -- every joining of a grouping
  pub all_made : (nodes size : ℕ) → 0 < size → Along Made (joinings lists no_anchor nodes size) (start lists no_anchor nodes size)
  unfolding joinings
  all_made nodes size pos = rounds_made (floor_of size) (grown lists no_anchor nodes size).1 (suc (grown lists no_anchor nodes size).1) (start lists no_anchor nodes size) (none_grown lists nodes size pos)
