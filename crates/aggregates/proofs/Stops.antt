-- JOINING STOPS. Each joining lowers the number of groups that have members by exactly one; so there are fewer joinings than grown groups,
-- and after the rounds of `joinings_from` one round more joins nothing. For any lists and any anchors.
use Rattle.std.specs.List.{sum_by}
use Rattle.std.proofs.lemmas.List.Sums.{sum_by-cons, sum_by-set, get_or-le-sum_by}
use mathlib.Core.Path.{◌≡◌, refl, sym, ◌∙◌}
use mathlib.Core.Bool.{Bool, true, false, ◌||◌}
use mathlib.Core.List.{List, [], ◌∷◌, ◌++◌}
use Prim.Native.Nat.{ℕ, zero, suc, ◌+◌, ◌-◌, ◌≤◌, ◌<◌}
use native.Mathlib.Omega.{arith}
use borrow.Author.Tests.{eqb-false, ltb-true, ne_eqb}
use lib.Dec.{eqb, ltb}
use lib.ListN.{length, get_or, set, length-set, length-append}
use lib.Seq.{get_or-set_same, get_or-set_other}
use Rattle.definitions.specs.Lists.{tab}
use Rattle.definitions.specs.Groups.{Joining, Groups, nodes_in, size_in, joined, replay, edges_to, before, chosen, other_groups, named_groups, taker_of, round_from, joinings_from, floor_of, nodes_of, groups_of, grown, joinings}
use Rattle.laws.proofs.Tests.{both_false}
use Rattle.laws.proofs.Lists.{Each, none, more, each_head, each_tail, each_imp, each_append, length_tab}

-- 1 for a group with members
abbrev ne : List ℕ → ℕ
ne [] = 0
ne (v ∷ vs) = 1

-- how many groups have members
unfoldable pub alive : List (List ℕ) → ℕ
alive ms = sum_by ne ms

-- ---- ONE JOINING

alive_set : (ms : List (List ℕ)) (i : ℕ) (x : List ℕ) → i < length ms → alive (set ms i x) + ne (get_or ms i []) ≡ alive ms + ne x
unfolding alive
alive_set ms i x h = sum_by-set ne ms i x [] h

ne_long : (m : List ℕ) → 0 < length m → ne m ≡ 1
ne_long [] h = omega arith
ne_long (v ∷ m) h = refl

-- an index at which a list has something other than the default is within the list
pub within : (ms : List (List ℕ)) (i : ℕ) → 0 < length (get_or ms i []) → i < length ms
within [] i h = omega arith
within (m ∷ ms) zero h = omega arith
within (m ∷ ms) (suc i) h = omega (arith, within ms i h)

alive_has : (ms : List (List ℕ)) (i : ℕ) → 0 < length (get_or ms i []) → 0 < alive ms
unfolding alive
alive_has ms i h = omega (arith, ne_long (get_or ms i []) h, get_or-le-sum_by ne ms i [] (within ms i h))

-- a group that g may join: it has members, and is not g
abbrev pub Other : ℕ → (ℕ → ℕ) → ℕ → Type 0
Other g sizes o = (0 < sizes o) × (o ≡ g → ⊥)

module _ (j : Joining) (s : Groups) (some : 0 < size_in s j.moved) (other : Other j.moved (size_in s) j.taker) where
  both : List ℕ
  both = nodes_in s j.moved ++ nodes_in s j.taker

  both_long : 0 < length both
  unfolding both
  both_long = omega (arith, length-append (nodes_in s j.moved) (nodes_in s j.taker))

  -- one joining lowers the number of groups that have members by one
  pub joined_lowers : suc (alive (joined j s).members) ≡ alive s.members
  unfolding joined both
  joined_lowers =
      let ms = s.members in
      let one = alive_set ms j.taker both (within ms j.taker other.0) in
      let two = alive_set (set ms j.taker both) j.moved [] (rw length-set (within ms j.moved some)) in
      let kept = get_or-set_other ms j.taker j.moved both [] (λ e. other.1 (sym e)) in
      let two' = rw kept at two in
      omega (arith, ne_long (nodes_in s j.moved) some, ne_long (nodes_in s j.taker) other.0, ne_long both both_long)

  pub joined_some : 0 < alive (joined j s).members
  unfolding joined both
  joined_some =
      let ms = s.members in
      let m1 = set ms j.taker both in
      let e : get_or (set m1 j.moved []) j.taker [] ≡ both = get_or-set_other m1 j.moved j.taker [] [] other.1 ∙ get_or-set_same ms j.taker both [] (within ms j.taker other.0) in
      alive_has (set m1 j.moved []) j.taker (rw e both_long)

-- ---- WHAT A GROUP JOINS is another group that has members

pub by_test {ℓ} : {X : Type ℓ} (b : Bool) → (b ≡ true → X) → (b ≡ false → X) → X
by_test true t f = t refl
by_test false t f = f refl

pub chosen_keeps : (Q : ℕ → Type 0) (e m : ℕ → ℕ) (best : ℕ) (l : List ℕ) → Q best → Each Q l → Q (chosen e m best l)
unfolding chosen
chosen_keeps Q e m best [] q a = q
chosen_keeps Q e m best (x ∷ l) q a = by_test (eqb best 0 || before e m x best)
    (λ t. rw (chosen, t) (chosen_keeps Q e m x l (each_head a) (each_tail a)))
    (λ t. rw (chosen, t) (chosen_keeps Q e m best l q (each_tail a)))

module _ (lists : ℕ → List ℕ) (anchor : ℕ → Bool) where
  others_other : (g : ℕ) (s : Groups) (ws : List ℕ) → Each (Other g (size_in s)) (other_groups lists anchor g s ws)
  unfolding other_groups
  others_other g s [] = none
  others_other g s (w ∷ ws) =
      let o = get_or s.of w 0 in
      by_test (anchor w || eqb o g || eqb (size_in s o) 0)
      (λ e. rw (other_groups, e) (others_other g s ws))
      (λ e.
      let z = both_false (anchor w || eqb o g) (eqb (size_in s o) 0) e in
      let y = both_false (anchor w) (eqb o g) z.0 in
      rw (other_groups, e) (more {x = o} (omega (arith, eqb-false (size_in s o) 0 z.1), eqb-false o g y.1) (others_other g s ws)))

  named_other : (g : ℕ) (s : Groups) (vs : List ℕ) → Each (Other g (size_in s)) (named_groups lists anchor g s vs)
  unfolding named_groups
  named_other g s [] = none
  named_other g s (v ∷ vs) = by_test (anchor v)
      (λ e. rw (named_groups, e) (named_other g s vs))
      (λ e. rw (named_groups, e) (each_append (others_other g s (lists v)) (named_other g s vs)))

  -- a group that joins another has members, and so has the other
  pub taker_other : (floor g b : ℕ) (s : Groups) → taker_of lists anchor floor s g ≡ suc b → (0 < size_in s g) × Other g (size_in s) (suc b)
  unfolding taker_of
  taker_other floor g b s e =
      let names = named_groups lists anchor g s (nodes_in s g) in
      by_test (ltb 0 (size_in s g))
      (λ t. by_test (ltb (size_in s g) floor)
      (λ u.
      let e' : chosen (edges_to names) (size_in s) 0 names ≡ suc b = rw (t, u, taker_of) at e in
      let k = chosen_keeps (λ o. o ≡ suc b → Other g (size_in s) (suc b)) (edges_to names) (size_in s) 0 names (λ z. omega arith) (each_imp (λ x p q. rw q at p) (named_other g s (nodes_in s g))) in
      (ltb-true 0 _ t, k e'))
      (λ u. let z : ◌≡◌ {A = ℕ} 0 (suc b) = rw (t, u, taker_of) at e in omega arith))
      (λ t. let z : ◌≡◌ {A = ℕ} 0 (suc b) = rw (t, taker_of) at e in omega arith)

-- ---- MANY JOININGS

-- each of some joinings, made one after another, lowers the number of groups that have members by exactly one, and leaves some
abbrev pub Shrinks : List Joining → Groups → Type 0
Shrinks [] s = Unit {0}
Shrinks (j ∷ js) s = (suc (alive (joined j s).members) ≡ alive s.members) × (0 < alive (joined j s).members) × Shrinks js (joined j s)

pub replay_append : (xs ys : List Joining) (s : Groups) → replay (xs ++ ys) s ≡ replay ys (replay xs s)
unfolding replay
replay_append [] ys s = refl
replay_append (x ∷ xs) ys s = replay_append xs ys (joined x s)

shrinks_append : (xs ys : List Joining) (s : Groups) → Shrinks xs s → Shrinks ys (replay xs s) → Shrinks (xs ++ ys) s
unfolding replay
shrinks_append [] ys s a b = b
shrinks_append (x ∷ xs) ys s a b = (a.0, a.1, shrinks_append xs ys (joined x s) a.2 b)

pub shrinks_count : (js : List Joining) (s : Groups) → Shrinks js s → length js + alive (replay js s).members ≡ alive s.members
unfolding replay
shrinks_count [] s a = omega arith
shrinks_count (j ∷ js) s a = omega (arith, a.0, shrinks_count js (joined j s) a.2)

shrinks_few : (js : List Joining) (s : Groups) → Shrinks js s → length js ≤ alive s.members - 1
shrinks_few [] s a = omega arith
shrinks_few (j ∷ js) s a = omega (arith, a.0, a.1, shrinks_few js (joined j s) a.2)

module _ (lists : ℕ → List ℕ) (anchor : ℕ → Bool) (floor : ℕ) where
  pub round_stays : (left g : ℕ) (s : Groups) → taker_of lists anchor floor s g ≡ 0 → round_from lists anchor floor (suc left) g s ≡ round_from lists anchor floor left (suc g) s
  unfolding round_from
  round_stays left g s e = rw (e, round_from)

  pub round_joins : (left g b : ℕ) (s : Groups) (j : Joining) → j ≡ record { moved = g; taker = suc b } → taker_of lists anchor floor s g ≡ suc b → round_from lists anchor floor (suc left) g s ≡ j ∷ round_from lists anchor floor left (suc g) (joined j s)
  unfolding round_from
  round_joins left g b s j is e = rw (is, e, round_from)

  round_shrinks : (left g : ℕ) (s : Groups) → Shrinks (round_from lists anchor floor left g s) s
  unfolding round_from
  round_shrinks zero g s = tt
  round_shrinks (suc left) g s = go (taker_of lists anchor floor s g) refl (round_shrinks left (suc g) s) (λ b. round_shrinks left (suc g) (joined (record { moved = g; taker = suc b }) s))
    where
      go : (t : ℕ) → taker_of lists anchor floor s g ≡ t → Shrinks (round_from lists anchor floor left (suc g) s) s → ((b : ℕ) → Shrinks (round_from lists anchor floor left (suc g) (joined (record { moved = g; taker = suc b }) s)) (joined (record { moved = g; taker = suc b }) s)) → Shrinks (round_from lists anchor floor (suc left) g s) s
      go zero e stays joins = rw (round_stays left g s e) stays
      go (suc b) e stays joins =
          let o = taker_other lists anchor floor g b s e in
          let j : Joining = record { moved = g; taker = suc b } in
          rw (round_joins left g b s j refl e) (joined_lowers j s o.0 o.1, joined_some j s o.0 o.1, joins b)

  -- a round lowers the number of groups that have members by the number of its joinings
  pub round_lowers : (left g : ℕ) (s : Groups) → length (round_from lists anchor floor left g s) + alive (replay (round_from lists anchor floor left g s) s).members ≡ alive s.members
  round_lowers left g s = shrinks_count (round_from lists anchor floor left g s) s (round_shrinks left g s)

  pub rounds_end : (count fuel : ℕ) (s : Groups) → round_from lists anchor floor count 1 s ≡ [] → joinings_from lists anchor floor count fuel s ≡ []
  unfolding joinings_from
  rounds_end count zero s e = refl
  rounds_end count (suc fuel) s e = rw (joinings_from, e)

  pub rounds_go : (count fuel : ℕ) (s : Groups) (js : List Joining) → 0 < length js → round_from lists anchor floor count 1 s ≡ js → joinings_from lists anchor floor count (suc fuel) s ≡ js ++ joinings_from lists anchor floor count fuel (replay js s)
  unfolding joinings_from
  rounds_go count fuel s [] h e = absurd (omega arith)
  rounds_go count fuel s (j ∷ js) h e = rw (joinings_from, e)

  -- EACH JOINING LOWERS THE NUMBER OF GROUPS THAT HAVE MEMBERS BY EXACTLY ONE
  pub joinings_shrink : (count fuel : ℕ) (s : Groups) → Shrinks (joinings_from lists anchor floor count fuel s) s
  unfolding joinings_from
  joinings_shrink count zero s = tt
  joinings_shrink count (suc fuel) s = go (round_from lists anchor floor count 1 s) refl (joinings_shrink count fuel (replay (round_from lists anchor floor count 1 s) s))
    where
      go : (js : List Joining) → round_from lists anchor floor count 1 s ≡ js → Shrinks (joinings_from lists anchor floor count fuel (replay (round_from lists anchor floor count 1 s) s)) (replay (round_from lists anchor floor count 1 s) s) → Shrinks (joinings_from lists anchor floor count (suc fuel) s) s
      go [] e next = rw (rounds_end count (suc fuel) s e) tt
      go (j ∷ js) e next = rw (rounds_go count fuel s (j ∷ js) (omega arith) e) (shrinks_append (j ∷ js) (joinings_from lists anchor floor count fuel (replay (j ∷ js) s)) s (rw e at (round_shrinks count 1 s)) (rw e at next))

  -- THERE ARE FEWER JOININGS THAN GROUPS THAT HAVE MEMBERS
  pub joinings_few : (count fuel : ℕ) (s : Groups) → length (joinings_from lists anchor floor count fuel s) ≤ alive s.members - 1
  joinings_few count fuel s = shrinks_few (joinings_from lists anchor floor count fuel s) s (joinings_shrink count fuel s)

  -- with as many rounds as groups that have members, one round more joins nothing
  pub settled : (count fuel : ℕ) (s : Groups) → alive s.members ≤ fuel → round_from lists anchor floor count 1 (replay (joinings_from lists anchor floor count fuel s) s) ≡ []
  unfolding joinings_from replay
  settled count zero s h = none (round_from lists anchor floor count 1 s) (omega (arith, round_lowers count 1 s))
    where
      none : (js : List Joining) → length js ≡ 0 → js ≡ []
      none [] e = refl
      none (j ∷ js) e = absurd (omega arith)
  settled count (suc fuel) s h = go (round_from lists anchor floor count 1 s) refl (λ a. settled count fuel (replay (round_from lists anchor floor count 1 s) s) a)
    where
      go : (js : List Joining) → round_from lists anchor floor count 1 s ≡ js → (alive (replay (round_from lists anchor floor count 1 s) s).members ≤ fuel → round_from lists anchor floor count 1 (replay (joinings_from lists anchor floor count fuel (replay (round_from lists anchor floor count 1 s) s)) (replay (round_from lists anchor floor count 1 s) s)) ≡ []) → round_from lists anchor floor count 1 (replay (joinings_from lists anchor floor count (suc fuel) s) s) ≡ []
      go [] e next = rw (rounds_end count (suc fuel) s e) e
      go (j ∷ js) e next = rw (rounds_go count fuel s (j ∷ js) (omega arith) e, replay_append (j ∷ js) (joinings_from lists anchor floor count fuel (replay (j ∷ js) s)) s) ((rw e at next) (omega (arith, rw e at (round_lowers count 1 s))))

-- ---- THE GROWN GROUPS

pub alive_most : (ms : List (List ℕ)) → alive ms ≤ length ms
unfolding alive
alive_most [] = omega arith
alive_most ([] ∷ ms) = omega (arith, sum_by-cons ne [] ms, alive_most ms)
alive_most ((v ∷ m) ∷ ms) = omega (arith, sum_by-cons ne (v ∷ m) ms, alive_most ms)

no_zero : (v : ℕ) (ids : List ℕ) → ((k : ℕ) → k < length ids → 0 < get_or ids k 0) → nodes_of 0 v ids ≡ []
unfolding nodes_of
no_zero v [] h = refl
no_zero v (x ∷ xs) h = rw (nodes_of, ne_eqb x 0 (omega (arith, h 0 (omega arith)))) (no_zero (suc v) xs (λ k l. h (suc k) (omega arith)))

-- every node in a group: at most as many groups with members as there are groups
pub grown_alive : (ids : List ℕ) (groups : ℕ) → ((v : ℕ) → v < length ids → 0 < get_or ids v 0) → alive (groups_of ids groups).members ≤ groups
unfolding groups_of tab alive
grown_alive ids groups h = rw (no_zero 0 ids h) (omega (arith, alive_most (tab (λ i. nodes_of (suc i) 0 ids) groups), length_tab (λ i. nodes_of (suc i) 0 ids) groups))

module _ (lists : ℕ → List ℕ) (anchor : ℕ → Bool) (floor groups : ℕ) (ids : List ℕ) where
  -- JOINING STOPS: after the rounds of the grouping, one round more joins nothing
  pub joining_stops : round_from lists anchor floor groups 1 (replay (joinings_from lists anchor floor groups (suc groups) (groups_of ids groups)) (groups_of ids groups)) ≡ []
  unfolding groups_of
  joining_stops = settled lists anchor floor groups (suc groups) (groups_of ids groups) (omega (arith, alive_most (tab (λ g. nodes_of g 0 ids) (suc groups)), length_tab (λ g. nodes_of g 0 ids) (suc groups)))

  -- AT MOST AS MANY JOININGS AS GROWN GROUPS, LESS ONE
  pub joinings_below : ((v : ℕ) → v < length ids → 0 < get_or ids v 0) → length (joinings_from lists anchor floor groups (suc groups) (groups_of ids groups)) ≤ groups - 1
  joinings_below h = omega (arith, joinings_few lists anchor floor groups (suc groups) (groups_of ids groups), grown_alive ids groups h)

-- ---- THE GROUPING OF n NODES: the same of its joinings, from the groups as grown

module _ (lists : ℕ → List ℕ) (anchor : ℕ → Bool) (nodes size : ℕ) where
  -- the groups as grown
  abbrev pub start : Groups
  start = groups_of (grown lists anchor nodes size).0 (grown lists anchor nodes size).1

  -- each joining lowers the number of groups that have members by exactly one
  pub grouping_shrinks : Shrinks (joinings lists anchor nodes size) start
  unfolding joinings
  grouping_shrinks = joinings_shrink lists anchor (floor_of size) (grown lists anchor nodes size).1 (suc (grown lists anchor nodes size).1) start

  -- after them, one round more joins nothing
  pub grouping_stops : round_from lists anchor (floor_of size) (grown lists anchor nodes size).1 1 (replay (joinings lists anchor nodes size) start) ≡ []
  unfolding joinings
  grouping_stops = joining_stops lists anchor (floor_of size) (grown lists anchor nodes size).1 (grown lists anchor nodes size).0

  -- at most as many as grown groups, less one, where growth left no node out
  pub grouping_below : ((v : ℕ) → v < length (grown lists anchor nodes size).0 → 0 < get_or (grown lists anchor nodes size).0 v 0) → length (joinings lists anchor nodes size) ≤ (grown lists anchor nodes size).1 - 1
  unfolding joinings
  grouping_below h = joinings_below lists anchor (floor_of size) (grown lists anchor nodes size).1 (grown lists anchor nodes size).0 h
