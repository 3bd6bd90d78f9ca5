-- Joining makes no new group numbers: each node's group stays at most the count of the groups that were grown.
use mathlib.Core.Path.{◌≡◌, refl}
use mathlib.Core.Logic.{⊎_elim}
use mathlib.Core.Bool.{Bool}
use mathlib.Core.List.{List, [], ◌∷◌}
use Prim.Native.Nat.{ℕ, zero, suc, ◌≤◌, ◌<◌}
use native.Mathlib.Omega.{arith}
use lib.ListN.{length, get_or, set, length-set}
use Rattle.definitions.specs.Groups.{Joining, Groups, nodes_in, size_in, relabelled, joined, replay, taker_of, round_from, joinings_from, groups_of, nodes_of}
use Rattle.laws.proofs.Lists.{length_tab}
use Rattle.aggregates.proofs.Stops.{within, taker_other, replay_append, round_stays, round_joins, rounds_end, rounds_go}
use Rattle.aggregates.proofs.growth.Between.{set_cases}

-- every group number is at most `top`, and there are `top` member lists besides the first
pub record Upto (top : ℕ) (s : Groups) : Type 0 where
  pub ids : (u : ℕ) → get_or s.of u 0 ≤ top
  pub lists : length s.members ≡ suc top

relabelled_upto : (top b : ℕ) (vs ids : List ℕ) → b ≤ top → ((u : ℕ) → get_or ids u 0 ≤ top) → (u : ℕ) → get_or (relabelled b vs ids) u 0 ≤ top
unfolding relabelled
relabelled_upto top b [] ids h f u = f u
relabelled_upto top b (v ∷ vs) ids h f u = relabelled_upto top b vs (set ids v b) h (λ k. ⊎_elim (λ e. omega arith) (λ e. omega (arith, f k)) (set_cases ids v b k)) u

joined_upto : (top : ℕ) (j : Joining) (s : Groups) → 0 < size_in s j.taker → Upto top s → Upto top (joined j s)
unfolding joined
joined_upto top j s some o = record {
  ids = relabelled_upto top j.taker (nodes_in s j.moved) s.of (omega (arith, within s.members j.taker some, o.lists)) o.ids;
  lists = simp length-set o.lists;
}

module _ (lists : ℕ → List ℕ) (anchor : ℕ → Bool) (floor top : ℕ) where
  round_upto : (left g : ℕ) (s : Groups) → Upto top s → Upto top (replay (round_from lists anchor floor left g s) s)
  unfolding round_from replay
  round_upto zero g s o = o
  round_upto (suc left) g s o = go (taker_of lists anchor floor s g) refl (round_upto left (suc g) s o) (λ b. round_upto left (suc g) (joined (record { moved = g; taker = suc b }) s))
    where
      go : (t : ℕ) → taker_of lists anchor floor s g ≡ t → Upto top (replay (round_from lists anchor floor left (suc g) s) s)
          → ((b : ℕ) → Upto top (joined (record { moved = g; taker = suc b }) s) → Upto top (replay (round_from lists anchor floor left (suc g) (joined (record { moved = g; taker = suc b }) s)) (joined (record { moved = g; taker = suc b }) s)))
          → Upto top (replay (round_from lists anchor floor (suc left) g s) s)
      go zero e stays joins = rw (round_stays lists anchor floor left g s e) stays
      go (suc b) e stays joins =
          let j : Joining = record { moved = g; taker = suc b } in
          rw (round_joins lists anchor floor left g b s j refl e) (joins b (joined_upto top j s (taker_other lists anchor floor g b s e).1.0 o))

  joinings_upto : (count fuel : ℕ) (s : Groups) → Upto top s → Upto top (replay (joinings_from lists anchor floor count fuel s) s)
  unfolding joinings_from replay
  joinings_upto count zero s o = o
  joinings_upto count (suc fuel) s o = go (round_from lists anchor floor count 1 s) refl (joinings_upto count fuel (replay (round_from lists anchor floor count 1 s) s) (round_upto count 1 s o))
    where
      go : (js : List Joining) → round_from lists anchor floor count 1 s ≡ js
          → Upto top (replay (joinings_from lists anchor floor count fuel (replay (round_from lists anchor floor count 1 s) s)) (replay (round_from lists anchor floor count 1 s) s))
          → Upto top (replay (joinings_from lists anchor floor count (suc fuel) s) s)
      go [] e next = rw (rounds_end lists anchor floor count (suc fuel) s e) o
      go (j ∷ js) e next =
          rw (rounds_go lists anchor floor count fuel s (j ∷ js) (omega arith) e, replay_append (j ∷ js) (joinings_from lists anchor floor count fuel (replay (j ∷ js) s)) s) (rw e at next)

pub joined_ids_upto : (lists : ℕ → List ℕ) (anchor : ℕ → Bool) (floor groups : ℕ) (ids : List ℕ) → ((u : ℕ) → get_or ids u 0 ≤ groups) →
    (u : ℕ) → get_or (replay (joinings_from lists anchor floor groups (suc groups) (groups_of ids groups)) (groups_of ids groups)).of u 0 ≤ groups
unfolding groups_of
joined_ids_upto lists anchor floor groups ids h = (joinings_upto lists anchor floor groups groups (suc groups) (groups_of ids groups) (record { ids = h; lists = length_tab (λ g. nodes_of g 0 ids) (suc groups) })).ids
