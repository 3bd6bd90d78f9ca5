-- A group in which each node joins when it is queued is the group of the definition, in which it joins when its turn comes.
use mathlib.Core.Path.{◌≡◌, refl, ap, sym, ◌∙◌}
use mathlib.Core.Logic.{⊎_elim}
use mathlib.Core.List.{List, [], ◌∷◌, ◌++◌}
use Prim.Native.Nat.{ℕ, zero, suc, ◌-◌, ◌<◌}
use native.Mathlib.Omega.{arith}
use borrow.Author.Tests.{eqb-true, eqb-false}
use lib.Dec.{eqb}
use lib.ListN.{length, get_or, set, length-append}
use Rattle.definitions.specs.Groups.{free, grow_group, relabelled, no_anchor}
use Rattle.aggregates.specs.Growth.{enqueued}
use Rattle.aggregates.proofs.Stops.{by_test}
use Rattle.aggregates.proofs.growth.Between.{set_cases}
use Rattle.aggregates.proofs.growth.Growing.{grow_full, grow_ends, grow_skips, grow_takes}
use Rattle.aggregates.proofs.growth.Enqueued.{enqueued_none, enqueued_takes, enqueued_skips, enqueued_append, enqueued_free}

pub relabelled_append : (g : ℕ) (a b ids : List ℕ) → relabelled g (a ++ b) ids ≡ relabelled g b (relabelled g a ids)
unfolding relabelled
relabelled_append g [] b ids = refl
relabelled_append g (v ∷ a) b ids = relabelled_append g a b (set ids v g)

-- a node in a group stays in one
relabelled_some : (g : ℕ) (vs ids : List ℕ) (u : ℕ) → 0 < g → 0 < get_or ids u 0 → 0 < get_or (relabelled g vs ids) u 0
unfolding relabelled
relabelled_some g [] ids u pos h = h
relabelled_some g (v ∷ vs) ids u pos h = relabelled_some g vs (set ids v g) u pos (⊎_elim (λ e. omega arith) (λ e. omega arith) (set_cases ids v g u))

module _ (lists : ℕ → List ℕ) (g : ℕ) where
  -- the pending nodes are in the group already; a turn for each of them, and for each node that there is still room for, is enough
  unfoldable pub queued : ℕ → ℕ → List ℕ → List ℕ → List ℕ
  queued zero room ids pending = ids
  queued (suc turns) room ids [] = ids
  queued (suc turns) room ids (v ∷ pending) = let new = enqueued g room ids (lists v) in queued turns (room - length new) (relabelled g new ids) (pending ++ new)

  pub queued_turn : (turns room : ℕ) (ids : List ℕ) (v : ℕ) (pending : List ℕ) → queued (suc turns) room ids (v ∷ pending) ≡
      queued turns (room - length (enqueued g room ids (lists v))) (relabelled g (enqueued g room ids (lists v)) ids) (pending ++ enqueued g room ids (lists v))
  unfolding queued
  queued_turn turns room ids v pending = refl

  pub queued_ends : (turns room : ℕ) (ids : List ℕ) → queued turns room ids [] ≡ ids
  unfolding queued
  queued_ends zero room ids = refl
  queued_ends (suc turns) room ids = refl

  pub queued_full : (turns : ℕ) (ids pending : List ℕ) → queued turns 0 ids pending ≡ ids
  unfolding queued enqueued relabelled
  queued_full zero ids pending = refl
  queued_full (suc turns) ids [] = refl
  queued_full (suc turns) ids (v ∷ pending) = queued_full turns ids (pending ++ [])

  -- with the first of a queue's nodes in the group
  unfoldable pub queued_from : ℕ → List ℕ → List ℕ → List ℕ
  queued_from room ids q = let new = enqueued g room ids q in queued room (room - length new) (relabelled g new ids) new

  queued_step : (room : ℕ) (ids rest : List ℕ) (v : ℕ) → 0 < g → get_or ids v 0 ≡ 0 → queued_from room (set ids v g) (rest ++ free lists no_anchor (set ids v g) (lists v)) ≡ queued_from (suc room) ids (v ∷ rest)
  unfolding queued_from queued relabelled
  queued_step room ids rest v pos z =
      let ids' = set ids v g in
      let p = enqueued g room ids' rest in
      let new = enqueued g (room - length p) (relabelled g p ids') (lists v) in
      let whole : enqueued g room ids' (rest ++ free lists no_anchor ids' (lists v)) ≡ p ++ new =
      enqueued_append g room ids' rest (free lists no_anchor ids' (lists v)) ∙ ap (λ l. p ++ l) (enqueued_free g lists pos ids' (room - length p) (relabelled g p ids') (lists v) (λ u h. relabelled_some g p ids' u pos h)) in
      let less : room - length (p ++ new) ≡ (room - length p) - length new = simp length-append (omega arith) in
      let e : suc room - suc (length p) ≡ room - length p = omega arith in
      let begun : List ℕ → List ℕ = λ q. queued (suc room) (suc room - length q) (relabelled g q ids) q in
      let taken : queued_from room ids' (rest ++ free lists no_anchor ids' (lists v)) ≡ begun (v ∷ p) = rw (whole, less, relabelled_append g p new ids', e, relabelled, queued) in
      taken ∙ sym (ap begun (enqueued_takes g room ids v rest z))

  -- THE LAW: by induction on the room, and on the queue
  pub grow_queued : (room : ℕ) (ids q : List ℕ) → 0 < g → grow_group lists no_anchor g room ids q ≡ queued_from room ids q
  unfolding queued_from queued enqueued relabelled
  grow_queued zero ids q pos = grow_full lists g ids q
  grow_queued (suc room) ids [] pos = grow_ends lists g (suc room) ids
  grow_queued (suc room) ids (v ∷ q) pos = by_test (eqb (get_or ids v 0) 0)
      (λ t.
      let z = eqb-true (get_or ids v 0) 0 t in
      grow_takes lists g room ids v q z ∙ grow_queued room (set ids v g) (q ++ free lists no_anchor (set ids v g) (lists v)) pos ∙ queued_step room ids q v pos z)
      (λ t.
      let z = eqb-false (get_or ids v 0) 0 t in
      grow_skips lists g (suc room) ids v q z ∙ grow_queued (suc room) ids q pos ∙ ap (λ l. queued (suc room) (suc room - length l) (relabelled g l ids) l) (sym (enqueued_skips g (suc room) ids v q z)))

  -- from a seed
  pub grow_seeded : (room : ℕ) (ids : List ℕ) (v : ℕ) → 0 < g → get_or ids v 0 ≡ 0 → grow_group lists no_anchor g (suc room) ids (v ∷ []) ≡ queued (suc room) room (set ids v g) (v ∷ [])
  unfolding queued_from relabelled
  grow_seeded room ids v pos z =
      let e : suc room - 1 ≡ room = omega arith in
      grow_queued (suc room) ids (v ∷ []) pos ∙ (rw (enqueued_takes g room ids v [] z, enqueued_none g room (set ids v g), e) refl)
