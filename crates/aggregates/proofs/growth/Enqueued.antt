-- `enqueued` one step further, end to end, and of what `free` leaves of a list.
use Rattle.std.specs.List.{sum_by}
use Rattle.std.proofs.lemmas.List.Sums.{sum_by-cons}
use mathlib.Core.Path.{◌≡◌, refl, ap}
use mathlib.Core.Logic.{⊎_elim}
use mathlib.Core.List.{List, [], ◌∷◌, ◌++◌}
use Prim.Native.Nat.{ℕ, zero, suc, ◌+◌, ◌-◌, ◌≤◌, ◌<◌}
use native.Mathlib.Omega.{arith}
use borrow.Author.Tests.{eq-eqb, ne_eqb, eqb-true, eqb-false}
use lib.Dec.{eqb}
use lib.ListN.{length, get_or, set, length-set}
use Rattle.laws.proofs.Lists.{Each, none, more, each_head, each_tail}
use Rattle.definitions.specs.Groups.{free, relabelled, no_anchor}
use Rattle.aggregates.specs.Growth.{enqueued}
use Rattle.aggregates.proofs.NodeLists.{spare, spare_set}
use Rattle.aggregates.proofs.growth.Free.{free_takes, free_skips}
use Rattle.aggregates.proofs.Stops.{by_test}
use Rattle.aggregates.proofs.growth.Between.{set_cases}

module _ (g : ℕ) where
  pub enqueued_full : (ids vs : List ℕ) → enqueued g 0 ids vs ≡ []
  unfolding enqueued
  enqueued_full ids vs = refl

  pub enqueued_none : (room : ℕ) (ids : List ℕ) → enqueued g room ids [] ≡ []
  unfolding enqueued
  enqueued_none zero ids = refl
  enqueued_none (suc room) ids = refl

  pub enqueued_takes : (room : ℕ) (ids : List ℕ) (v : ℕ) (vs : List ℕ) → get_or ids v 0 ≡ 0 → enqueued g (suc room) ids (v ∷ vs) ≡ v ∷ enqueued g room (set ids v g) vs
  unfolding enqueued
  enqueued_takes room ids v vs h = rw (enqueued, eq-eqb _ _ h)

  pub enqueued_skips : (room : ℕ) (ids : List ℕ) (v : ℕ) (vs : List ℕ) → (get_or ids v 0 ≡ 0 → ⊥) → enqueued g room ids (v ∷ vs) ≡ enqueued g room ids vs
  unfolding enqueued
  enqueued_skips zero ids v vs h = refl
  enqueued_skips (suc room) ids v vs h = rw (enqueued, ne_eqb _ _ h)

  pub enqueued_append : (room : ℕ) (ids a b : List ℕ) → enqueued g room ids (a ++ b) ≡ enqueued g room ids a ++ enqueued g (room - length (enqueued g room ids a)) (relabelled g (enqueued g room ids a) ids) b
  unfolding enqueued relabelled
  enqueued_append zero ids a b = refl
  enqueued_append (suc room) ids [] b = let e : suc room - 0 ≡ suc room = omega arith in rw e refl
  enqueued_append (suc room) ids (v ∷ a) b = by_test (eqb (get_or ids v 0) 0)
      (λ t.
      let z = eqb-true (get_or ids v 0) 0 t in
      let e : suc room - suc (length (enqueued g room (set ids v g) a)) ≡ room - length (enqueued g room (set ids v g) a) = omega arith in
      rw (enqueued_takes room ids v (a ++ b) z, enqueued_takes room ids v a z, e) (ap (λ l. v ∷ l) (enqueued_append room (set ids v g) a b)))
      (λ t.
      let z = eqb-false (get_or ids v 0) 0 t in
      rw (enqueued_skips (suc room) ids v (a ++ b) z, enqueued_skips (suc room) ids v a z) (enqueued_append (suc room) ids a b))

  pub enqueued_few : (room : ℕ) (ids vs : List ℕ) → length (enqueued g room ids vs) ≤ room
  unfolding enqueued
  enqueued_few zero ids vs = omega arith
  enqueued_few (suc room) ids [] = omega arith
  enqueued_few (suc room) ids (v ∷ vs) = by_test (eqb (get_or ids v 0) 0)
      (λ t. rw (enqueued_takes room ids v vs (eqb-true (get_or ids v 0) 0 t)) (omega (arith, enqueued_few room (set ids v g) vs)))
      (λ t. rw (enqueued_skips (suc room) ids v vs (eqb-false (get_or ids v 0) 0 t)) (enqueued_few (suc room) ids vs))

  pub enqueued_short : (room : ℕ) (ids vs : List ℕ) → length (enqueued g room ids vs) ≤ length vs
  unfolding enqueued
  enqueued_short zero ids vs = omega arith
  enqueued_short (suc room) ids [] = omega arith
  enqueued_short (suc room) ids (v ∷ vs) = by_test (eqb (get_or ids v 0) 0)
      (λ t. rw (enqueued_takes room ids v vs (eqb-true (get_or ids v 0) 0 t)) (omega (arith, enqueued_short room (set ids v g) vs)))
      (λ t. rw (enqueued_skips (suc room) ids v vs (eqb-false (get_or ids v 0) 0 t)) (omega (arith, enqueued_short (suc room) ids vs)))

  pub each_enqueued : (P : ℕ → Type 0) (room : ℕ) (ids vs : List ℕ) → Each P vs → Each P (enqueued g room ids vs)
  unfolding enqueued
  each_enqueued P zero ids vs a = none
  each_enqueued P (suc room) ids [] a = none
  each_enqueued P (suc room) ids (v ∷ vs) a = by_test (eqb (get_or ids v 0) 0)
      (λ t. rw (enqueued_takes room ids v vs (eqb-true (get_or ids v 0) 0 t)) (more (each_head a) (each_enqueued P room (set ids v g) vs (each_tail a))))
      (λ t. rw (enqueued_skips (suc room) ids v vs (eqb-false (get_or ids v 0) 0 t)) (each_enqueued P (suc room) ids vs (each_tail a)))

  -- what the lists of the nodes taken in have, the lists of the free nodes no longer have
  pub enqueued_spare : (d : ℕ → ℕ) (room : ℕ) (ids vs : List ℕ) → 0 < g → Each (λ v. v < length ids) vs → sum_by d (enqueued g room ids vs) + spare d 0 (relabelled g (enqueued g room ids vs) ids) ≡ spare d 0 ids
  unfolding enqueued relabelled
  enqueued_spare d zero ids vs pos a = omega arith
  enqueued_spare d (suc room) ids [] pos a = omega arith
  enqueued_spare d (suc room) ids (v ∷ vs) pos a = by_test (eqb (get_or ids v 0) 0)
      (λ t.
      let z = eqb-true (get_or ids v 0) 0 t in
      let l : length (set ids v g) ≡ length ids = length-set ids v g in
      let zv : 0 + v ≡ v = omega arith in
      rw (enqueued_takes room ids v vs z) (omega (arith, sum_by-cons d v (enqueued g room (set ids v g) vs), rw zv at (spare_set d 0 ids v g (each_head a) z pos), enqueued_spare d room (set ids v g) vs pos (rw l (each_tail a)))))
      (λ t. rw (enqueued_skips (suc room) ids v vs (eqb-false (get_or ids v 0) 0 t)) (enqueued_spare d (suc room) ids vs pos (each_tail a)))

  module _ (lists : ℕ → List ℕ) (pos : 0 < g) (ids₀ : List ℕ) where
    -- what had a group before has one now
    pub enqueued_free : (room : ℕ) (ids vs : List ℕ) → ((u : ℕ) → 0 < get_or ids₀ u 0 → 0 < get_or ids u 0) → enqueued g room ids (free lists no_anchor ids₀ vs) ≡ enqueued g room ids vs
    unfolding enqueued free
    enqueued_free zero ids vs kept = refl
    enqueued_free (suc room) ids [] kept = refl
    enqueued_free (suc room) ids (v ∷ vs) kept = by_test (eqb (get_or ids v 0) 0)
        (λ t.
        let z = eqb-true (get_or ids v 0) 0 t in
        let z₀ : get_or ids₀ v 0 ≡ 0 = by_test (eqb (get_or ids₀ v 0) 0) (eqb-true (get_or ids₀ v 0) 0) (λ s. omega (arith, z, kept v (omega (arith, eqb-false (get_or ids₀ v 0) 0 s)))) in
        rw (free_takes lists ids₀ v vs z₀, enqueued_takes room ids v (free lists no_anchor ids₀ vs) z, enqueued_takes room ids v vs z)
        (ap (λ l. v ∷ l) (enqueued_free room (set ids v g) vs (λ u k. ⊎_elim (λ e. omega arith) (λ e. omega (arith, kept u k)) (set_cases ids v g u)))))
        (λ t.
        let z = eqb-false (get_or ids v 0) 0 t in
        rw (enqueued_skips (suc room) ids v vs z)
        (by_test (eqb (get_or ids₀ v 0) 0)
        (λ s. rw (free_takes lists ids₀ v vs (eqb-true (get_or ids₀ v 0) 0 s), enqueued_skips (suc room) ids v (free lists no_anchor ids₀ vs) z) (enqueued_free (suc room) ids vs kept))
        (λ s. rw (free_skips lists ids₀ v vs (eqb-false (get_or ids₀ v 0) 0 s)) (enqueued_free (suc room) ids vs kept))))
