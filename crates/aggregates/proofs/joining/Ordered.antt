-- THE GROUP CHOSEN IS FIRST: it is one of the list, and none of the list comes before it. The order compares edges, then members, then ids, so it is transitive.
use mathlib.Core.Path.{◌≡◌, refl}
use mathlib.Core.Logic.{◌⊎◌, inl, inr, ⊎_elim}
use mathlib.Core.Bool.{true, false}
use mathlib.Core.List.{List, [], ◌∷◌}
use Prim.Native.Nat.{ℕ, ◌≤◌, ◌<◌}
use native.Mathlib.Omega.{arith}
use borrow.Author.Tests.{ltb-true, ltb-false, eqb-true, eqb-false, le-ltb, eq-eqb, ne_eqb}
use lib.Dec.{eqb, ltb}
use Rattle.definitions.specs.Groups.{before, chosen}
use Rattle.laws.proofs.Lists.{Each, none, more, each_head, each_tail}
use Rattle.aggregates.proofs.Stops.{by_test}

module _ (edges sizes : ℕ → ℕ) where
  -- y is as good as x or better: more edges, or as many and fewer members, or as many of both and no higher id
  pub data Behind (x y : ℕ) : Type 0 where
    fewer : edges x < edges y → Behind x y
    larger : edges x ≡ edges y → sizes y < sizes x → Behind x y
    later : edges x ≡ edges y → sizes x ≡ sizes y → y ≤ x → Behind x y

  behind_trans : (x y z : ℕ) → Behind x y → Behind y z → Behind x z
  behind_trans x y z (fewer p) (fewer q) = fewer (omega arith)
  behind_trans x y z (fewer p) (larger q r) = fewer (omega arith)
  behind_trans x y z (fewer p) (later q r s) = fewer (omega arith)
  behind_trans x y z (larger p u) (fewer q) = fewer (omega arith)
  behind_trans x y z (larger p u) (larger q r) = larger (omega arith) (omega arith)
  behind_trans x y z (larger p u) (later q r s) = larger (omega arith) (omega arith)
  behind_trans x y z (later p u v) (fewer q) = fewer (omega arith)
  behind_trans x y z (later p u v) (larger q r) = larger (omega arith) (omega arith)
  behind_trans x y z (later p u v) (later q r s) = later (omega arith) (omega arith) (omega arith)

  -- the test of the definitions, either way
  sides : (x y : ℕ) → ((before edges sizes x y ≡ true) × Behind y x) ⊎ ((before edges sizes x y ≡ false) × Behind x y)
  unfolding before
  sides x y = by_test (ltb (edges y) (edges x))
      (λ e. inl (rw (before, e), fewer (ltb-true (edges y) (edges x) e)))
      (λ e. by_test (eqb (edges x) (edges y))
      (λ f.
      let same = eqb-true (edges x) (edges y) f in
      by_test (ltb (sizes x) (sizes y))
      (λ g. inl (rw (before, e, f, g), larger (omega arith) (ltb-true (sizes x) (sizes y) g)))
      (λ g. by_test (eqb (sizes x) (sizes y))
      (λ h.
      let alike = eqb-true (sizes x) (sizes y) h in
      by_test (ltb x y)
      (λ k. inl (rw (before, e, f, g, h, k), later (omega arith) (omega arith) (omega (arith, ltb-true x y k))))
      (λ k. inr (rw (before, e, f, g, h, k), later same alike (ltb-false x y k))))
      (λ h. inr (rw (before, e, f, g, h), larger same (omega (arith, ltb-false (sizes x) (sizes y) g, eqb-false (sizes x) (sizes y) h))))))
      (λ f. inr (rw (before, e, f), fewer (omega (arith, ltb-false (edges y) (edges x) e, eqb-false (edges x) (edges y) f)))))

  abbrev best_of : ℕ → List ℕ → ℕ
  best_of best l = chosen edges sizes best l

  -- what was best before is no better than the group chosen, and so is each of the list
  pub chosen_first : (best : ℕ) (l : List ℕ) → Each (λ o. 0 < o) l → ((best ≡ 0 → ⊥) → Behind best (best_of best l)) × Each (λ a. Behind a (best_of best l)) l
  unfolding chosen
  chosen_first best [] pos = (λ d. later refl refl (omega arith), none)
  chosen_first best (a ∷ l) pos =
      let new = chosen_first a l (each_tail pos) in
      let old = chosen_first best l (each_tail pos) in
      let first = new.0 (λ z. omega (arith, each_head pos)) in
      by_test (eqb best 0)
      (λ e. rw (chosen, e) ((λ d. absurd (d (eqb-true best 0 e))), more first new.1))
      (λ e. ⊎_elim
      (λ p. rw (chosen, e, p.0) ((λ d. behind_trans best a (best_of a l) p.1 first), more first new.1))
      (λ p. rw (chosen, e, p.0) (old.0, more (behind_trans a best (best_of best l) p.1 (old.0 (eqb-false best 0 e))) old.1))
      (sides a best))

  -- the test of the definitions tells the same
  pub not_before : (x y : ℕ) → Behind x y → before edges sizes x y ≡ false
  unfolding before
  not_before x y (fewer p) = rw (before, le-ltb (edges y) (edges x) (omega arith), ne_eqb (edges x) (edges y) (λ e. omega arith))
  not_before x y (larger q p) = rw (before, le-ltb (edges y) (edges x) (omega arith), eq-eqb (edges x) (edges y) q, le-ltb (sizes x) (sizes y) (omega arith), ne_eqb (sizes x) (sizes y) (λ e. omega arith))
  not_before x y (later q p r) = rw (before, le-ltb (edges y) (edges x) (omega arith), eq-eqb (edges x) (edges y) q, le-ltb (sizes x) (sizes y) (omega arith), eq-eqb (sizes x) (sizes y) p, le-ltb x y r)
