-- `grow_group` one step further.
use mathlib.Core.Path.{◌≡◌, refl}
use mathlib.Core.List.{List, [], ◌∷◌, ◌++◌}
use Prim.Native.Nat.{ℕ, zero, suc}
use borrow.Author.Tests.{eq-eqb, ne_eqb}
use lib.ListN.{get_or, set}
use Rattle.definitions.specs.Groups.{free, waiting, grow_group, grow_groups, no_anchor}

module _ (lists : ℕ → List ℕ) (g : ℕ) where
  pub grow_full : (ids q : List ℕ) → grow_group lists no_anchor g 0 ids q ≡ ids
  unfolding grow_group
  grow_full ids q = refl

  pub grow_ends : (room : ℕ) (ids : List ℕ) → grow_group lists no_anchor g room ids [] ≡ ids
  unfolding grow_group waiting
  grow_ends zero ids = refl
  grow_ends (suc room) ids = refl

  pub grow_skips : (room : ℕ) (ids : List ℕ) (v : ℕ) (q : List ℕ) → (get_or ids v 0 ≡ 0 → ⊥) → grow_group lists no_anchor g room ids (v ∷ q) ≡ grow_group lists no_anchor g room ids q
  unfolding grow_group waiting
  grow_skips zero ids v q h = refl
  grow_skips (suc room) ids v q h = rw (grow_group, waiting, ne_eqb _ _ h)

  pub grow_takes : (room : ℕ) (ids : List ℕ) (v : ℕ) (q : List ℕ) → get_or ids v 0 ≡ 0 → grow_group lists no_anchor g (suc room) ids (v ∷ q) ≡ grow_group lists no_anchor g room (set ids v g) (q ++ free lists no_anchor (set ids v g) (lists v))
  unfolding grow_group waiting
  grow_takes room ids v q h = rw (grow_group, waiting, eq-eqb _ _ h)

module _ (lists : ℕ → List ℕ) (size : ℕ) where
  pub from_grows : (left v g : ℕ) (ids : List ℕ) → get_or ids v 0 ≡ 0 → grow_groups lists no_anchor size (suc left) v g ids ≡ grow_groups lists no_anchor size left (suc v) (suc g) (grow_group lists no_anchor (suc g) size ids (v ∷ []))
  unfolding grow_groups
  from_grows left v g ids z = rw (grow_groups, eq-eqb (get_or ids v 0) 0 z)

  pub from_passes : (left v g : ℕ) (ids : List ℕ) → (get_or ids v 0 ≡ 0 → ⊥) → grow_groups lists no_anchor size (suc left) v g ids ≡ grow_groups lists no_anchor size left (suc v) g ids
  unfolding grow_groups
  from_passes left v g ids z = rw (grow_groups, ne_eqb (get_or ids v 0) 0 z)
