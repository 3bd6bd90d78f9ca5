-- `free` one step further.
use mathlib.Core.Path.{◌≡◌}
use mathlib.Core.List.{List, ◌∷◌}
use Prim.Native.Nat.{ℕ}
use borrow.Author.Tests.{eq-eqb, ne_eqb}
use lib.ListN.{get_or}
use Rattle.definitions.specs.Groups.{free, no_anchor}

module _ (lists : ℕ → List ℕ) where
  pub free_takes : (ids : List ℕ) (v : ℕ) (vs : List ℕ) → get_or ids v 0 ≡ 0 → free lists no_anchor ids (v ∷ vs) ≡ v ∷ free lists no_anchor ids vs
  unfolding free
  free_takes ids v vs h = rw (eq-eqb _ _ h, free)

  pub free_skips : (ids : List ℕ) (v : ℕ) (vs : List ℕ) → (get_or ids v 0 ≡ 0 → ⊥) → free lists no_anchor ids (v ∷ vs) ≡ free lists no_anchor ids vs
  unfolding free
  free_skips ids v vs h = rw (ne_eqb _ _ h, free)
