-- The loop of `grow_all`: what the nodes that are left give stays the same.
use mathlib.Core.Path.{◌≡◌, ap, sym, ◌∙◌}
use mathlib.Core.List.{List, [], ◌∷◌}
use Prim.Native.Nat.{ℕ, suc, ◌+◌, ◌-◌, ◌≤◌, ◌<◌}
use native.Mathlib.Omega.{arith}
use native.Mathlib.Numerals.{add-one}
use lib.ListN.{get_or, replicate}
use Rattle.definitions.specs.Groups.{grow_group, grow_groups, grown, no_anchor}
use Rattle.aggregates.proofs.growth.Growing.{from_grows, from_passes}

pub record Seeding (lists : ℕ → List ℕ) (n : ℕ) (ids₀ : List ℕ) (size : ℕ) (ids : List ℕ) (g v : ℕ) : Type 0 where
  pub few : g ≤ v
  pub goes : grow_groups lists no_anchor size (n - v) v g ids ≡ grow_groups lists no_anchor size n 0 0 ids₀

module _ (lists : ℕ → List ℕ) (n : ℕ) (ids₀ : List ℕ) (size : ℕ) where
  module _ (ids : List ℕ) (g v : ℕ) (inv : Seeding lists n ids₀ size ids g v) where
    pub seeding_last : n ≤ v → ids₀ ≡ replicate n 0 → (ids, g) ≡ grown lists no_anchor n size
    unfolding grow_groups grown
    seeding_last h z = let e : n - v ≡ 0 = omega arith in (rw e at inv.goes) ∙ ap (λ l. grow_groups lists no_anchor size n 0 0 l) z

    module _ (h : v < n) where
      left_is : n - v ≡ suc (n - suc v)
      left_is = omega arith

      pub seeding_passes : (get_or ids v 0 ≡ 0 → ⊥) → Seeding lists n ids₀ size ids g (v + 1)
      seeding_passes z = record {
        few = omega (arith, inv.few);
        goes = rw (add-one v) (sym (from_passes lists size (n - suc v) v g ids z) ∙ (rw left_is at inv.goes));
      }

      pub seeding_grows : (ids' : List ℕ) → get_or ids v 0 ≡ 0 → ids' ≡ grow_group lists no_anchor (g + 1) size ids (v ∷ []) → Seeding lists n ids₀ size ids' (g + 1) (v + 1)
      seeding_grows ids' z e = record {
        few = omega (arith, inv.few);
        goes = rw (e, add-one v, add-one g) (sym (from_grows lists size (n - suc v) v g ids z) ∙ (rw left_is at inv.goes));
      }
