-- Growth puts every node into a group, and numbers them from 1 to their count.
use mathlib.Core.Path.{◌≡◌, refl, ◌∙◌}
use mathlib.Core.Logic.{◌⊎◌, inl, inr, ⊎_elim}
use mathlib.Core.List.{List, [], ◌∷◌, ◌++◌}
use Prim.Native.Nat.{ℕ, zero, suc, ◌+◌, ◌≤◌, ◌<◌}
use native.Mathlib.Omega.{arith}
use borrow.Author.Tests.{eqb-true, eqb-false, ltb-true, ltb-false}
use lib.Dec.{eqb, ltb}
use lib.ListN.{length, get_or, set, replicate, length-set, length-replicate, get_or-replicate, get_or-eq_default}
use lib.Seq.{get_or-set_same, get_or-set_other, set_out}
use Rattle.definitions.specs.Groups.{free, waiting, grow_group, grow_groups, grown, no_anchor}
use Rattle.aggregates.proofs.Stops.{by_test}
use Rattle.aggregates.proofs.growth.Growing.{grow_takes, from_grows, from_passes}

-- an element after a store: the number stored, or as before
pub set_cases : (l : List ℕ) (i a j : ℕ) → (get_or (set l i a) j 0 ≡ a) ⊎ (get_or (set l i a) j 0 ≡ get_or l j 0)
set_cases l i a j = by_test (eqb j i)
    (λ e. by_test (ltb i (length l))
    (λ h. inl (rw (eqb-true j i e) (get_or-set_same l i a 0 (ltb-true i (length l) h))))
    (λ h. inr (rw (set_out l i a (ltb-false i (length l) h)) refl)))
    (λ e. inr (get_or-set_other l i j a 0 (eqb-false j i e)))

module _ (lists : ℕ → List ℕ) (g : ℕ) (P : List ℕ → Type 0) (step : (ids : List ℕ) (v : ℕ) → P ids → P (set ids v g)) where
  -- what each store of a group keeps, its growth keeps
  grow_keeps : (room : ℕ) (ids q : List ℕ) → P ids → P (grow_group lists no_anchor g room ids q)
  unfolding grow_group
  grow_keeps zero ids q p = p
  grow_keeps (suc room) ids q p = elim (waiting ids q) as (λ l. P (elim l as (λ _. List ℕ) [ [] ↦ ids | v ∷ rest ↦ grow_group lists no_anchor g room (set ids v g) (rest ++ free lists no_anchor (set ids v g) (lists v)) ]))
      [ [] ↦ p | v ∷ rest ↦ grow_keeps room (set ids v g) (rest ++ free lists no_anchor (set ids v g) (lists v)) (step ids v p) ]

module _ (lists : ℕ → List ℕ) where
  grow_length : (g room : ℕ) (ids q : List ℕ) → length (grow_group lists no_anchor g room ids q) ≡ length ids
  grow_length g room ids q = grow_keeps lists g (λ l. length l ≡ length ids) (λ l v p. length-set l v g ∙ p) room ids q refl

  grow_upto : (g room : ℕ) (ids q : List ℕ) → ((u : ℕ) → get_or ids u 0 ≤ g) → (u : ℕ) → get_or (grow_group lists no_anchor g room ids q) u 0 ≤ g
  grow_upto g room ids q h = grow_keeps lists g (λ l. (u : ℕ) → get_or l u 0 ≤ g) (λ l v p u. ⊎_elim (λ e. omega arith) (λ e. omega (arith, p u)) (set_cases l v g u)) room ids q h

  grow_some : (g room : ℕ) (ids q : List ℕ) (u : ℕ) → 0 < g → 0 < get_or ids u 0 → 0 < get_or (grow_group lists no_anchor g room ids q) u 0
  grow_some g room ids q u pos h = grow_keeps lists g (λ l. 0 < get_or l u 0) (λ l v p. ⊎_elim (λ e. omega arith) (λ e. omega arith) (set_cases l v g u)) room ids q h

  grow_seed : (g room : ℕ) (ids : List ℕ) (v : ℕ) → 0 < g → 0 < room → v < length ids → get_or ids v 0 ≡ 0 → 0 < get_or (grow_group lists no_anchor g room ids (v ∷ [])) v 0
  grow_seed g zero ids v pos r h z = omega arith
  grow_seed g (suc room) ids v pos r h z =
      rw (grow_takes lists g room ids v [] z)
      (grow_some g room (set ids v g) ([] ++ free lists no_anchor (set ids v g) (lists v)) v pos (omega (arith, get_or-set_same ids v g 0 h)))

  -- what holds of groups that are grown from the nodes below v
  pub record Grown (n v g : ℕ) (ids : List ℕ) : Type 0 where
    pub long : length ids ≡ n
    pub upto : (u : ℕ) → get_or ids u 0 ≤ g
    pub some : (u : ℕ) → u < v → 0 < get_or ids u 0
    pub few : g ≤ v

  module _ (n size : ℕ) (pos : 0 < size) where
    grows : (v g : ℕ) (ids : List ℕ) → v < n → get_or ids v 0 ≡ 0 → Grown n v g ids → Grown n (suc v) (suc g) (grow_group lists no_anchor (suc g) size ids (v ∷ []))
    grows v g ids h z o = record {
      long = grow_length (suc g) size ids (v ∷ []) ∙ o.long;
      upto = grow_upto (suc g) size ids (v ∷ []) (λ u. omega (arith, o.upto u));
      some = λ u k. by_test (eqb u v)
          (λ e. rw (eqb-true u v e) (grow_seed (suc g) size ids v (omega arith) pos (omega (arith, o.long)) z))
          (λ e. grow_some (suc g) size ids (v ∷ []) u (omega arith) (o.some u (omega (arith, eqb-false u v e))));
      few = omega (arith, o.few);
    }

    passes : (v g : ℕ) (ids : List ℕ) → (get_or ids v 0 ≡ 0 → ⊥) → Grown n v g ids → Grown n (suc v) g ids
    passes v g ids z o = record {
      long = o.long;
      upto = o.upto;
      some = λ u k. by_test (eqb u v)
          (λ e. rw (eqb-true u v e) (omega (arith, z)))
          (λ e. o.some u (omega (arith, eqb-false u v e)));
      few = omega (arith, o.few);
    }

    from : (left v g : ℕ) (ids : List ℕ) → v + left ≡ n → Grown n v g ids → Grown n n (grow_groups lists no_anchor size left v g ids).1 (grow_groups lists no_anchor size left v g ids).0
    unfolding grow_groups
    from zero v g ids e o = let q : v ≡ n = omega arith in rw q at o
    from (suc left) v g ids e o = by_test (eqb (get_or ids v 0) 0)
        (λ t. rw (from_grows lists size left v g ids (eqb-true (get_or ids v 0) 0 t)) (from left (suc v) (suc g) (grow_group lists no_anchor (suc g) size ids (v ∷ [])) (omega arith) (grows v g ids (omega arith) (eqb-true (get_or ids v 0) 0 t) o)))
        (λ t. rw (from_passes lists size left v g ids (eqb-false (get_or ids v 0) 0 t)) (from left (suc v) g ids (omega arith) (passes v g ids (eqb-false (get_or ids v 0) 0 t) o)))

    -- every node is in a group, by numbers from 1 to their count
    pub grown_all : Grown n n (grown lists no_anchor n size).1 (grown lists no_anchor n size).0
    unfolding grown
    grown_all = from n 0 0 (replicate n 0) (omega arith) (record {
      long = length-replicate n 0;
      upto = zeros;
      some = λ u k. absurd (omega arith);
      few = omega arith;
    })
      where
        zeros : (u : ℕ) → get_or (replicate n 0) u 0 ≤ 0
        zeros u = by_test (ltb u n)
            (λ t. omega (arith, get_or-replicate {A = ℕ} n u 0 0 (ltb-true u n t)))
            (λ t. omega (arith, get_or-eq_default {A = ℕ} (replicate n 0) 0 {n = u} (rw (length-replicate {A = ℕ} n 0) (ltb-false u n t))))
