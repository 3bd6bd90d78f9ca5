-- Chains of members: a store in one place, and one chain put before another.
use Rattle.std.specs.List.{sum_by}
use Rattle.std.proofs.lemmas.List.Sums.{sum_by-cons}
use mathlib.Core.Path.{◌≡◌, refl, ap, sym, ◌∙◌}
use mathlib.Core.List.{List, [], ◌∷◌, ◌++◌}
use Prim.Native.Nat.{ℕ, zero, suc, ◌+◌, ◌-◌, ◌≤◌, ◌<◌}
use native.Mathlib.Omega.{arith}
use lib.ListN.{length, get_or, set}
use lib.Seq.{get_or-set_other}
use Rattle.laws.proofs.Lists.{Each, none, more, each_head, each_tail, each_imp, each_append, each_left, each_both}
use Rattle.aggregates.specs.JoinState.{Once, walk, hop}
use Rattle.aggregates.proofs.NodeLists.{spare, spare_set, each_last}

pub length_walk : (k : ℕ) (w : List ℕ) (cur : ℕ) → length (walk k w cur) ≡ k
unfolding walk
length_walk zero w cur = refl
length_walk (suc k) w cur = ap suc (length_walk k w (get_or w cur 0))

pub walk_add : (a b : ℕ) (w : List ℕ) (cur : ℕ) → walk (a + b) w cur ≡ walk a w cur ++ walk b w (hop a w cur)
unfolding walk hop
walk_add zero b w cur = let e : 0 + b ≡ b = omega arith in rw e refl
walk_add (suc a) b w cur = let e : suc a + b ≡ suc (a + b) = omega arith in rw e (ap (λ l. cur ∷ l) (walk_add a b w (get_or w cur 0)))

-- lists that agree where a chain goes have the same chain
module _ (w u : List ℕ) where
  pub walk_same : (k cur : ℕ) → Each (λ v. get_or u v 0 ≡ get_or w v 0) (walk k w cur) → walk k u cur ≡ walk k w cur
  unfolding walk
  walk_same zero cur a = refl
  walk_same (suc k) cur a = rw (each_head a) (ap (λ l. cur ∷ l) (walk_same k (get_or w cur 0) (each_tail a)))

  pub hop_same : (k cur : ℕ) → Each (λ v. get_or u v 0 ≡ get_or w v 0) (walk k w cur) → hop k u cur ≡ hop k w cur
  unfolding walk hop
  hop_same zero cur a = refl
  hop_same (suc k) cur a = rw (each_head a) (hop_same k (get_or w cur 0) (each_tail a))

pub hop_suc : (k : ℕ) (w : List ℕ) (cur : ℕ) → hop (suc k) w cur ≡ get_or w (hop k w cur) 0
unfolding hop
hop_suc zero w cur = refl
hop_suc (suc k) w cur = hop_suc k w (get_or w cur 0)

pub walk_suc : (k : ℕ) (w : List ℕ) (cur : ℕ) → walk (suc k) w cur ≡ walk k w cur ++ ((hop k w cur) ∷ [])
unfolding walk hop
walk_suc zero w cur = refl
walk_suc (suc k) w cur = ap (λ l. cur ∷ l) (walk_suc k w (get_or w cur 0))

once_last : (l : List ℕ) (x : ℕ) → Once (l ++ (x ∷ [])) → Each (λ v. v ≡ x → ⊥) l
once_last [] x o = none
once_last (y ∷ l) x o = more (λ e. each_last l o.0 (sym e)) (once_last l x o.1)

-- the chain of a + 1 nodes from cur on is put before the chain of b nodes from next on: u is w on the nodes, those below n, but at the first chain's last node, where it goes on with next
pub splice : (n a b : ℕ) (w u : List ℕ) (cur next : ℕ) → Once (walk (suc a) w cur) → Each (λ v. v < n) (walk (suc a) w cur) → Each (λ v. (v < n) × (v ≡ hop a w cur → ⊥)) (walk b w next) →
    ((v : ℕ) → v < n → (v ≡ hop a w cur → ⊥) → get_or u v 0 ≡ get_or w v 0) → get_or u (hop a w cur) 0 ≡ next →
    walk (suc a + b) u cur ≡ walk (suc a) w cur ++ walk b w next
splice n a b w u cur next o low apart kept at =
    let last = hop a w cur in
    let early : Each (λ v. get_or u v 0 ≡ get_or w v 0) (walk a w cur) = each_imp (λ v p. kept v p.0 p.1)
    (each_both (each_left (walk a w cur) (last ∷ []) (rw (walk_suc a w cur) at low)) (once_last (walk a w cur) last (rw (walk_suc a w cur) at o))) in
    let first : walk (suc a) u cur ≡ walk (suc a) w cur = walk_suc a u cur ∙ rw (walk_suc a w cur, walk_same w u a cur early, hop_same w u a cur early) refl in
    let on : hop (suc a) u cur ≡ next = hop_suc a u cur ∙ rw (hop_same w u a cur early) at in
    let second : walk b u next ≡ walk b w next = walk_same w u b next (each_imp (λ v p. kept v p.0 p.1) apart) in
    walk_add (suc a) b u cur ∙ rw (on, first, second) refl

-- two lists with no common element, each with each element once
pub once_append : (xs ys : List ℕ) → Once xs → Once ys → Each (λ x. Each (λ y. y ≡ x → ⊥) ys) xs → Once (xs ++ ys)
once_append [] ys o p a = p
once_append (x ∷ xs) ys o p a = (each_append o.0 (each_head a), once_append xs ys o.1 p (each_tail a))

-- different nodes together take up no more than all
pub sum_within : (d : ℕ → ℕ) (l u : List ℕ) → Once l → Each (λ v. v < length u) l → Each (λ v. get_or u v 0 ≡ 0) l → sum_by d l ≤ spare d 0 u
sum_within d [] u o a z = omega arith
sum_within d (v ∷ l) u o a z =
    let e : 0 + v ≡ v = omega arith in
    let s : spare d 0 (set u v 1) + d v ≡ spare d 0 u = rw e at (spare_set d 0 u v 1 (each_head a) (each_head z) (omega arith)) in
    omega (arith, sum_by-cons d v l, sum_within d l (set u v 1) o.1 (rw lib.ListN.length-set (each_tail a)) (keep l o.0 (each_tail z)))
  where
    keep : (m : List ℕ) → Each (λ y. y ≡ v → ⊥) m → Each (λ y. get_or u y 0 ≡ 0) m → Each (λ y. get_or (set u v 1) y 0 ≡ 0) m
    keep [] d q = none
    keep (y ∷ m) d q = more (get_or-set_other u v y 1 0 (each_head d) ∙ each_head q) (keep m (each_tail d) (each_tail q))

-- the last node of a chain
pub hop_low : (P : ℕ → Type 0) (k : ℕ) (w : List ℕ) (cur : ℕ) → 0 < k → Each P (walk k w cur) → P (hop (k - 1) w cur)
hop_low P k w cur h a =
    let e : k ≡ suc (k - 1) = omega arith in
    each_last (walk (k - 1) w cur) (rw (e, walk_suc (k - 1) w cur) at a)
