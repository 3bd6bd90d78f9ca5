-- The chains that `link` made stand for the grown groups.
use mathlib.Core.Path.{◌≡◌}
use mathlib.Core.List.{List, [], ◌∷◌}
use Prim.Native.Nat.{ℕ, suc, ◌-◌, ◌≤◌, ◌<◌}
use native.Mathlib.Omega.{arith}
use native.Mathlib.Decide.{ℕ_discrete}
use lib.ListN.{length, get_or}
use Rattle.definitions.specs.Groups.{groups_of, nodes_of}
use Rattle.laws.proofs.Lists.{Each, none, more, each_imp, each_both, tab_cong}
use Rattle.aggregates.specs.JoinState.{Chains, Once, Joins, Rep, members_of, state_of}
use Rattle.aggregates.proofs.joining.Linking.{nodes_takes, nodes_passes, nodes_in_lem}

-- the nodes of a group have that group
nodes_have : (o v : ℕ) (xs : List ℕ) → Each (λ y. (v ≤ y) × (get_or xs (y - v) 0 ≡ o)) (nodes_of o v xs)
unfolding nodes_of
nodes_have o v [] = none
nodes_have o v (x ∷ xs) = go (ℕ_discrete x o) (each_imp (λ y p. let e : y - v ≡ suc (y - suc v) = omega (arith, p.0) in (omega (arith, p.0), rw e p.1)) (nodes_have o (suc v) xs))
  where
    go : Dec (x ≡ o) → Each (λ y. (v ≤ y) × (get_or (x ∷ xs) (y - v) 0 ≡ o)) (nodes_of o (suc v) xs) → Each (λ y. (v ≤ y) × (get_or (x ∷ xs) (y - v) 0 ≡ o)) (nodes_of o v (x ∷ xs))
    go (yes e) a = let z : v - v ≡ 0 = omega arith in rw (nodes_takes o v x xs e) (more {x = v} (omega arith, rw z e) a)
    go (no d) a = rw (nodes_passes o v x xs d) a

nodes_once : (o v : ℕ) (xs : List ℕ) → Once (nodes_of o v xs)
unfolding nodes_of
nodes_once o v [] = tt
nodes_once o v (x ∷ xs) = go (ℕ_discrete x o) (nodes_once o (suc v) xs) (each_imp (λ y p e. omega (arith, p.0)) (nodes_in_lem o (suc v) xs))
  where
    go : Dec (x ≡ o) → Once (nodes_of o (suc v) xs) → Each (λ y. y ≡ v → ⊥) (nodes_of o (suc v) xs) → Once (nodes_of o v (x ∷ xs))
    go (yes e) a later = rw (nodes_takes o v x xs e) (later, a)
    go (no d) a later = rw (nodes_passes o v x xs d) a

module _ (n groups : ℕ) (offsets nb ids : List ℕ) (asks : Joins n groups offsets nb ids) (c : Chains) (nexts : length c.next ≡ n) (firsts : length c.first ≡ suc groups) (sizes : length c.counts ≡ suc groups) (linked : (o : ℕ) → o < suc groups → members_of c o ≡ nodes_of o 0 ids) where
  pub begun_rep : Rep n groups offsets nb ids c
  begun_rep = record {
    nodes = asks.nodes;
    nexts = nexts;
    firsts = firsts;
    sizes = sizes;
    lists = asks.lists;
    few = asks.few;
    small = asks.small;
    grouped = asks.grouped;
    members = λ o h. rw (linked o (omega arith))
        (each_imp (λ y p. let z : y - 0 ≡ y = omega arith in (omega (arith, p.0.1, asks.nodes), rw z at p.1.1))
        (each_both (nodes_in_lem o 0 ids) (nodes_have o 0 ids)));
    once = λ o h. rw (linked o (omega arith)) (nodes_once o 0 ids);
  }

  pub begun_state : state_of groups ids c ≡ groups_of ids groups
  unfolding state_of groups_of
  begun_state = let e = tab_cong (members_of c) (λ g. nodes_of g 0 ids) (suc groups) linked in λ i. record { of = ids; members = e i }
