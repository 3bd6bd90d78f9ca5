-- The loop of `link`.
use mathlib.Core.Path.{◌≡◌, refl, ap, sym, ◌∙◌}
use mathlib.Core.List.{List, [], ◌∷◌}
use Prim.Native.Nat.{ℕ, suc, ◌+◌, ◌≤◌, ◌<◌}
use native.Mathlib.Omega.{arith}
use native.Mathlib.Numerals.{add-one}
use native.Mathlib.Decide.{ℕ_discrete}
use borrow.Author.Tests.{eq-eqb, ne_eqb}
use lib.ListN.{length, get_or, set, drop, length-set, length-drop}
use lib.Seq.{drop-cons, drop-length, get_or-set_same, get_or-set_other}
use Rattle.definitions.specs.Groups.{nodes_of}
use Rattle.laws.proofs.Lists.{Each, none, more, each_imp}
use Rattle.aggregates.specs.JoinChoice.{at, Zeros}
use Rattle.aggregates.specs.JoinState.{Chains, chains, walk, members_of}
use Rattle.aggregates.proofs.joining.Chains.{walk_same, length_walk}

pub nodes_takes : (o v x : ℕ) (xs : List ℕ) → x ≡ o → nodes_of o v (x ∷ xs) ≡ v ∷ nodes_of o (suc v) xs
unfolding nodes_of
nodes_takes o v x xs e = rw (nodes_of, eq-eqb x o e)

pub nodes_passes : (o v x : ℕ) (xs : List ℕ) → (x ≡ o → ⊥) → nodes_of o v (x ∷ xs) ≡ nodes_of o (suc v) xs
unfolding nodes_of
nodes_passes o v x xs e = rw (nodes_of, ne_eqb x o e)

-- its nodes are those of the list
pub nodes_in_lem : (o v : ℕ) (xs : List ℕ) → Each (λ x. (v ≤ x) × (x < v + length xs)) (nodes_of o v xs)
unfolding nodes_of
nodes_in_lem o v [] = none
nodes_in_lem o v (x ∷ xs) = go (ℕ_discrete x o) (each_imp (λ y p. omega arith) (nodes_in_lem o (suc v) xs))
  where
    go : Dec (x ≡ o) → Each (λ y. (v ≤ y) × (y < v + suc (length xs))) (nodes_of o (suc v) xs) → Each (λ y. (v ≤ y) × (y < v + suc (length xs))) (nodes_of o v (x ∷ xs))
    go (yes e) a = rw (nodes_takes o v x xs e) (more {x = v} (omega arith) a)
    go (no d) a = rw (nodes_passes o v x xs d) a

nodes_short : (o v : ℕ) (xs : List ℕ) → length (nodes_of o v xs) ≤ length xs
unfolding nodes_of
nodes_short o v [] = omega arith
nodes_short o v (x ∷ xs) = go (ℕ_discrete x o) (nodes_short o (suc v) xs)
  where
    go : Dec (x ≡ o) → length (nodes_of o (suc v) xs) ≤ length xs → length (nodes_of o v (x ∷ xs)) ≤ suc (length xs)
    go (yes e) a = rw (nodes_takes o v x xs e) (omega arith)
    go (no d) a = rw (nodes_passes o v x xs d) (omega arith)

-- the nodes from v on are in the chains
pub record Linking (ids : List ℕ) (held : ℕ) (c : Chains) (v : ℕ) : Type 0 where
  pub upto : v ≤ length ids
  pub nexts : length c.next ≡ length ids
  pub firsts : length c.first ≡ held
  pub sizes : length c.counts ≡ held
  pub linked : (o : ℕ) → o < held → members_of c o ≡ nodes_of o v (drop v ids)

module _ (ids : List ℕ) (held : ℕ) (low : (v : ℕ) → v < length ids → get_or ids v 0 < held) where
  pub link_first : (c : Chains) → length c.next ≡ length ids → length c.first ≡ held → length c.counts ≡ held → Zeros c.counts → Linking ids held c (length ids)
  unfolding members_of nodes_of walk
  link_first c a b d z = record {
    upto = omega arith;
    nexts = a;
    firsts = b;
    sizes = d;
    linked = λ o h. rw (z o, drop-length ids) refl;
  }

  module _ (c : Chains) (v : ℕ) (inv : Linking ids held c v) where
    -- each count is small
    pub link_count : (o : ℕ) → o < held → at c.counts o ≤ length ids
    unfolding members_of
    link_count o h = omega (arith, length_walk (at c.counts o) c.next (at c.first o), ap length (inv.linked o h), nodes_short o v (drop v ids), length-drop v ids)

    module _ (u : ℕ) (is-u : v ≡ u + 1) where
      abbrev o : ℕ
      o = get_or ids u 0

      o_low : o < held
      o_low = low u (omega (arith, inv.upto))

      abbrev pub c' : Chains
      c' = chains (set c.next u (at c.first o)) (set c.first o u) (set c.counts o (at c.counts o + 1))

      -- the chains so far do not go by u
      still : (p : ℕ) → p < held → walk (at c.counts p) (set c.next u (at c.first o)) (at c.first p) ≡ nodes_of p v (drop v ids)
      unfolding members_of
      still p h =
          let a : Each (λ x. (v ≤ x) × (x < v + length (drop v ids))) (walk (at c.counts p) c.next (at c.first p)) = rw (inv.linked p h) (nodes_in_lem p v (drop v ids)) in
          walk_same c.next (set c.next u (at c.first o)) (at c.counts p) (at c.first p) (each_imp (λ x q. get_or-set_other c.next u x (at c.first o) 0 (omega arith)) a) ∙ inv.linked p h

      rest : drop u ids ≡ o ∷ drop v ids
      rest = rw (is-u, add-one) (drop-cons ids u 0 (omega (arith, inv.upto)))

      link_chain : (p : ℕ) → p < held → Dec (p ≡ o) → members_of c' p ≡ nodes_of p u (drop u ids)
      unfolding members_of walk
      link_chain p h (yes e) =
          let i : v ≡ suc u = omega arith in
          let count : at (set c.counts o (at c.counts o + 1)) o ≡ suc (at c.counts o) = get_or-set_same c.counts o (at c.counts o + 1) 0 (omega (arith, o_low, inv.sizes)) ∙ add-one (at c.counts o) in
          let head : at (set c.first o u) o ≡ u = get_or-set_same c.first o u 0 (omega (arith, o_low, inv.firsts)) in
          let next : get_or (set c.next u (at c.first o)) u 0 ≡ at c.first o = get_or-set_same c.next u (at c.first o) 0 (omega (arith, inv.nexts, inv.upto)) in
          let a : walk (at c.counts o) (set c.next u (at c.first o)) (at c.first o) ≡ nodes_of o (suc u) (drop v ids) = still o o_low ∙ ap (λ x. nodes_of o x (drop v ids)) i in
          rw (e, count, head, next, rest, a) (sym (nodes_takes o u o (drop v ids) refl))
      link_chain p h (no d) =
          let i : v ≡ suc u = omega arith in
          let count : at (set c.counts o (at c.counts o + 1)) p ≡ at c.counts p = get_or-set_other c.counts o p (at c.counts o + 1) 0 d in
          let head : at (set c.first o u) p ≡ at c.first p = get_or-set_other c.first o p u 0 d in
          let a : walk (at c.counts p) (set c.next u (at c.first o)) (at c.first p) ≡ nodes_of p (suc u) (drop v ids) = still p h ∙ ap (λ x. nodes_of p x (drop v ids)) i in
          rw (count, head, rest, a) (sym (nodes_passes p u o (drop v ids) (λ z. d (sym z))))

      pub link_step : Linking ids held c' u
      link_step = record {
        upto = omega (arith, inv.upto);
        nexts = length-set c.next u (at c.first o) ∙ inv.nexts;
        firsts = length-set c.first o u ∙ inv.firsts;
        sizes = length-set c.counts o (at c.counts o + 1) ∙ inv.sizes;
        linked = λ p h. link_chain p h (ℕ_discrete p o);
      }
