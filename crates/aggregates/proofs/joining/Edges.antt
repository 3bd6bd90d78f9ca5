-- The loop of `gather`: what is in the list of names, with what the rest of the chain names, stays the same.
use Rattle.std.specs.List.{sum_by}
use Rattle.std.proofs.lemmas.List.Sums.{sum_by-cons}
use mathlib.Core.Path.{◌≡◌, refl, sym, ◌∙◌}
use mathlib.Core.Bool.{Bool, true, false, ◌||◌}
use mathlib.Core.List.{List, [], ◌∷◌, ◌++◌, append-nil, append_assoc}
use Prim.Native.Nat.{ℕ, suc, ◌+◌, ◌-◌, ◌≤◌, ◌<◌}
use native.Mathlib.Omega.{arith}
use lib.Dec.{eqb}
use lib.ListN.{length, get_or, take, length-append}
use lib.Seq.{length-slice}
use Rattle.definitions.specs.Groups.{listed}
use Rattle.laws.proofs.Lists.{Each, each_head, each_tail}
use Rattle.aggregates.specs.Lists.{Lists}
use Rattle.aggregates.specs.JoinChoice.{at, others_by, named_by}
use Rattle.aggregates.specs.JoinState.{Chains, Gathers, members_of, walk}
use Rattle.aggregates.proofs.NodeLists.{degree, offset_within, each_part}

branch : (t : Bool) (x y : ℕ) (p q : List ℕ) → x ≡ y → p ≡ q → ◌≡◌ {A = List ℕ} (elim t [ true ↦ p | false ↦ x ∷ p ]) (elim t [ true ↦ q | false ↦ y ∷ q ])
branch true x y p q d e = e
branch false x y p q d e = rw (d, e) refl

-- lists and sizes that agree on some nodes give the same names
pub others_cong : (g : ℕ) (ids ids' : List ℕ) (a b : ℕ → ℕ) (ws : List ℕ) → Each (λ w. (get_or ids w 0 ≡ get_or ids' w 0) × (a (get_or ids' w 0) ≡ b (get_or ids' w 0))) ws → others_by g ids a ws ≡ others_by g ids' b ws
unfolding others_by
others_cong g ids ids' a b [] e = refl
others_cong g ids ids' a b (w ∷ ws) e =
    rw (others_by, (each_head e).0, (each_head e).1) (branch (eqb (get_or ids' w 0) g || eqb (b (get_or ids' w 0)) 0) (get_or ids w 0) (get_or ids' w 0) (others_by g ids a ws) (others_by g ids' b ws) (each_head e).0 (others_cong g ids ids' a b ws (each_tail e)))

pub others_short : (g : ℕ) (ids : List ℕ) (sizes : ℕ → ℕ) (ws : List ℕ) → length (others_by g ids sizes ws) ≤ length ws
unfolding others_by
others_short g ids sizes [] = omega arith
others_short g ids sizes (x ∷ ws) = elim (eqb (get_or ids x 0) g || eqb (sizes (get_or ids x 0)) 0) as (λ t. length {A = ℕ} (elim t as (λ _. List ℕ) [ true ↦ others_by g ids sizes ws | false ↦ get_or ids x 0 ∷ others_by g ids sizes ws ]) ≤ suc (length ws))
    [ true ↦ omega (arith, others_short g ids sizes ws) | false ↦ omega (arith, others_short g ids sizes ws) ]

-- of the chain's members, `turns` were looked at, and from `cur` on the rest is to come
pub record Gathering (n : ℕ) (offsets nb ids : List ℕ) (c : Chains) (g : ℕ) (names : List ℕ) (turns cur end : ℕ) : Type 0 where
  pub nodes : Each (λ v. v < n) (walk (at c.counts g - turns) c.next cur)
  pub room : end + sum_by (degree offsets) (walk (at c.counts g - turns) c.next cur) ≤ length names
  pub list : take end names ++ named_by (listed offsets nb) g ids (at c.counts) (walk (at c.counts g - turns) c.next cur) ≡ named_by (listed offsets nb) g ids (at c.counts) (members_of c g)
  pub count : end + length (named_by (listed offsets nb) g ids (at c.counts) (walk (at c.counts g - turns) c.next cur)) ≡ length (named_by (listed offsets nb) g ids (at c.counts) (members_of c g))

module _ (n : ℕ) (offsets nb ids : List ℕ) (c : Chains) (g : ℕ) (ok : Lists n offsets nb) (names₀ : List ℕ) (asks : Gathers n offsets ids c (length names₀) g) where
  pub gather_first : Gathering n offsets nb ids c g names₀ 0 (at c.first g) 0
  unfolding members_of
  gather_first = let e : at c.counts g - 0 ≡ at c.counts g = omega arith in record { nodes = rw e asks.nodes; room = rw e (omega (arith, asks.space)); list = rw e refl; count = rw e (omega arith) }

  module _ (names : List ℕ) (turns cur end : ℕ) (inv : Gathering n offsets nb ids c g names turns cur end) where
    pub gather_last : at c.counts g ≤ turns → (end ≡ length (named_by (listed offsets nb) g ids (at c.counts) (members_of c g))) × (take end names ≡ named_by (listed offsets nb) g ids (at c.counts) (members_of c g))
    unfolding walk named_by
    gather_last h = let z : at c.counts g - turns ≡ 0 = omega arith in (omega (arith, rw z at inv.count), sym (append-nil (take end names)) ∙ rw z at inv.list)

    module _ (some : turns < at c.counts g) where
      left_is : at c.counts g - turns ≡ suc (at c.counts g - (turns + 1))
      left_is = omega arith

      nodes' : Each (λ v. v < n) (walk (suc (at c.counts g - (turns + 1))) c.next cur)
      nodes' = rw left_is at inv.nodes

      pub gather_node : cur < n
      unfolding walk
      gather_node = each_head nodes'

      room' : end + sum_by (degree offsets) (walk (suc (at c.counts g - (turns + 1))) c.next cur) ≤ length names
      room' = rw left_is at inv.room

      fits : get_or offsets (suc cur) 0 ≤ length nb
      fits = offset_within n offsets nb ok (suc cur) gather_node

      long : length (listed offsets nb cur) ≡ degree offsets cur
      unfolding listed
      long = length-slice (get_or offsets cur 0) (get_or offsets (suc cur) 0) nb fits

      -- what `names_of` asks
      pub gather_nodes : length ids ≡ n → Each (λ v. v < length ids) (listed offsets nb cur)
      unfolding listed
      gather_nodes e = rw e (each_part (λ v. v < n) (get_or offsets cur 0) (get_or offsets (suc cur) 0) nb fits ok.within)

      pub gather_groups : Each (λ v. get_or ids v 0 < length c.counts) (listed offsets nb cur)
      unfolding listed
      gather_groups = each_part (λ v. get_or ids v 0 < length c.counts) (get_or offsets cur 0) (get_or offsets (suc cur) 0) nb fits (λ k h. asks.sizes (get_or nb k 0) (ok.within k h))

      pub gather_space : end + length (listed offsets nb cur) ≤ length names
      unfolding walk
      gather_space = omega (arith, room', long, sum_by-cons (degree offsets) cur (walk (at c.counts g - (turns + 1)) c.next (get_or c.next cur 0)))

      pub gather_step : (names' : List ℕ) (end' : ℕ) → end' ≡ end + length (others_by g ids (at c.counts) (listed offsets nb cur)) → take end' names' ≡ take end names ++ others_by g ids (at c.counts) (listed offsets nb cur) → length names' ≡ length names
          → Gathering n offsets nb ids c g names' (turns + 1) (get_or c.next cur 0) end'
      unfolding walk named_by
      gather_step names' end' e q same =
          let new = others_by g ids (at c.counts) (listed offsets nb cur) in
          let short : length new ≤ degree offsets cur = omega (arith, others_short g ids (at c.counts) (listed offsets nb cur), long) in
          let tail = named_by (listed offsets nb) g ids (at c.counts) (walk (at c.counts g - (turns + 1)) c.next (get_or c.next cur 0)) in
          let list' : take end names ++ (new ++ tail) ≡ named_by (listed offsets nb) g ids (at c.counts) (members_of c g) = rw left_is at inv.list in
          let count' : end + length (new ++ tail) ≡ length (named_by (listed offsets nb) g ids (at c.counts) (members_of c g)) = rw left_is at inv.count in
          record {
            nodes = each_tail nodes';
            room = omega (arith, room', same, sum_by-cons (degree offsets) cur (walk (at c.counts g - (turns + 1)) c.next (get_or c.next cur 0)));
            list = rw q (append_assoc (take end names) new tail ∙ list');
            count = omega (arith, count', length-append new tail);
          }
