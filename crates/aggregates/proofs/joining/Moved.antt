-- What `move_group` does to the groups that the lists stand for: it is the definition's `joined`.
use mathlib.Core.Path.{◌≡◌, refl, ap, sym, ◌∙◌}
use mathlib.Core.List.{List, [], ◌∷◌, ◌++◌}
use Prim.Native.Nat.{ℕ, suc, ◌+◌, ◌-◌, ◌≤◌, ◌<◌}
use native.Mathlib.Omega.{arith}
use native.Mathlib.Decide.{ℕ_discrete}
use lib.ListN.{length, get_or, set, length-set}
use lib.Seq.{get_or-set_same, get_or-set_other, ext_get_or}
use Rattle.definitions.specs.Lists.{tab}
use Rattle.definitions.specs.Groups.{Joining, relabelled, joined}
use Rattle.laws.proofs.Lists.{Each, none, more, each_head, each_tail, each_imp, each_append, each_both, get_d_tab, length_tab}
use Rattle.aggregates.specs.JoinChoice.{at}
use Rattle.aggregates.specs.JoinState.{Chains, Once, walk, hop, members_of, state_of, moved, Rep}
use Rattle.aggregates.proofs.NodeLists.{each_last}
use Rattle.aggregates.proofs.joining.Counting.{after_set}
use Rattle.aggregates.proofs.joining.Chains.{walk_same, walk_suc, splice, once_append}

pub length_relabel : (b : ℕ) (vs ids : List ℕ) → length (relabelled b vs ids) ≡ length ids
unfolding relabelled
length_relabel b [] ids = refl
length_relabel b (v ∷ vs) ids = length_relabel b vs (set ids v b) ∙ length-set ids v b

pub relabel_other : (b : ℕ) (vs ids : List ℕ) (k : ℕ) → Each (λ v. k ≡ v → ⊥) vs → get_or (relabelled b vs ids) k 0 ≡ get_or ids k 0
unfolding relabelled
relabel_other b [] ids k a = refl
relabel_other b (v ∷ vs) ids k a = relabel_other b vs (set ids v b) k (each_tail a) ∙ get_or-set_other ids v k b 0 (each_head a)

-- what holds of the new group and of a node's old group holds of its group
relabel_keeps : (P : ℕ → Type 0) (b : ℕ) (vs ids : List ℕ) (k : ℕ) → Each (λ v. v < length ids) vs → P b → P (get_or ids k 0) → P (get_or (relabelled b vs ids) k 0)
unfolding relabelled
relabel_keeps P b [] ids k a p q = q
relabel_keeps P b (v ∷ vs) ids k a p q = relabel_keeps P b vs (set ids v b) k (rw length-set (each_tail a)) p (after_set P ids v b k (each_head a) (λ e. p) (λ d. q))

relabel_in : (b : ℕ) (vs ids : List ℕ) → Each (λ v. v < length ids) vs → Each (λ v. get_or (relabelled b vs ids) v 0 ≡ b) vs
unfolding relabelled
relabel_in b [] ids a = none
relabel_in b (v ∷ vs) ids a = more (relabel_keeps (λ x. x ≡ b) b vs (set ids v b) v (rw length-set (each_tail a)) refl (get_or-set_same ids v b 0 (each_head a))) (relabel_in b vs (set ids v b) (rw length-set (each_tail a)))

module _ (n groups : ℕ) (offsets nb ids : List ℕ) (c : Chains) (rep : Rep n groups offsets nb ids c) (g b : ℕ) (hg : g ≤ groups) (hb : b ≤ groups) (differ : b ≡ g → ⊥) (some : 0 < at c.counts g) where
  abbrev pub c' : Chains
  c' = moved g b c

  abbrev pub last : ℕ
  last = hop (at c.counts g - 1) c.next (at c.first g)

  -- the chain of g ends in `last`
  chain : members_of c g ≡ walk (at c.counts g - 1) c.next (at c.first g) ++ (last ∷ [])
  unfolding members_of
  chain =
      let e : at c.counts g ≡ suc (at c.counts g - 1) = omega arith in
      ap (λ k. walk k c.next (at c.first g)) e ∙ walk_suc (at c.counts g - 1) c.next (at c.first g)

  last_in : (last < n) × (get_or ids last 0 ≡ g)
  last_in = each_last (walk (at c.counts g - 1) c.next (at c.first g)) (rw chain at (rep.members g hg))

  -- the stores, at each place
  next_other : (k : ℕ) → (k ≡ last → ⊥) → get_or c'.next k 0 ≡ get_or c.next k 0
  unfolding moved
  next_other k d = get_or-set_other c.next last k (at c.first b) 0 d

  next_last : get_or c'.next last 0 ≡ at c.first b
  unfolding moved
  next_last = get_or-set_same c.next last (at c.first b) 0 (omega (arith, last_in.0, rep.nexts))

  first_other : (k : ℕ) → (k ≡ b → ⊥) → at c'.first k ≡ at c.first k
  unfolding moved
  first_other k d = get_or-set_other c.first b k (at c.first g) 0 d

  first_b : at c'.first b ≡ at c.first g
  unfolding moved
  first_b = get_or-set_same c.first b (at c.first g) 0 (omega (arith, rep.firsts))

  count_g : at c'.counts g ≡ 0
  unfolding moved
  count_g = get_or-set_same (set c.counts b (at c.counts b + at c.counts g)) g 0 0 (simp length-set (omega (arith, rep.sizes)))

  count_b : at c'.counts b ≡ at c.counts g + at c.counts b
  unfolding moved
  count_b = get_or-set_other (set c.counts b (at c.counts b + at c.counts g)) g b 0 0 differ ∙ get_or-set_same c.counts b (at c.counts b + at c.counts g) 0 (omega (arith, rep.sizes)) ∙ omega arith

  count_other : (k : ℕ) → (k ≡ g → ⊥) → (k ≡ b → ⊥) → at c'.counts k ≡ at c.counts k
  unfolding moved
  count_other k d e = get_or-set_other (set c.counts b (at c.counts b + at c.counts g)) g k 0 0 d ∙ get_or-set_other c.counts b k (at c.counts b + at c.counts g) 0 e

  -- a chain that does not go by `last` is as it was
  elsewhere : (o k cur : ℕ) → (o ≡ g → ⊥) → Each (λ v. (v < n) × (get_or ids v 0 ≡ o)) (walk k c.next cur) → walk k c'.next cur ≡ walk k c.next cur
  elsewhere o k cur d a = walk_same c.next c'.next k cur (each_imp (λ v p. next_other v (λ e. d (sym p.1 ∙ (rw (← e) at last_in.1)))) a)

  pub members_g : members_of c' g ≡ []
  unfolding members_of walk
  members_g = rw count_g refl

  pub members_other : (o : ℕ) → o ≤ groups → (o ≡ g → ⊥) → (o ≡ b → ⊥) → members_of c' o ≡ members_of c o
  unfolding members_of
  members_other o ho d e = rw (count_other o d e, first_other o e) (elsewhere o (at c.counts o) (at c.first o) d (rep.members o ho))

  pub members_b : members_of c' b ≡ members_of c g ++ members_of c b
  unfolding members_of
  members_b =
      let e : at c.counts g ≡ suc (at c.counts g - 1) = omega arith in
      let all-g = rep.members g hg in
      let all-b = rep.members b hb in
      let joined = splice n (at c.counts g - 1) (at c.counts b) c.next c'.next (at c.first g) (at c.first b)
      (rw e at (rep.once g hg))
      (each_imp (λ v p. p.0) (rw e at all-g))
      (each_imp (λ v p. (p.0, λ q. differ (sym p.1 ∙ (rw (← q) at last_in.1)))) all-b)
      (λ v h d. next_other v d)
      next_last in
      rw (count_b, first_b, e) joined

  abbrev pub ids' : List ℕ
  ids' = relabelled b (members_of c g) ids

  same_nodes : length ids' ≡ n
  same_nodes = length_relabel b (members_of c g) ids ∙ rep.nodes

  pub moved_state : (j : Joining) → j ≡ record { moved = g; taker = b } → state_of groups ids' c' ≡ joined j (state_of groups ids c)
  unfolding state_of joined
  moved_state j is =
      let M = tab (members_of c) (suc groups) in
      let at_g : get_or M g [] ≡ members_of c g = get_d_tab (members_of c) (suc groups) g [] (omega arith) in
      let at_b : get_or M b [] ≡ members_of c b = get_d_tab (members_of c) (suc groups) b [] (omega arith) in
      let lists : tab (members_of c') (suc groups) ≡ set (set M b (get_or M g [] ++ get_or M b [])) g [] =
      rw (at_g, at_b) (ext_get_or [] (tab (members_of c') (suc groups)) (set (set M b (members_of c g ++ members_of c b)) g [])
      (length_tab (members_of c') (suc groups) ∙ sym (simp length-set (length_tab (members_of c) (suc groups))))
      (λ i h. each i (rw (length_tab (members_of c') (suc groups)) at h))) in
      let groups_of : ids' ≡ relabelled b (get_or M g []) ids = rw at_g refl in
      rw is (λ i. record { of = groups_of i; members = lists i })
    where
      each : (i : ℕ) → i < suc groups → get_or (tab (members_of c') (suc groups)) i [] ≡ get_or (set (set (tab (members_of c) (suc groups)) b (members_of c g ++ members_of c b)) g []) i []
      each i h =
          let M = tab (members_of c) (suc groups) in
          let M1 = set M b (members_of c g ++ members_of c b) in
          go i h M M1 (get_d_tab (members_of c') (suc groups) i [] h) (get_d_tab (members_of c) (suc groups) i [] h) (length_tab (members_of c) (suc groups)) refl (ℕ_discrete i g) (ℕ_discrete i b)
        where
          go : (i : ℕ) → i < suc groups → (M M1 : List (List ℕ)) → get_or (tab (members_of c') (suc groups)) i [] ≡ members_of c' i → get_or M i [] ≡ members_of c i → length M ≡ suc groups →
              M1 ≡ set M b (members_of c g ++ members_of c b) → Dec (i ≡ g) → Dec (i ≡ b) → get_or (tab (members_of c') (suc groups)) i [] ≡ get_or (set M1 g []) i []
          go i h M M1 new old lm e1 (yes e) t =
              let lm1 : length M1 ≡ suc groups = ap length e1 ∙ simp length-set lm in
              new ∙ rw e (members_g ∙ sym (get_or-set_same M1 g [] [] (omega arith)))
          go i h M M1 new old lm e1 (no d) (yes e) =
              new ∙ rw e (members_b ∙ sym (get_or-set_other M1 g b [] [] differ ∙ ap (λ m. get_or m b []) e1 ∙ get_or-set_same M b (members_of c g ++ members_of c b) [] (omega arith)))
          go i h M M1 new old lm e1 (no d) (no d') =
              new ∙ members_other i (omega arith) d d' ∙ sym old ∙ sym (get_or-set_other M1 g i [] [] d ∙ ap (λ m. get_or m i []) e1 ∙ get_or-set_other M b i (members_of c g ++ members_of c b) [] d')

  in_g : Each (λ v. (v < n) × (get_or ids v 0 ≡ g)) (members_of c g)
  in_g = rep.members g hg

  low_g : Each (λ v. v < n) (members_of c g)
  low_g = each_imp (λ v p. p.0) in_g

  -- no node of another group is moved
  stays : (o v : ℕ) → (o ≡ g → ⊥) → get_or ids v 0 ≡ o → get_or ids' v 0 ≡ o
  stays o v d e = relabel_other b (members_of c g) ids v
      (each_imp (λ x p q. d (sym e ∙ (rw (← q) at p.1))) in_g) ∙ e

  members_still : (o : ℕ) → o ≤ groups → Each (λ v. (v < n) × (get_or ids' v 0 ≡ o)) (members_of c' o)
  members_still o ho = go (ℕ_discrete o g) (ℕ_discrete o b)
    where
      go : Dec (o ≡ g) → Dec (o ≡ b) → Each (λ v. (v < n) × (get_or ids' v 0 ≡ o)) (members_of c' o)
      go (yes e) t = rw (e, members_g) none
      go (no d) (yes e) = rw (e, members_b) (each_append
          (each_both low_g (relabel_in b (members_of c g) ids (rw rep.nodes low_g)))
          (each_imp (λ v p. (p.0, stays b v differ p.1)) (rep.members b hb)))
      go (no d) (no d') = rw (members_other o ho d d') (each_imp (λ v p. (p.0, stays o v d p.1)) (rep.members o ho))

  once_still : (o : ℕ) → o ≤ groups → Once (members_of c' o)
  once_still o ho = go (ℕ_discrete o g) (ℕ_discrete o b)
    where
      go : Dec (o ≡ g) → Dec (o ≡ b) → Once (members_of c' o)
      go (yes e) t = rw (e, members_g) tt
      go (no d) (yes e) = rw (e, members_b) (once_append (members_of c g) (members_of c b) (rep.once g hg) (rep.once b hb)
          (each_imp (λ x p. each_imp (λ y q e'. differ (sym q.1 ∙ (rw (← e') at p.1))) (rep.members b hb)) in_g))
      go (no d) (no d') = rw (members_other o ho d d') (rep.once o ho)

  pub moved_rep : Rep n groups offsets nb ids' c'
  unfolding moved
  moved_rep = record {
    nodes = same_nodes;
    nexts = simp length-set rep.nexts;
    firsts = simp length-set rep.firsts;
    sizes = simp length-set rep.sizes;
    lists = rep.lists;
    few = rep.few;
    small = rep.small;
    grouped = λ v h. relabel_keeps (λ x. x ≤ groups) b (members_of c g) ids v (rw rep.nodes low_g) hb (rep.grouped v h);
    members = members_still;
    once = once_still;
  }
