-- A group's turn, over the nodes' groups and the work list apart: what the choice of the definitions is in their terms.
use Rattle.std.specs.List.{sum_by}
use Rattle.std.proofs.lemmas.List.Sums.{sum_by-cons}
use mathlib.Core.Path.{◌≡◌, refl, ap, sym, ◌∙◌}
use mathlib.Core.Bool.{◌||◌}
use mathlib.Core.List.{List, [], ◌∷◌, ◌++◌}
use Prim.Native.Nat.{ℕ, zero, suc, ◌+◌, ◌≤◌, ◌<◌}
use native.Mathlib.Omega.{arith}
use borrow.Author.Tests.{lt-ltb, le-ltb, eqb-false}
use lib.Dec.{eqb}
use lib.ListN.{length, get_or, length-append, replicate, length-replicate, get_or-replicate}
use lib.Seq.{slice, length-slice}
use Rattle.definitions.specs.Groups.{Groups, Joining, nodes_in, size_in, edges_to, chosen, named_groups, listed, no_anchor, taker_of}
use Rattle.laws.proofs.Tests.{both_false}
use Rattle.laws.proofs.Lists.{Each, none, more, each_head, each_tail, each_imp, each_append, get_d_tab}
use Rattle.aggregates.specs.JoinChoice.{at, others_by, named_by, named_is}
use Rattle.aggregates.specs.JoinState.{Chains, Once, members_of, state_of, turn_of, Rep}
use Rattle.aggregates.proofs.Stops.{Other, by_test, chosen_keeps}
use Rattle.aggregates.proofs.NodeLists.{spare, degree, spare_within, each_part, offset_within}
use Rattle.aggregates.proofs.joining.Together.{chosen_cong}
use Rattle.aggregates.proofs.joining.Counting.{better_keeps}
use Rattle.aggregates.proofs.joining.Chains.{length_walk, sum_within, once_append}
use Rattle.aggregates.proofs.joining.Edges.{others_cong, others_short}

module _ (lists : ℕ → List ℕ) (floor : ℕ) (s : Groups) (g : ℕ) where
  pub turn_stays : taker_of lists no_anchor floor s g ≡ 0 → turn_of lists floor s g ≡ []
  unfolding turn_of
  turn_stays e = rw (turn_of, e)

  pub turn_joins : (b : ℕ) (j : Joining) → j ≡ record { moved = g; taker = suc b } → taker_of lists no_anchor floor s g ≡ suc b → turn_of lists floor s g ≡ j ∷ []
  unfolding turn_of
  turn_joins b j is e = rw (is, turn_of, e)

  pub turn_small : length (turn_of lists floor s g) ≤ 1
  turn_small = go (taker_of lists no_anchor floor s g) refl
    where
      go : (t : ℕ) → taker_of lists no_anchor floor s g ≡ t → length (turn_of lists floor s g) ≤ 1
      go zero e = rw (turn_stays e) (omega arith)
      go (suc b) e = rw (turn_joins b (record { moved = g; taker = suc b }) refl e) (omega arith)

-- ---- DIFFERENT NODES are at most n, and their lists at most all lists

abbrev blank : ℕ → List ℕ
blank n = replicate n 0

length_blank : (n : ℕ) → length (blank n) ≡ n
length_blank n = length-replicate {A = ℕ} n 0

each_blank : (n : ℕ) (l : List ℕ) → Each (λ v. v < n) l → Each (λ v. ◌≡◌ {A = ℕ} (get_or (blank n) v 0) 0) l
each_blank n l a = each_imp (λ v h. get_or-replicate {A = ℕ} n v 0 0 h) a

spare_ones : (v : ℕ) (xs : List ℕ) → spare (λ _. 1) v xs ≤ length xs
unfolding spare
spare_ones v [] = omega arith
spare_ones v (zero ∷ xs) = omega (arith, spare_ones (suc v) xs)
spare_ones v (suc x ∷ xs) = omega (arith, spare_ones (suc v) xs)

sum_ones : (l : List ℕ) → sum_by (λ _. 1) l ≡ length l
sum_ones [] = refl
sum_ones (v ∷ l) = omega (arith, sum_by-cons (λ _. 1) v l, sum_ones l)

once_short : (n : ℕ) (l : List ℕ) → Once l → Each (λ v. v < n) l → length l ≤ n
once_short n l o a =
    omega (arith, sum_ones l, sum_within (λ _. 1) l (blank n) o (rw (length_blank n) a) (each_blank n l a), spare_ones 0 (blank n), length_blank n)

-- ---- WHAT THE LISTS OF SOME NODES NAME

others_ok : (g : ℕ) (ids : List ℕ) (sizes : ℕ → ℕ) (P : ℕ → Type 0) (ws : List ℕ) → Each (λ w. P (get_or ids w 0)) ws → Each (λ o. P o × Other g sizes o) (others_by g ids sizes ws)
unfolding others_by
others_ok g ids sizes P [] a = none
others_ok g ids sizes P (w ∷ ws) a =
    let o = get_or ids w 0 in
    by_test (eqb o g || eqb (sizes o) 0)
    (λ e. rw (others_by, e) (others_ok g ids sizes P ws (each_tail a)))
    (λ e.
    let z = both_false (eqb o g) (eqb (sizes o) 0) e in
    rw (others_by, e) (more (each_head a, (omega (arith, eqb-false (sizes o) 0 z.1), eqb-false o g z.0)) (others_ok g ids sizes P ws (each_tail a))))

module _ (lists : ℕ → List ℕ) (g : ℕ) where
  named_ok : (ids : List ℕ) (sizes : ℕ → ℕ) (P : ℕ → Type 0) (vs : List ℕ) → Each (λ v. Each (λ w. P (get_or ids w 0)) (lists v)) vs → Each (λ o. P o × Other g sizes o) (named_by lists g ids sizes vs)
  unfolding named_by
  named_ok ids sizes P [] a = none
  named_ok ids sizes P (v ∷ vs) a = each_append (others_ok g ids sizes P (lists v) (each_head a)) (named_ok ids sizes P vs (each_tail a))

  pub named_cong : (ids ids' : List ℕ) (p q : ℕ → ℕ) (vs : List ℕ) → Each (λ v. Each (λ w. (get_or ids w 0 ≡ get_or ids' w 0) × (p (get_or ids' w 0) ≡ q (get_or ids' w 0))) (lists v)) vs → named_by lists g ids p vs ≡ named_by lists g ids' q vs
  unfolding named_by
  named_cong ids ids' p q [] a = refl
  named_cong ids ids' p q (v ∷ vs) a = rw (others_cong g ids ids' p q (lists v) (each_head a), named_cong ids ids' p q vs (each_tail a)) refl

module _ (n groups : ℕ) (offsets nb ids : List ℕ) (c : Chains) (rep : Rep n groups offsets nb ids c) where
  abbrev pub S : Groups
  S = state_of groups ids c

  pub listed_each : (P : ℕ → Type 0) → ((x : ℕ) → x < n → P x) → (v : ℕ) → v < n → Each P (listed offsets nb v)
  unfolding listed
  listed_each P f v h = each_part P (get_or offsets v 0) (get_or offsets (suc v) 0) nb (offset_within n offsets nb rep.lists (suc v) h) (λ k l. f (get_or nb k 0) (rep.lists.within k l))

  members_are : (o : ℕ) → o ≤ groups → nodes_in S o ≡ members_of c o
  unfolding state_of
  members_are o h = get_d_tab (members_of c) (suc groups) o [] (omega arith)

  pub size_is : (o : ℕ) → o ≤ groups → size_in S o ≡ at c.counts o
  unfolding members_of
  size_is o h = ap length (members_are o h) ∙ length_walk (at c.counts o) c.next (at c.first o)

  pub low_members : (o : ℕ) → o ≤ groups → Each (λ v. v < n) (members_of c o)
  low_members o h = each_imp (λ v p. p.0) (rep.members o h)

  named_short : (g : ℕ) (sizes : ℕ → ℕ) (vs : List ℕ) → Each (λ v. v < n) vs → length (named_by (listed offsets nb) g ids sizes vs) ≤ sum_by (degree offsets) vs
  unfolding named_by listed
  named_short g sizes [] a = omega arith
  named_short g sizes (v ∷ vs) a = omega (
    arith,
    length-append (others_by g ids sizes (slice (get_or offsets v 0) (get_or offsets (suc v) 0) nb)) (named_by (listed offsets nb) g ids sizes vs),
    others_short g ids sizes (slice (get_or offsets v 0) (get_or offsets (suc v) 0) nb),
    length-slice (get_or offsets v 0) (get_or offsets (suc v) 0) nb (offset_within n offsets nb rep.lists (suc v) (each_head a)),
    named_short g sizes vs (each_tail a),
    sum_by-cons (degree offsets) v vs,
  )

  pub edges_within : (g : ℕ) → g ≤ groups → sum_by (degree offsets) (members_of c g) ≤ length nb
  edges_within g hg = omega (
    arith,
    sum_within (degree offsets) (members_of c g) (blank n) (rep.once g hg) (rw (length_blank n) (low_members g hg)) (each_blank n (members_of c g) (low_members g hg)),
    spare_within n offsets nb rep.lists (blank n) (length_blank n),
  )

  module _ (floor g : ℕ) (hg : g ≤ groups) where
    pub none_empty : at c.counts g ≡ 0 → taker_of (listed offsets nb) no_anchor floor S g ≡ 0
    unfolding taker_of
    none_empty z = rw (taker_of, le-ltb 0 (size_in S g) (omega (arith, size_is g hg)))

    pub none_floor : (at c.counts g ≡ 0 → ⊥) → floor ≤ at c.counts g → taker_of (listed offsets nb) no_anchor floor S g ≡ 0
    unfolding taker_of
    none_floor z h = rw (taker_of, lt-ltb 0 (size_in S g) (omega (arith, size_is g hg, z)), le-ltb (size_in S g) floor (omega (arith, size_is g hg)))

    abbrev pub names : List ℕ
    names = named_by (listed offsets nb) g ids (at c.counts) (members_of c g)

    pub names_few : length names ≤ length nb
    names_few = omega (arith, named_short g (at c.counts) (members_of c g) (low_members g hg), edges_within g hg)

    -- each of them is another group that has members
    pub names_ok : Each (λ o. (o ≤ groups) × Other g (at c.counts) o) names
    names_ok = named_ok (listed offsets nb) g ids (at c.counts) (λ o. o ≤ groups) (members_of c g)
        (each_imp (λ v h. listed_each (λ x. get_or ids x 0 ≤ groups) rep.grouped v h) (low_members g hg))

    pub low_names : Each (λ o. o ≤ groups) names
    low_names = each_imp (λ o p. p.0) names_ok

    -- sizes that agree give the same choice
    pub choice_same : (sizes : ℕ → ℕ) → ((o : ℕ) → o ≤ groups → sizes o ≡ at c.counts o) → chosen (edges_to names) sizes 0 names ≡ chosen (edges_to names) (at c.counts) 0 names
    choice_same sizes e = chosen_cong (λ o. o ≤ groups) (edges_to names) sizes (edges_to names) (at c.counts) (λ x p. refl) e
        (λ b a p q. better_keeps (edges_to names) (at c.counts) b a (λ x. x ≤ groups) p q) 0 names (omega arith) low_names

    pub same_names : named_groups (listed offsets nb) no_anchor g S (nodes_in S g) ≡ names
    unfolding state_of
    same_names = named_is (listed offsets nb) g S (nodes_in S g) ∙ rw (members_are g hg) (named_cong (listed offsets nb) g ids ids (size_in S) (at c.counts) (members_of c g)
        (each_imp (λ v h. listed_each (λ x. (get_or ids x 0 ≡ get_or ids x 0) × (size_in S (get_or ids x 0) ≡ at c.counts (get_or ids x 0))) (λ x l. (refl, size_is (get_or ids x 0) (rep.grouped x l))) v h) (low_members g hg)))

    module _ (some : 0 < at c.counts g) (low : at c.counts g < floor) where
      pub taker_is : taker_of (listed offsets nb) no_anchor floor S g ≡ chosen (edges_to names) (at c.counts) 0 names
      unfolding taker_of
      taker_is = rw (taker_of, lt-ltb 0 (size_in S g) (omega (arith, size_is g hg)), lt-ltb (size_in S g) floor (omega (arith, size_is g hg)), same_names) (choice_same (size_in S) size_is)

      module _ (b : ℕ) (b_is : b ≡ chosen (edges_to names) (at c.counts) 0 names) (found : b ≡ 0 → ⊥) where
        pub good : (b ≤ groups) × Other g (at c.counts) b
        good =
            let Q : ℕ → Type 0 = λ o. (o ≡ 0 → ⊥) → (o ≤ groups) × Other g (at c.counts) o in
            let k : Q b = rw b_is (chosen_keeps Q (edges_to names) (at c.counts) 0 names (λ z. absurd (z refl)) (each_imp (λ o p z. p) names_ok)) in
            k found

        -- the two groups have different members
        pub both_few : at c.counts g + at c.counts b ≤ n
        unfolding members_of
        both_few =
            let A = members_of c g in
            let B = members_of c b in
            omega (
              arith,
              length-append A B,
              length_walk (at c.counts g) c.next (at c.first g),
              length_walk (at c.counts b) c.next (at c.first b),
              once_short n (A ++ B)
                  (once_append A B (rep.once g hg) (rep.once b good.0) (each_imp (λ x p. each_imp (λ y q e. good.1.1 (sym q.1 ∙ (rw (← e) at p.1))) (rep.members b good.0)) (rep.members g hg)))
                  (each_append (low_members g hg) (low_members b good.0)),
            )
