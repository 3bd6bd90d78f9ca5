-- THE SCAN FINDS THE RULE: the last test over all names is the k-th or an earlier one exactly where the first k tests leave a single candidate.
use mathlib.Core.Path.{◌≡◌, refl, ap, sym, ◌∙◌}
use mathlib.Core.List.{List, [], ◌∷◌}
use Prim.Native.Nat.{ℕ, zero, suc, ◌-◌, ◌≤◌, ◌<◌, max}
use native.Mathlib.Omega.{arith}
use borrow.Author.Tests.{eq-eqb, ne_eqb, eqb-true, eqb-false}
use lib.Dec.{eqb}
use lib.ListN.{length, get_or}
use Rattle.definitions.specs.Groups.{chosen, firsts}
use Rattle.definitions.specs.JoiningLog.{candidates, first_single}
use Rattle.laws.proofs.Lists.{Each, none, more, each_head, each_tail, each_imp}
use Rattle.aggregates.specs.JoinState.{Once}
use Rattle.aggregates.specs.Log.{rule_by}
use Rattle.aggregates.specs.LogRead.{Decided}
use Rattle.aggregates.proofs.Stops.{by_test, chosen_keeps}
use Rattle.aggregates.proofs.joining.Ordered.{Behind, chosen_first}
use Rattle.aggregates.proofs.joining.Members.{In, each_in, each_firsts, firsts_each, once_firsts}
use Rattle.aggregates.proofs.joining.Candidates.{against, left, none_left, by_edges, by_sizes, by_ids, one_left, left_one, some_left, four_tests}

-- ---- THE LAST TEST over a list is the largest of its tests

module _ (edges sizes : ℕ → ℕ) (b : ℕ) where
  last_least : (r k : ℕ) (l : List ℕ) → r ≤ k → Each (λ a. against edges sizes b a ≤ k) l → rule_by edges sizes b r l ≤ k
  unfolding rule_by
  last_least r k [] h a = h
  last_least r k (x ∷ l) h a = last_least (max r (against edges sizes b x)) k l (omega (arith, each_head a)) (each_tail a)

  last_above : (r : ℕ) (l : List ℕ) → (r ≤ rule_by edges sizes b r l) × Each (λ a. against edges sizes b a ≤ rule_by edges sizes b r l) l
  unfolding rule_by
  last_above r [] = (omega arith, none)
  last_above r (x ∷ l) = let i = last_above (max r (against edges sizes b x)) l in (omega (arith, i.0), more {x = x} (omega (arith, i.0)) i.1)

-- the first list with one element
first_single_lem : (cs : List (List ℕ)) (i : ℕ) → i < length cs → length (get_or cs i []) ≡ 1 → ((k : ℕ) → k < i → length (get_or cs k []) ≡ 1 → ⊥) → first_single cs ≡ suc i
unfolding first_single
first_single_lem [] i h e d = absurd (omega arith)
first_single_lem (c ∷ cs) zero h e d = rw (first_single, eq-eqb (length c) 1 e)
first_single_lem (c ∷ cs) (suc i) h e d = rw (first_single, ne_eqb (length c) 1 (d 0 (omega arith))) (ap suc (first_single_lem cs i (omega arith) e (λ k l. d (suc k) (omega arith))))

-- ---- THE NAMES OF A GROUP THAT JOINS

module _ (edges sizes : ℕ → ℕ) (names : List ℕ) (positive : Each (λ o. 0 < o) names) (found : chosen edges sizes 0 names ≡ 0 → ⊥) where
  abbrev b : ℕ
  b = chosen edges sizes 0 names

  abbrev named : List ℕ
  named = firsts [] names

  once : Once named
  once = once_firsts [] names tt

  here : In b named
  here = chosen_keeps (λ o. (o ≡ 0 → ⊥) → In o named) edges sizes 0 names (λ d. absurd (d refl))
      (each_imp (λ o i _. i) (firsts_each (λ o. In o named) [] names (each_in named)).1) found

  behind : Each (λ a. Behind edges sizes a b) named
  behind = each_firsts (λ a. Behind edges sizes a b) [] names none (chosen_first edges sizes 0 names positive).1

  abbrev remain : ℕ → List ℕ
  remain k = left edges sizes b named once here behind k

  candidates_are : candidates edges sizes names ≡ remain 1 ∷ remain 2 ∷ remain 3 ∷ remain 4 ∷ []
  unfolding candidates
  candidates_are = rw (by_edges edges sizes b named once here behind, by_sizes edges sizes b named once here behind, by_ids edges sizes b named once here behind, none_left edges sizes b named once here behind)

  candidates_at_lem : (k : ℕ) → k < 4 → get_or (candidates edges sizes names) k [] ≡ remain (suc k)
  candidates_at_lem k h = ap (λ cs. get_or cs k []) candidates_are ∙ go k h
    where
      go : (k : ℕ) → k < 4 → get_or (remain 1 ∷ remain 2 ∷ remain 3 ∷ remain 4 ∷ []) k [] ≡ remain (suc k)
      go zero h = refl
      go (suc zero) h = refl
      go (suc (suc zero)) h = refl
      go (suc (suc (suc zero))) h = refl
      go (suc (suc (suc (suc k)))) h = absurd (omega arith)

  abbrev last : ℕ
  last = rule_by edges sizes b 1 names

  last_low : (k : ℕ) → 1 ≤ k → Each (λ a. against edges sizes b a ≤ k) named → last ≤ k
  last_low k one a = last_least edges sizes b 1 k names one (firsts_each (λ x. against edges sizes b x ≤ k) [] names a).1

  -- the last test leaves the chosen group alone, and each test before it leaves more
  pub last_decides : Decided (candidates edges sizes names) b last
  last_decides =
      let above = last_above edges sizes b 1 names in
      let most : last ≤ 4 = last_low 4 (omega arith) (each_imp (λ a t. t.1) (four_tests edges sizes b named once here behind)) in
      let e : suc (last - 1) ≡ last = omega arith in
      record {
        one = above.0;
        four = most;
        alone = candidates_at_lem (last - 1) (omega arith) ∙ ap remain e ∙ one_left edges sizes b named once here behind last above.0 (omega arith) (each_firsts (λ a. against edges sizes b a ≤ last) [] names none above.1);
        before = λ k h. rw (candidates_at_lem k (omega arith)) (several (suc k) (omega arith) (omega arith) (omega arith));
      }
    where
      several : (k : ℕ) → 1 ≤ k → k < last → k < 5 → 1 < length (remain k)
      several k one h low = by_test (eqb (length (remain k)) 1)
          (λ e. absurd (omega (arith, last_low k one (left_one edges sizes b named once here behind k one low (eqb-true (length (remain k)) 1 e)))))
          (λ e. omega (arith, some_left edges sizes b named once here behind k low, eqb-false (length (remain k)) 1 e))

-- the rule of the definitions is the only number that can have decided
decided_first : (cs : List (List ℕ)) (taker r : ℕ) → Decided cs taker r → r ≤ length cs → r ≡ first_single cs
decided_first cs taker r d h =
    let e : suc (r - 1) ≡ r = omega (arith, d.one) in
    sym (first_single_lem cs (r - 1) (omega (arith, d.one)) (ap length d.alone) (λ k l z. omega (arith, d.before k l)) ∙ e)

module _ (edges sizes : ℕ → ℕ) (names : List ℕ) where
  four_lists : length (candidates edges sizes names) ≡ 4
  unfolding candidates
  four_lists = refl

  -- the scan's last test is the rule of the definitions
  pub rule_is : Each (λ o. 0 < o) names → (chosen edges sizes 0 names ≡ 0 → ⊥) → rule_by edges sizes (chosen edges sizes 0 names) 1 names ≡ first_single (candidates edges sizes names)
  rule_is positive found =
      let d = last_decides edges sizes names positive found in
      decided_first (candidates edges sizes names) (chosen edges sizes 0 names) (rule_by edges sizes (chosen edges sizes 0 names) 1 names) d (omega (arith, d.four, four_lists))

  -- so it has decided
  pub rule_decides : Each (λ o. 0 < o) names → (chosen edges sizes 0 names ≡ 0 → ⊥) → Decided (candidates edges sizes names) (chosen edges sizes 0 names) (first_single (candidates edges sizes names))
  rule_decides positive found = rw (← rule_is positive found) (last_decides edges sizes names positive found)
