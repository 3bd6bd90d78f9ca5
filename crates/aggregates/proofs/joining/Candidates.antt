-- THE CANDIDATES THAT THE FIRST k TESTS LEAVE are the chosen group and the groups against which a later test decides, since the chosen group is first by the order.
-- So the chosen group alone is left exactly where no later test decides.
use mathlib.Core.Path.{◌≡◌, refl, ap, sym, ◌∙◌}
use mathlib.Core.Bool.{Bool, true, false}
use mathlib.Core.List.{List, [], ◌∷◌}
use Prim.Native.Nat.{ℕ, suc, ◌≤◌, ◌<◌}
use native.Mathlib.Omega.{arith}
use borrow.Author.Tests.{eqb-true, eqb-false, eq-eqb, ne_eqb, ltb-true, ltb-false, lt-ltb, le-ltb}
use lib.Dec.{eqb, ltb}
use lib.ListN.{length}
use Rattle.definitions.specs.Lists.{keep}
use Rattle.definitions.specs.JoiningLog.{unbeaten}
use Rattle.laws.proofs.Lists.{Each, each_imp, each_both}
use Rattle.aggregates.specs.JoinState.{Once}
use Rattle.aggregates.specs.Log.{rule_against, rule_between}
use Rattle.aggregates.proofs.Stops.{by_test}
use Rattle.aggregates.proofs.joining.Ordered.{Behind, fewer, larger, later}
use Rattle.aggregates.proofs.joining.Members.{In, in_each, single, each_same, in_some, each_kept, keep_each, once_keep, in_keep, keep_every, unbeaten_are}

module _ (edges sizes : ℕ → ℕ) (b : ℕ) where
  abbrev pub against : ℕ → ℕ
  against a = rule_against edges sizes b a

  -- ---- ONE GROUP AGAINST THE CHOSEN ONE: the test at which it falls out; the chosen group never does

  unfoldable height : ℕ → ℕ
  height a = elim (eqb a b) [ true ↦ 5 | false ↦ against a ]

  record Told (a : ℕ) : Type 0 where
    pub one : 1 ≤ against a
    pub four : against a ≤ 4
    pub enters : 1 < height a
    pub most : edges a ≤ edges b
    pub fewest : 2 < height a → sizes b ≤ sizes a
    pub lowest : 3 < height a → b ≤ a
    pub same_edges : 2 < height a → edges a ≡ edges b
    pub same_sizes : 3 < height a → sizes a ≡ sizes b
    pub itself : 4 < height a → a ≡ b
    pub less_edges : height a ≤ 2 → edges a < edges b
    pub more_members : 2 < height a → height a ≤ 3 → sizes b < sizes a
    pub higher_id : 3 < height a → height a ≤ 4 → b < a
    pub own : a ≡ b → (against a ≡ 1) × (height a ≡ 5)
    pub other : (a ≡ b → ⊥) → height a ≡ against a

  told : (a : ℕ) → Behind edges sizes a b → Told a
  unfolding height rule_against
  told a l = by_test (eqb a b)
      (λ e.
      let is = eqb-true a b e in
      let r : against a ≡ 1 = rw (rule_against, rule_between, e) in
      let h : height a ≡ 5 = rw (height, e) in
      omega (arith, ap edges is, ap sizes is))
      (λ e. let h : height a ≡ against a = rw (height, e) in go e (eqb-false a b e) h l)
    where
      go : eqb a b ≡ false → (a ≡ b → ⊥) → height a ≡ against a → Behind edges sizes a b → Told a
      go e d h (fewer p) = let r : against a ≡ 2 = rw (rule_against, rule_between, e, ne_eqb (edges a) (edges b) (λ q. omega arith)) in omega arith
      go e d h (larger q p) = let r : against a ≡ 3 = rw (rule_against, rule_between, e, eq-eqb (edges a) (edges b) q, ne_eqb (sizes a) (sizes b) (λ u. omega arith)) in omega arith
      go e d h (later q p u) = let r : against a ≡ 4 = rw (rule_against, rule_between, e, eq-eqb (edges a) (edges b) q, eq-eqb (sizes a) (sizes b) p) in omega arith

  -- it falls out at its own test: alone is left who no test decides against
  under : (k a : ℕ) → 1 ≤ k → Told a → (ltb k (height a) ≡ true → a ≡ b) → against a ≤ k
  under k a one t f = by_test (eqb a b)
      (λ e. omega (arith, t.own (eqb-true a b e)))
      (λ e. by_test (ltb k (height a))
      (λ u. absurd (eqb-false a b e (f u)))
      (λ u. omega (arith, ltb-false k (height a) u, t.other (eqb-false a b e))))

  alone : (k a : ℕ) → Told a → k < height a → against a ≤ k → a ≡ b
  alone k a t l m = by_test (eqb a b) (λ e. eqb-true a b e) (λ e. omega (arith, t.other (eqb-false a b e)))

  -- ---- THE LISTS OF CANDIDATES from a list of different groups, with b among them and none before b

  module _ (l : List ℕ) (once : Once l) (here : In b l) (behind : Each (λ a. Behind edges sizes a b) l) where
    -- those that the first k tests leave
    pub left : ℕ → List ℕ
    left k = keep (λ a. ltb k (height a)) l

    each_told : Each Told l
    each_told = each_imp told behind

    chosen_stays : (k : ℕ) → k < 5 → ltb k (height b) ≡ true
    chosen_stays k h = lt-ltb k (height b) (omega (arith, (in_each Told b l here each_told).own refl))

    pub none_left : left 1 ≡ l
    unfolding left
    none_left = keep_every (λ a. ltb 1 (height a)) l (each_imp (λ a t. lt-ltb 1 (height a) t.enters) each_told)

    step : (k : ℕ) (beats : ℕ → ℕ → Bool) → k < 5
        → ((a c : ℕ) → Told a → Told c → k < height c → suc k < height a → beats c a ≡ false)
        → ((a : ℕ) → Told a → k < height a → height a ≤ suc k → beats b a ≡ true)
        → unbeaten beats (left k) ≡ left (suc k)
    unfolding left
    step k beats h safe lost = unbeaten_are beats (λ a. ltb k (height a)) (λ a. ltb (suc k) (height a)) Told b l each_told here (chosen_stays k h)
        (λ a t. lt-ltb k (height a) (omega (arith, ltb-true (suc k) (height a) t)))
        (λ a c ta tc p q. safe a c ta tc (ltb-true k (height c) p) (ltb-true (suc k) (height a) q))
        (λ a t p q. lost a t (ltb-true k (height a) p) (ltb-false (suc k) (height a) q))

    pub by_edges : unbeaten (λ c a. ltb (edges a) (edges c)) l ≡ left 2
    by_edges = ap (unbeaten (λ c a. ltb (edges a) (edges c))) (sym none_left) ∙ step 1 (λ c a. ltb (edges a) (edges c)) (omega arith)
        (λ a c ta tc p q. le-ltb (edges a) (edges c) (omega (arith, ta.same_edges q, tc.most)))
        (λ a t p q. lt-ltb (edges a) (edges b) (t.less_edges q))

    pub by_sizes : unbeaten (λ c a. ltb (sizes c) (sizes a)) (left 2) ≡ left 3
    by_sizes = step 2 (λ c a. ltb (sizes c) (sizes a)) (omega arith)
        (λ a c ta tc p q. le-ltb (sizes c) (sizes a) (omega (arith, ta.same_sizes q, tc.fewest p)))
        (λ a t p q. lt-ltb (sizes b) (sizes a) (t.more_members p q))

    pub by_ids : unbeaten ltb (left 3) ≡ left 4
    by_ids = step 3 ltb (omega arith)
        (λ a c ta tc p q. le-ltb c a (omega (arith, ta.itself q, tc.lowest p)))
        (λ a t p q. lt-ltb b a (t.higher_id p q))

    -- where no test after the k-th decides, b alone is left, and only there
    pub one_left : (k : ℕ) → 1 ≤ k → k < 5 → Each (λ a. against a ≤ k) l → left k ≡ b ∷ []
    unfolding left
    one_left k one h a = single b (left k) (once_keep (λ a. ltb k (height a)) l once) (in_keep (λ a. ltb k (height a)) b l here (chosen_stays k h))
        (each_imp (λ x t. alone k x t.0.0 (ltb-true k (height x) t.1) t.0.1)
        (keep_each (λ x. ltb k (height x)) (λ x. Told x × (against x ≤ k)) l (each_both each_told a)))

    pub left_one : (k : ℕ) → 1 ≤ k → k < 5 → length (left k) ≡ 1 → Each (λ a. against a ≤ k) l
    unfolding left
    left_one k one h e = each_imp (λ x t. under k x one t.0 t.1)
        (each_both each_told (each_kept (λ x. ltb k (height x)) (λ x. x ≡ b) l (each_same b (left k) e (in_keep (λ a. ltb k (height a)) b l here (chosen_stays k h)))))

    pub some_left : (k : ℕ) → k < 5 → 0 < length (left k)
    unfolding left
    some_left k h = in_some b (left k) (in_keep (λ a. ltb k (height a)) b l here (chosen_stays k h))

    -- there are four tests
    pub four_tests : Each (λ a. (1 ≤ against a) × (against a ≤ 4)) l
    four_tests = each_imp (λ a t. (t.one, t.four)) each_told
