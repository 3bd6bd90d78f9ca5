-- THE JOINING LOG: the rule that it tells has decided, a log changes no group, there are fewer joinings than grown groups, and the log read back gives the groups.
use mathlib.Core.Path.{◌≡◌, refl, ap, sym, ◌∙◌}
use mathlib.Core.Logic.{◌⊎◌, inl, inr}
use mathlib.Core.Bool.{false}
use mathlib.Core.List.{List, [], ◌∷◌, ◌++◌}
use Prim.Native.Nat.{ℕ, suc, ◌+◌, ◌-◌, ◌*◌, ◌≤◌, ◌<◌}
use native.Mathlib.Omega.{arith}
use borrow.Author.Tests.{leb-true, ltb-true, leb-false, le-leb}
use lib.Dec.{leb}
use lib.ListN.{length, get_or, take, replicate}
use lib.Seq.{take_at, get_or-append-add}
use Rattle.definitions.specs.Lists.{padded}
use Rattle.definitions.specs.Refusal.{Outcome, refused, done, require, ◌>>=◌, result_left}
use Rattle.definitions.specs.Groups.{Joining, Groups, Grouping, nodes_in, size_in, joined, replay, edges_to, before, chosen, named_groups, grown, joinings, graph_grouping, grouping_call, listed, no_anchor, renumbered}
use Rattle.definitions.specs.JoiningLog.{rule_of, log_of, Logged, with_log, grouping_log_call, grouping_in, log_left}
use Rattle.definitions.specs.declared.Refusal.{Refusal}
use Rattle.definitions.specs.declared.Refusal.TheVariants.{LogTooShort}
use Rattle.laws.proofs.Tests.{both_true}
use Rattle.laws.proofs.Outcomes.{bind_done, test_true, done_inj}
use Rattle.laws.proofs.Lists.{Each, each_imp}
use Rattle.aggregates.specs.LogRead.{candidates_at, Decided, pairs_in}
use Rattle.aggregates.proofs.Stops.{by_test, start}
use Rattle.aggregates.proofs.growth.Between.{grown_all}
use Rattle.aggregates.proofs.joining.Fewer.{fewer_joinings}
use Rattle.aggregates.proofs.joining.Grouped.{named_positive}
use Rattle.aggregates.proofs.joining.Noted.{log_append, length_log}
use Rattle.aggregates.proofs.joining.Ordered.{chosen_first, not_before}
use Rattle.aggregates.proofs.joining.Rule.{rule_decides}
use Rattle.aggregates.proofs.joining.Along.{Along, names_at, Made, along_at, all_made}

-- ---- THE RULE TOLD IS RIGHT

made_decided : (lists : ℕ → List ℕ) (s : Groups) (j : Joining) → Made lists s j → Decided (candidates_at lists no_anchor s j) j.taker (rule_of lists no_anchor s j)
unfolding rule_of
made_decided lists s j m =
    rw (← m.first) (rule_decides (edges_to (names_at lists s j.moved)) (size_in s) (names_at lists s j.moved) (named_positive lists j.moved s (nodes_in s j.moved) m.none) (λ z. omega (arith, m.first, m.to)))

made_first : (lists : ℕ → List ℕ) (s : Groups) (j : Joining) → Made lists s j → Each (λ a. before (edges_to (names_at lists s j.moved)) (size_in s) a j.taker ≡ false) (names_at lists s j.moved)
made_first lists s j m =
    let names = names_at lists s j.moved in
    rw (← m.first) (each_imp (λ a b. not_before (edges_to names) (size_in s) a (chosen (edges_to names) (size_in s) 0 names) b) (chosen_first (edges_to names) (size_in s) 0 names (named_positive lists j.moved s (nodes_in s j.moved) m.none)).1)

module _ (lists : ℕ → List ℕ) (nodes size : ℕ) where
  -- at every joining of a grouping, in the state in which it happens: the test that the rule names leaves the taker alone, and every test before it left more than one candidate
  pub rule_told : 0 < size → (js : List Joining) (j : Joining) (ks : List Joining) → joinings lists no_anchor nodes size ≡ js ++ (j ∷ ks)
      → let s = replay js (start lists no_anchor nodes size) in Decided (candidates_at lists no_anchor s j) j.taker (rule_of lists no_anchor s j)
  rule_told pos js j ks e = made_decided lists (replay js (start lists no_anchor nodes size)) j (along_at (Made lists) js j ks (start lists no_anchor nodes size) (rw e at (all_made lists nodes size pos)))

  -- of the groups that its lists name, none comes before the taker
  pub taker_first : 0 < size → (js : List Joining) (j : Joining) (ks : List Joining) → joinings lists no_anchor nodes size ≡ js ++ (j ∷ ks)
      → let s = replay js (start lists no_anchor nodes size) in let names = named_groups lists no_anchor j.moved s (nodes_in s j.moved) in Each (λ a. before (edges_to names) (size_in s) a j.taker ≡ false) names
  taker_first pos js j ks e = made_first lists (replay js (start lists no_anchor nodes size)) j (along_at (Made lists) js j ks (start lists no_anchor nodes size) (rw e at (all_made lists nodes size pos)))

  -- and the rule is what the log has at that joining, behind three numbers for each joining before it
  pub rule_logged : (js : List Joining) (j : Joining) (ks : List Joining) → joinings lists no_anchor nodes size ≡ js ++ (j ∷ ks)
      → let s = replay js (start lists no_anchor nodes size) in let log = log_of lists no_anchor (start lists no_anchor nodes size) (joinings lists no_anchor nodes size) in
      (get_or log (3 * length js) 0 ≡ j.moved - 1) × (get_or log (3 * length js + 1) 0 ≡ j.taker - 1) × (get_or log (3 * length js + 2) 0 ≡ rule_of lists no_anchor s j)
  unfolding log_of
  rule_logged js j ks e =
      let s₀ = start lists no_anchor nodes size in
      let front = log_of lists no_anchor s₀ js in
      let here = log_of lists no_anchor (replay js s₀) (j ∷ ks) in
      let log = log_of lists no_anchor s₀ (joinings lists no_anchor nodes size) in
      let is : log ≡ front ++ here = ap (log_of lists no_anchor s₀) e ∙ log_append lists no_anchor s₀ js (j ∷ ks) in
      let at : (k : ℕ) → get_or log (3 * length js + k) 0 ≡ get_or here k 0 = λ k. rw (is, ← length_log lists no_anchor s₀ js) (get_or-append-add front here k 0) in
      let z : 3 * length js ≡ 3 * length js + 0 = omega arith in
      (ap (λ k. get_or log k 0) z ∙ at 0, at 1, at 2)

-- ---- A LOG READ BACK

pairs_back : (lists : ℕ → List ℕ) (s : Groups) (js : List Joining) → Along (Made lists) js s → pairs_in (log_of lists no_anchor s js) ≡ js
unfolding log_of pairs_in
pairs_back lists s [] a = refl
pairs_back lists s (j ∷ js) a =
    let m : suc (j.moved - 1) ≡ j.moved = omega (arith, a.0.from) in
    let t : suc (j.taker - 1) ≡ j.taker = omega (arith, a.0.to) in
    let rest = pairs_back lists (joined j s) js a.1 in
    λ i. record { moved = m i; taker = t i } ∷ rest i

-- ---- THE GROUPS WITH A LOG ARE THOSE WITHOUT

module _ (nodes size : ℕ) (offsets neighbours : List ℕ) (room logRoom workRoom : ℕ) where
  abbrev plain : Outcome Grouping
  plain = grouping_call nodes size offsets neighbours room workRoom

  abbrev call : Outcome Logged
  call = grouping_log_call nodes size offsets neighbours room logRoom workRoom

  -- with three numbers of room for each node, every refusal included
  pub same_groups : 3 * nodes ≤ logRoom → grouping_in call ≡ plain
  unfolding grouping_log_call grouping_in with_log require ◌>>=◌
  same_groups h = rw (le-leb (3 * nodes) logRoom h) (go plain)
    where
      go : (c : Outcome Grouping) → grouping_in (c >>= (λ g. done (with_log (listed offsets neighbours) no_anchor nodes size g))) ≡ c
      go (refused r) = refl
      go (done g) = refl

  refused_too : (r : Refusal) → plain ≡ refused r → grouping_in call ≡ plain
  unfolding grouping_log_call grouping_in ◌>>=◌
  refused_too r e = rw e

  too_short : (g : Grouping) → leb (3 * nodes) logRoom ≡ false → plain ≡ done g → call ≡ refused LogTooShort
  unfolding grouping_log_call require ◌>>=◌
  too_short g t e = rw (e, t)

  -- with any room: the same, or 29, and that only where the log is shorter
  pub same_or_short : (grouping_in call ≡ plain) ⊎ ((logRoom < 3 * nodes) × (call ≡ refused LogTooShort))
  same_or_short = by_test (leb (3 * nodes) logRoom)
      (λ t. inl (same_groups (leb-true (3 * nodes) logRoom t)))
      (λ t. go t plain refl)
    where
      go : leb (3 * nodes) logRoom ≡ false → (c : Outcome Grouping) → plain ≡ c → (grouping_in call ≡ plain) ⊎ ((logRoom < 3 * nodes) × (call ≡ refused LogTooShort))
      go t (refused r) e = inl (refused_too r e)
      go t (done g) e = inr (leb-false (3 * nodes) logRoom t, too_short g t e)

  -- ---- WHAT AN ACCEPTED CALL HANDS OUT

  -- the checks that an accepted call has passed
  record Passed (l : Logged) : Type 0 where
    pub sized : 0 < size
    pub some : 0 < nodes
    pub fits : 3 * nodes ≤ logRoom
    pub is : with_log (listed offsets neighbours) no_anchor nodes size (graph_grouping (listed offsets neighbours) no_anchor nodes size) ≡ l

  passed : (l : Logged) → call ≡ done l → Passed l
  unfolding grouping_log_call grouping_call
  passed l e =
      let a = bind_done plain _ l e in
      let b = test_true _ _ _ l a.2 in
      let c = test_true _ _ _ a.0 a.1 in
      let d = test_true _ _ _ a.0 c.1 in
      let f = test_true _ _ _ a.0 d.1 in
      let g = test_true _ _ _ a.0 f.1 in
      let h = test_true _ _ _ a.0 g.1 in
      let k = test_true _ _ _ a.0 h.1 in
      record {
        sized = leb-true 1 size (both_true (leb 1 size) _ d.0).0;
        some = ltb-true 0 nodes g.0;
        fits = leb-true (3 * nodes) logRoom b.0;
        is = ap (with_log (listed offsets neighbours) no_anchor nodes size) (done_inj k.1) ∙ done_inj b.1;
      }

  module _ (l : Logged) (accepted : call ≡ done l) where
    abbrev lists : ℕ → List ℕ
    lists v = listed offsets neighbours v

    -- FEWER JOININGS THAN GROWN GROUPS, of which there are no more than nodes; so the log has room
    pub joinings_fewer : (l.joinings < (grown lists no_anchor nodes size).1) × ((grown lists no_anchor nodes size).1 ≤ nodes)
    unfolding with_log
    joinings_fewer =
        let p = passed l accepted in
        let g = grown_all lists nodes size p.sized in
        omega (arith, ap (λ x. x.joinings) p.is, fewer_joinings lists nodes size p.sized, g.some 0 p.some, g.upto 0, g.few)

    -- THE LOG READ BACK: it is the joinings, in order
    pub log_back : pairs_in l.log ≡ joinings lists no_anchor nodes size
    unfolding with_log
    log_back =
        let p = passed l accepted in
        ap (λ x. pairs_in x.log) (sym p.is) ∙ pairs_back lists (start lists no_anchor nodes size) (joinings lists no_anchor nodes size) (all_made lists nodes size p.sized)

    -- so the groups that the call hands out are the grown groups after the joinings of the log, renumbered
    pub log_replays : renumbered (replay (pairs_in l.log) (start lists no_anchor nodes size)).of ≡ l.grouping
    unfolding with_log graph_grouping
    log_replays = let p = passed l accepted in ap (λ js. renumbered (replay js (start lists no_anchor nodes size)).of) log_back ∙ ap (λ x. x.grouping) p.is

    -- and the log stands in the first three numbers a joining of the list that was lent for it
    pub log_stands : (lent : List ℕ) → take (3 * l.joinings) (log_left call lent) ≡ l.log
    unfolding with_log log_left result_left padded
    log_stands lent =
        let p = passed l accepted in
        let long : length l.log ≡ 3 * l.joinings = ap (λ x. length x.log) (sym p.is) ∙ length_log lists no_anchor (start lists no_anchor nodes size) (joinings lists no_anchor nodes size) ∙ ap (λ x. 3 * x.joinings) p.is in
        rw accepted (take_at l.log (replicate (length lent - length l.log) 0) (3 * l.joinings) long)
