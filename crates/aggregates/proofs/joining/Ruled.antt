-- The rule that the scan finds for a group's taker is the rule of the definitions: the names, the edges and the members are theirs, and no name is 0.
use mathlib.Core.Path.{◌≡◌, refl, ap, sym, ◌∙◌}
use mathlib.Core.List.{List}
use Prim.Native.Nat.{ℕ, ◌≤◌, ◌<◌}
use Rattle.definitions.specs.Groups.{Joining, nodes_in, size_in, edges_to, chosen, listed, no_anchor}
use Rattle.definitions.specs.JoiningLog.{candidates, first_single, rule_of}
use Rattle.laws.proofs.Lists.{Each}
use Rattle.aggregates.specs.JoinChoice.{at}
use Rattle.aggregates.specs.JoinState.{Chains, Rep}
use Rattle.aggregates.specs.Log.{rule_by}
use Rattle.aggregates.proofs.joining.Turns.{S, size_is, names, low_names, same_names, choice_same, good}
use Rattle.aggregates.proofs.joining.Grouped.{named_positive}
use Rattle.aggregates.proofs.joining.Rule.{rule_is}
use Rattle.aggregates.proofs.joining_log.Ruling.{rule_cong}

module _ (n groups : ℕ) (offsets nb ids : List ℕ) (c : Chains) (rep : Rep n groups offsets nb ids c) (floor g : ℕ) (hg : g ≤ groups) (some : 0 < at c.counts g) (low : at c.counts g < floor) where
  abbrev own : List ℕ
  own = names n groups offsets nb ids c rep floor g hg

  abbrev members : ℕ → ℕ
  members = size_in (S n groups offsets nb ids c rep)

  pub rule_same : (b : ℕ) → b ≡ chosen (edges_to own) (at c.counts) 0 own → (b ≡ 0 → ⊥) → size_in (S n groups offsets nb ids c rep) 0 ≡ 0 → (sizes : ℕ → ℕ) → ((o : ℕ) → o ≤ groups → sizes o ≡ at c.counts o) → (j : Joining) → j ≡ record { moved = g; taker = b } → rule_by (edges_to own) sizes b 1 own ≡ rule_of (listed offsets nb) no_anchor (S n groups offsets nb ids c rep) j
  unfolding rule_of
  rule_same b b_is found none sizes same j is =
      let by_members : rule_by (edges_to own) sizes b 1 own ≡ rule_by (edges_to own) members b 1 own =
      rule_cong (λ o. o ≤ groups) (edges_to own) sizes (edges_to own) members (λ x p. refl) (λ o h. same o h ∙ sym (size_is n groups offsets nb ids c rep o h)) b (good n groups offsets nb ids c rep floor g hg some low b b_is found).0 1 own (low_names n groups offsets nb ids c rep floor g hg) in
      let choice : b ≡ chosen (edges_to own) members 0 own = b_is ∙ sym (choice_same n groups offsets nb ids c rep floor g hg members (size_is n groups offsets nb ids c rep)) in
      let positive : Each (λ o. 0 < o) own = rw (same_names n groups offsets nb ids c rep floor g hg) at (named_positive (listed offsets nb) g (S n groups offsets nb ids c rep) (nodes_in (S n groups offsets nb ids c rep) g) none) in
      by_members ∙ ap (λ x. rule_by (edges_to own) members x 1 own) choice ∙ rule_is (edges_to own) members own positive (λ z. found (choice ∙ z))
      ∙ (rw is (ap (λ l. first_single (candidates (edges_to l) members l)) (sym (same_names n groups offsets nb ids c rep floor g hg))))
