-- The scan of `last_rule`, and that `rule_of` compares by edges and members.
use mathlib.Core.Path.{◌≡◌, refl, ap, ◌∙◌}
use mathlib.Core.List.{List, [], ◌∷◌}
use Prim.Native.Nat.{ℕ, ◌+◌, ◌<◌, max}
use lib.ListN.{length, get_or, drop}
use Rattle.definitions.specs.Groups.{edges_to}
use Rattle.laws.proofs.Lists.{Each, each_head, each_tail, each_any}
use Rattle.aggregates.specs.JoinChoice.{bump, at}
use Rattle.aggregates.specs.Log.{Rules, rule_against, rule_by}
use Rattle.std.proofs.lemmas.List.{drop_more}
use Rattle.aggregates.proofs.joining.Together.{edges_counted}

-- the rule over the groups looked at so far: what is still to come gives the same
abbrev pub Ruling : List ℕ → List ℕ → List ℕ → ℕ → ℕ → ℕ → Type 0
Ruling counts hits names b rule i = rule_by (at hits) (at counts) b rule (drop i names) ≡ rule_by (at hits) (at counts) b 1 names

module _ (counts hits names : List ℕ) (b rule i : ℕ) (inv : Ruling counts hits names b rule i) where
  pub rule_step : (rule' : ℕ) → i < length names → rule' ≡ max rule (rule_against (at hits) (at counts) b (get_or names i 0)) → Ruling counts hits names b rule' (i + 1)
  unfolding rule_by
  rule_step rule' h e = rw e (rw (drop_more names i 0 h) at inv)

  pub rule_last : drop i names ≡ [] → rule ≡ rule_by (at hits) (at counts) b 1 names
  unfolding rule_by
  rule_last e = rw e at inv

-- edges and members that agree give the same rule
module _ (P : ℕ → Type 0) (e m e' m' : ℕ → ℕ) (same-e : (x : ℕ) → P x → e x ≡ e' x) (same-m : (x : ℕ) → P x → m x ≡ m' x) (b : ℕ) (p : P b) where
  against_cong : (a : ℕ) → P a → rule_against e m b a ≡ rule_against e' m' b a
  unfolding rule_against
  against_cong a q = rw (same-e a q, same-e b p, same-m a q, same-m b p) refl

  pub rule_cong : (r : ℕ) (l : List ℕ) → Each P l → rule_by e m b r l ≡ rule_by e' m' b r l
  unfolding rule_by
  rule_cong r [] a = refl
  rule_cong r (x ∷ l) a = ap (λ t. rule_by e m b (max r t) l) (against_cong x (each_head a)) ∙ rule_cong (max r (rule_against e' m' b x)) l (each_tail a)

-- `tally` and the scan: by the edges that lead to a group
pub rule_by_lem : (counts hits names : List ℕ) (b : ℕ) → Rules counts hits names b → rule_by (at (bump names hits)) (at counts) b 1 names ≡ rule_by (edges_to names) (at counts) b 1 names
rule_by_lem counts hits names b asks =
    rule_cong (λ _. Unit {0}) (at (bump names hits)) (at counts) (edges_to names) (at counts) (λ x p. edges_counted counts hits names asks.zeros asks.within x) (λ x p. refl) b tt 1 names (each_any names (λ x. tt))
