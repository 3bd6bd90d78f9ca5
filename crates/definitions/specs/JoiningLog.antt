-- THE JOINING LOG: for each joining, in order, the group that moved, its taker, and the rule that decided.
use Rattle.std.specs.Prelude.{ℕ, suc, ◌-◌, ◌*◌, Bool, true, false, not, List, [], ◌∷◌, eqb, ltb, leb, length}
use Rattle.definitions.specs.Lists.{keep, any}
use Rattle.definitions.specs.Refusal.{Outcome, refused, done, require, ◌>>=◌, result_left}
use Rattle.definitions.specs.Groups.{Joining, Groups, Grouping, nodes_in, size_in, joined, edges_to, named_groups, firsts, groups_of, grown, joinings, listed, no_anchor, grouping_call}
use Rattle.definitions.specs.declared.Refusal.TheVariants.{LogTooShort}

-- ---- THE RULE: the candidates thin out test by test, and the rule is the first test that left a single one

-- those of a list that none of them beats
unfoldable pub unbeaten : (ℕ → ℕ → Bool) → List ℕ → List ℕ
unbeaten beats l = keep (λ a. not (any (λ b. beats b a) l)) l

-- the candidates that each test leaves: the groups named, each once; of these the ones with most edges; of these those with fewest members; of these the one with the lowest id
unfoldable pub candidates : (ℕ → ℕ) → (ℕ → ℕ) → List ℕ → List (List ℕ)
candidates edges sizes names =
    let named = firsts [] names in
    let most = unbeaten (λ b a. ltb (edges a) (edges b)) named in
    let fewest = unbeaten (λ b a. ltb (sizes b) (sizes a)) most in
    named ∷ most ∷ fewest ∷ unbeaten ltb fewest ∷ []

-- the number of the first list that has one element, from 1
unfoldable pub first_single : List (List ℕ) → ℕ
first_single [] = 0
first_single (l ∷ ls) = elim (eqb (length l) 1) [ true ↦ 1 | false ↦ suc (first_single ls) ]

module _ (lists : ℕ → List ℕ) (anchor : ℕ → Bool) where
  -- 1 only one group named, 2 most edges, 3 fewer members, 4 lower id
  unfoldable pub rule_of : Groups → Joining → ℕ
  rule_of s j = let names = named_groups lists anchor j.moved s (nodes_in s j.moved) in first_single (candidates (edges_to names) (size_in s) names)

  -- ---- THE LOG of some joinings: three numbers for each; here groups count from 0
  unfoldable pub log_of : Groups → List Joining → List ℕ
  log_of s [] = []
  log_of s (j ∷ js) = (j.moved - 1) ∷ (j.taker - 1) ∷ rule_of s j ∷ log_of (joined j s) js

-- ---- GROUPING WITH A LOG: the checks of grouping alone, then 29; every refusal leaves all

-- the grouping, the number of joinings, and their log
pub record Logged : Type 0 where
  pub grouping : Grouping
  pub joinings : ℕ
  pub log : List ℕ

unfoldable pub with_log : (ℕ → List ℕ) → (ℕ → Bool) → ℕ → ℕ → Grouping → Logged
with_log lists anchor nodes size g =
    let start = grown lists anchor nodes size in
    let js = joinings lists anchor nodes size in
    record { grouping = g; joinings = length js; log = log_of lists anchor (groups_of start.0 start.1) js }

unfoldable pub grouping_log_call : ℕ → ℕ → List ℕ → List ℕ → ℕ → ℕ → ℕ → Outcome Logged
grouping_log_call nodes size offsets neighbours room logRoom workRoom = do
  g ← grouping_call nodes size offsets neighbours room workRoom
  _ ← require (leb (3 * nodes) logRoom) LogTooShort
  done (with_log (listed offsets neighbours) no_anchor nodes size g)

-- its groups: what is left of the list for them and of the work list is as without a log
unfoldable pub grouping_in : Outcome Logged → Outcome Grouping
grouping_in call = call >>= (λ g. done g.grouping)

-- the log afterwards: zeros behind the last joining
unfoldable pub log_left : Outcome Logged → List ℕ → List ℕ
log_left (refused r) lent = lent
log_left (done g) lent = result_left 0 (done g.log) lent
