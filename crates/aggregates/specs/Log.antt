-- What the log's contracts cite besides the definitions: the rule as one scan finds it, and numbers written one after another.
use Rattle.std.specs.Prelude.{◌≡◌, true, false, List, [], ◌∷◌, ℕ, suc, ◌*◌, ◌^◌, ◌≤◌, ◌<◌, max, eqb, length, set}
use Rattle.definitions.specs.Groups.{Groups, edges_to, groups_of, listed, no_anchor}
use Rattle.definitions.specs.JoiningLog.{log_of}
use Rattle.laws.specs.Every.{Each}
use Rattle.aggregates.specs.JoinChoice.{at, Zeros}
use Rattle.aggregates.specs.JoinState.{joined_ids, joinings_of, turn_of}

-- by which test the group b stays and the group a does not: 1 none, it is b itself; 2 edges; 3 members; 4 the id. To a lead va edges, and it has ca members; to b vb, and it has cb
abbrev pub rule_between : ℕ → ℕ → ℕ → ℕ → ℕ → ℕ → ℕ
rule_between va vb ca cb a b = elim (eqb a b) [
  | true ↦ 1
  | false ↦ elim (eqb va vb) [ false ↦ 2 | true ↦ elim (eqb ca cb) [ false ↦ 3 | true ↦ 4 ] ]
]

unfoldable pub rule_against : (ℕ → ℕ) → (ℕ → ℕ) → ℕ → ℕ → ℕ
rule_against edges sizes b a = rule_between (edges a) (edges b) (sizes a) (sizes b) a b

-- the last of these tests over a list of groups, at least r
unfoldable pub rule_by : (ℕ → ℕ) → (ℕ → ℕ) → ℕ → ℕ → List ℕ → ℕ
rule_by edges sizes b r [] = r
rule_by edges sizes b r (a ∷ rest) = rule_by edges sizes b (max r (rule_against edges sizes b a)) rest

-- the rule of the group b among those that are named
abbrev pub rule_in : List ℕ → ℕ → List ℕ → ℕ
rule_in counts b names = rule_by (edges_to names) (at counts) b 1 names

-- a list with some numbers written over it from a place on; those behind its end are left out
unfoldable pub noted : ℕ → List ℕ → List ℕ → List ℕ
noted at [] l = l
noted at (x ∷ xs) l = noted (suc at) xs (set l at x)

-- the log, of which `made` joinings are written, after the turn of g
abbrev pub turn_log : (ℕ → List ℕ) → ℕ → Groups → ℕ → ℕ → List ℕ → List ℕ
turn_log lists floor s g made log = noted (3 * made) (log_of lists no_anchor s (turn_of lists floor s g)) log

-- the nodes' groups ids, the number made and the log are what all joinings make of the groups ids₀ and the log log₀
pub record Joined (offsets neighbours : List ℕ) (groups floor : ℕ) (ids₀ ids log₀ log : List ℕ) (made : ℕ) : Type 0 where
  pub groups_after : ids ≡ joined_ids offsets neighbours floor groups ids₀
  pub number : made ≡ length (joinings_of offsets neighbours floor groups ids₀)
  pub written : log ≡ noted 0 (log_of (listed offsets neighbours) no_anchor (groups_of ids₀ groups) (joinings_of offsets neighbours floor groups ids₀)) log₀

-- what `rule_of` asks: the groups named, and b, have edges, all zero, and members
pub record Rules (counts hits names : List ℕ) (b : ℕ) : Type 0 where
  pub small : length names < 2 ^ 32
  pub counted : length hits ≤ length counts
  pub taker : b < length hits
  pub within : Each (λ a. a < length hits) names
  pub zeros : Zeros hits
