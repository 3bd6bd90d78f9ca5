-- What the theorems on the joining log cite besides the definitions: what it is for a rule to have decided, and the log read back.
use Rattle.std.specs.Prelude.{◌≡◌, Bool, List, [], ◌∷◌, ℕ, suc, ◌-◌, ◌≤◌, ◌<◌, length, get_or}
use Rattle.definitions.specs.Groups.{Joining, Groups, nodes_in, size_in, edges_to, named_groups}
use Rattle.definitions.specs.JoiningLog.{candidates}

-- the candidates that each test leaves at a joining, in the state in which it happens
abbrev pub candidates_at : (ℕ → List ℕ) → (ℕ → Bool) → Groups → Joining → List (List ℕ)
candidates_at lists anchor s j = let names = named_groups lists anchor j.moved s (nodes_in s j.moved) in candidates (edges_to names) (size_in s) names

-- `cs` are the candidates that each test leaves, the first test's list first: the rule's own test leaves the taker alone, and every test before it left more than one
pub record Decided (cs : List (List ℕ)) (taker rule : ℕ) : Type 0 where
  pub one : 1 ≤ rule
  pub four : rule ≤ 4
  pub alone : get_or cs (rule - 1) [] ≡ taker ∷ []
  pub before : (k : ℕ) → k < rule - 1 → 1 < length (get_or cs k [])

-- the joinings of a log: three numbers for each, with groups from 0, which count from 1 in a joining; fewer than three numbers at the end are no joining
unfoldable pub pairs_in : List ℕ → List Joining
pairs_in [] = []
pairs_in (moved ∷ []) = []
pairs_in (moved ∷ (taker ∷ [])) = []
pairs_in (moved ∷ (taker ∷ (rule ∷ rest))) = (let j : Joining = record { moved = suc moved; taker = suc taker } in j ∷ pairs_in rest)
