-- A graph of five nodes whose four joinings are decided by the four rules, so that what the theorems of `Log` assume is met for each rule. By computation.
use mathlib.Core.Path.{◌≡◌, refl}
use mathlib.Core.List.{List, [], ◌∷◌}
use Prim.Native.Nat.{ℕ}
use native.Mathlib.Omega.{arith}
use lib.ListN.{get_or}
use Rattle.definitions.proofs.Opened.{all_open}
use Rattle.definitions.specs.Refusal.{done}
use Rattle.definitions.specs.Groups.{Joining, replay, joinings, no_anchor}
use Rattle.definitions.specs.JoiningLog.{log_of, grouping_log_call}
use Rattle.aggregates.specs.LogRead.{candidates_at, Decided}
use Rattle.aggregates.proofs.Stops.{start}
use Rattle.aggregates.proofs.Log.{rule_told}

-- 2 lists 1 and 0; 3 lists 1 and 2; 4 lists 0, 1 and 2; with size 16 every node is grown alone, and the floor is 4
abbrev graph : ℕ → List ℕ
graph v = get_or ([] ∷ [] ∷ (1 ∷ 0 ∷ []) ∷ (1 ∷ 2 ∷ []) ∷ (0 ∷ 1 ∷ 2 ∷ []) ∷ []) v []

abbrev to : ℕ → ℕ → Joining
to moved taker = record { moved = moved; taker = taker }

pub four_joinings : joinings graph no_anchor 5 16 ≡ to 3 1 ∷ to 4 2 ∷ to 5 1 ∷ to 1 2 ∷ []
unfolding all_open
four_joinings = refl

pub four_rules : log_of graph no_anchor (start graph no_anchor 5 16) (joinings graph no_anchor 5 16) ≡ 2 ∷ 0 ∷ 4 ∷ 3 ∷ 1 ∷ 3 ∷ 4 ∷ 0 ∷ 2 ∷ 0 ∷ 1 ∷ 1 ∷ []
unfolding all_open
four_rules = refl

-- the candidates that each test leaves at the third joining: groups 1 and 2 are named, 1 has most edges
pub third_candidates : candidates_at graph no_anchor (replay (to 3 1 ∷ to 4 2 ∷ []) (start graph no_anchor 5 16)) (to 5 1) ≡ (1 ∷ 2 ∷ []) ∷ (1 ∷ []) ∷ (1 ∷ []) ∷ (1 ∷ []) ∷ []
unfolding all_open
third_candidates = refl

-- the theorem at each of them
pub by_id : Decided (candidates_at graph no_anchor (start graph no_anchor 5 16) (to 3 1)) 1 4
unfolding all_open
by_id = rule_told graph 5 16 (omega arith) [] (to 3 1) (to 4 2 ∷ to 5 1 ∷ to 1 2 ∷ []) four_joinings

pub by_members : Decided (candidates_at graph no_anchor (replay (to 3 1 ∷ []) (start graph no_anchor 5 16)) (to 4 2)) 2 3
unfolding all_open
by_members = rule_told graph 5 16 (omega arith) (to 3 1 ∷ []) (to 4 2) (to 5 1 ∷ to 1 2 ∷ []) four_joinings

pub by_edges : Decided (candidates_at graph no_anchor (replay (to 3 1 ∷ to 4 2 ∷ []) (start graph no_anchor 5 16)) (to 5 1)) 1 2
unfolding all_open
by_edges = rule_told graph 5 16 (omega arith) (to 3 1 ∷ to 4 2 ∷ []) (to 5 1) (to 1 2 ∷ []) four_joinings

pub only_one : Decided (candidates_at graph no_anchor (replay (to 3 1 ∷ to 4 2 ∷ to 5 1 ∷ []) (start graph no_anchor 5 16)) (to 1 2)) 2 1
unfolding all_open
only_one = rule_told graph 5 16 (omega arith) (to 3 1 ∷ to 4 2 ∷ to 5 1 ∷ []) (to 1 2) [] four_joinings

-- the call that hands this out, with room for five joinings and no more
pub accepted : grouping_log_call 5 16 (0 ∷ 0 ∷ 0 ∷ 2 ∷ 4 ∷ 7 ∷ []) (1 ∷ 0 ∷ 1 ∷ 2 ∷ 0 ∷ 1 ∷ 2 ∷ []) 5 15 84
    ≡ done (record { grouping = record { ids = 0 ∷ 0 ∷ 0 ∷ 0 ∷ 0 ∷ []; count = 1 }; joinings = 4; log = 2 ∷ 0 ∷ 4 ∷ 3 ∷ 1 ∷ 3 ∷ 4 ∷ 0 ∷ 2 ∷ 0 ∷ 1 ∷ 1 ∷ [] })
unfolding all_open
accepted = refl
