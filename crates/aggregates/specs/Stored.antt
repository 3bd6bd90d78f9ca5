-- Neighbour lists that stand in one list with the room for grouping: behind the first `base` numbers the offsets of n nodes, and behind them the neighbours, as many as the last offset says.
-- They depend on what lies from `base` on, and on nothing before it.
use Rattle.std.specs.Prelude.{List, ℕ, suc, ◌+◌, ◌*◌, get_or, take, drop}
use Rattle.definitions.specs.Groups.{listed}

unfoldable pub offsets_in : ℕ → List ℕ → List ℕ
offsets_in n l = take (suc n) l

unfoldable pub neighbours_in : ℕ → List ℕ → List ℕ
neighbours_in n l = take (get_or l n 0) (drop (suc n) l)

abbrev pub offsets_at : ℕ → ℕ → List ℕ → List ℕ
offsets_at base n w = offsets_in n (drop base w)

abbrev pub neighbours_at : ℕ → ℕ → List ℕ → List ℕ
neighbours_at base n w = neighbours_in n (drop base w)

-- what each node lists
abbrev pub lists_at : ℕ → ℕ → List ℕ → ℕ → List ℕ
lists_at base n w = listed (offsets_at base n w) (neighbours_at base n w)

-- the room below them that grouping asks for, with so many neighbours
abbrev pub room_for : ℕ → ℕ → ℕ
room_for n neighbours = 6 * n + neighbours + 16
