-- The nodes that a list names, each once, in order of first mention: a node that was met bears the stamp.
use Rattle.std.specs.Prelude.{true, false, not, ◌&&◌, List, [], ◌∷◌, map, ℕ, ◌+◌, ◌*◌, ◌^◌, ◌<◌, ◌/◌, eqb, length, get_or, set, Float}
use mathlib.Core.List.{zip_with}
use Rattle.definitions.specs.Lists.{up_to, keep, any}
use Rattle.definitions.specs.Matrix.{Entry}

unfoldable pub gather : ℕ → List ℕ → List ℕ → List ℕ
gather stamp mark [] = []
gather stamp mark (w ∷ ws) = elim (eqb (get_or mark w 0) stamp) [ true ↦ gather stamp mark ws | false ↦ w ∷ gather stamp (set mark w stamp) ws ]

unfoldable pub marked : ℕ → List ℕ → List ℕ → List ℕ
marked stamp mark [] = mark
marked stamp mark (w ∷ ws) = marked stamp (set mark w stamp) ws

-- the nodes of the columns
abbrev pub nodes_in : ℕ → List ℕ → List ℕ
nodes_in size cols = map (λ c. c / size) cols

-- every column's node is below n
abbrev pub Inside : ℕ → ℕ → List ℕ → Type 0
Inside n size cols = (k : ℕ) → k < length cols → get_or cols k 0 / size < n

-- 2^32 / size, rounded up
unfoldable pub reciprocal_of : ℕ → ℕ
reciprocal_of size = 0xffff_ffff / size + 1

-- every column is low enough that its product with the reciprocal tells its node
abbrev pub Low : ℕ → List ℕ → Type 0
Low size cols = (k : ℕ) → k < length cols → get_or cols k 0 * size < 2 ^ 32

-- the nodes below n other than v that a list names, ascending
unfoldable pub others : ℕ → ℕ → List ℕ → List ℕ
others n v ws = keep (λ w. not (eqb w v) && any (λ x. eqb x w) ws) (up_to n)

-- columns and the values stored there, as entries
abbrev pub paired : List ℕ → List Float → List Entry
paired cols vals = zip_with (λ c v. record { col = c; value = v }) cols vals
