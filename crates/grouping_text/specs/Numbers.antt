-- A text as the numbers that it spells, and what these ask.
-- Numbers stop growing at the largest u32. Every number that a call accepts is far below it, so a text is answered alike (`Agrees`).
use Rattle.std.specs.Prelude.{ℕ, zero, suc, ◌+◌, ◌-◌, ◌*◌, min, Bool, true, false, ◌&&◌, Option, Some, None, unwrap_or, List, [], ◌∷◌, ◌++◌, leb, length, take, drop}
use Rattle.definitions.specs.Refusal.{Outcome, refused, done, require, ◌>>=◌}
use Rattle.definitions.specs.Groups.{Grouping, grouping_call}
use Rattle.definitions.specs.Text.{is_blank, is_digit, is_none, Listing, max_text_nodes, max_text_neighbours}
use Rattle.definitions.specs.declared.Refusal.TheVariants.{TooLarge, NeighbourOffsets}

unfoldable pub cap : ℕ → ℕ
cap n = min n 4_294_967_295

-- ---- a text's numbers

-- the numbers before the first byte that is neither digit nor blank; `whole` where the text has no such byte
pub record Spelling : Type 0 where
  pub numbers : List ℕ
  pub whole : Bool

-- the number that a blank or the text's end ends, if there is one
unfoldable pub ended : Option ℕ → List ℕ
ended (Some n) = n ∷ []
ended None = []

unfoldable pub behind : List ℕ → Spelling → Spelling
behind xs t = record { numbers = xs ++ t.numbers; whole = t.whole }

-- the number that is being read with one digit more
abbrev pub grown_by : ℕ → Option ℕ → ℕ
grown_by b n = cap (unwrap_or n 0 * 10 + (b - 48))

-- what a text spells; n is the number that is being read, so far
unfoldable pub spelt : Option ℕ → List ℕ → Spelling
spelt n [] = record { numbers = ended n; whole = true }
spelt n (b ∷ bs) = elim (is_digit b) [ true ↦ spelt (Some (grown_by b n)) bs | false ↦ elim (is_blank b) [ true ↦ behind (ended n) (spelt None bs) | false ↦ record { numbers = []; whole = false } ] ]

-- ---- what the numbers ask

abbrev pub listing : List ℕ → List ℕ → List ℕ → Listing
listing offsets neighbours rest = record { offsets = offsets; neighbours = neighbours; rest = rest }

-- one node: a count and as many neighbours, behind the lists so far. A count that takes the neighbours above 2,048 is refused first
unfoldable pub node_from : List ℕ → List ℕ → List ℕ → Outcome Listing
node_from offsets neighbours [] = refused NeighbourOffsets
node_from offsets neighbours (x ∷ rest) = do
  _ ← require (leb (length neighbours + x) max_text_neighbours) TooLarge
  _ ← require (leb x (length rest)) NeighbourOffsets
  done (listing (offsets ++ ((length neighbours + x) ∷ [])) (neighbours ++ take x rest) (drop x rest))

-- the lists of `left` nodes; `rest` has the numbers that are left
unfoldable pub lists_from : ℕ → Listing → Outcome Listing
lists_from zero g = done g
lists_from (suc left) g = node_from g.offsets g.neighbours g.rest >>= lists_from left

-- what a text has, once read whole: nodes, size and the lists
pub record Asked : Type 0 where
  pub nodes : ℕ
  pub size : ℕ
  pub offsets : List ℕ
  pub neighbours : List ℕ

-- nodes, size, then the lists, and nothing behind them
unfoldable pub asked_in : List ℕ → Bool → Outcome Asked
asked_in [] whole = refused NeighbourOffsets
asked_in (n ∷ []) whole = require (leb n max_text_nodes) TooLarge >>= (λ _. refused NeighbourOffsets)
asked_in (n ∷ s ∷ rest) whole = do
  _ ← require (leb n max_text_nodes) TooLarge
  g ← lists_from n (listing (0 ∷ []) [] rest)
  _ ← require (is_none g.rest && whole) NeighbourOffsets
  done (record { nodes = n; size = s; offsets = g.offsets; neighbours = g.neighbours })

unfoldable pub answered : Outcome Asked → Outcome Grouping
answered (refused r) = refused r
answered (done q) = grouping_call q.nodes q.size q.offsets q.neighbours q.nodes (8 * q.nodes + 4 * length q.neighbours + 16)
