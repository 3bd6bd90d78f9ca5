-- GROUPING IN ONE LIST: the neighbour lists stand behind the room, in the list that the groups go to.
use Rattle.std.specs.Prelude.{not, ◌&&◌, List, ℕ, ◌+◌, eqb, leb, ltb, length, get_or}
use Rattle.definitions.specs.Lists.{any, falls}
use Rattle.definitions.specs.Refusal.{Checked, Outcome, done, require, ◌>>=◌}
use Rattle.definitions.specs.Matrix.{max_rows, max_entries}
use Rattle.definitions.specs.Groups.{Grouping, graph_grouping, no_anchor, max_group}
use Rattle.definitions.specs.declared.Refusal.TheVariants.{TooLarge, GroupSize, ListTooShort, NoNode, NeighbourOffsets, NeighbourOutside}
use Rattle.aggregates.specs.Stored.{offsets_in, neighbours_in, offsets_at, neighbours_at, lists_at, room_for}

-- the checks of the neighbour lists: 1, 11, 27, 16, 28
unfoldable pub lists_call : ℕ → ℕ → List ℕ → List ℕ → Checked
lists_call nodes size offsets neighbours = do
  _ ← require (leb nodes max_rows && leb (length neighbours) max_entries) TooLarge
  _ ← require (leb 1 size && leb size max_group) GroupSize
  _ ← require (eqb (length offsets) (nodes + 1) && eqb (get_or offsets 0 1) 0 && not (falls offsets) && eqb (get_or offsets nodes 0) (length neighbours)) NeighbourOffsets
  _ ← require (ltb 0 nodes) NoNode
  require (not (any (λ w. leb nodes w) neighbours)) NeighbourOutside

-- those of the lists that a list begins with, with `below` numbers of room: 1, 11, 27, 16, 28, 13
unfoldable pub stored_checks : ℕ → ℕ → ℕ → List ℕ → Checked
stored_checks nodes size below l = do
  _ ← lists_call nodes size (offsets_in nodes l) (neighbours_in nodes l)
  require (leb (room_for nodes (length (neighbours_in nodes l))) below) ListTooShort

-- 1, 11, 27, 16, 28, 13, all of which leave all. A list that ends before its neighbour lists do has fewer of them than it says: 27
unfoldable pub within_call : ℕ → ℕ → ℕ → List ℕ → Outcome Grouping
within_call nodes size base w = do
  _ ← lists_call nodes size (offsets_at base nodes w) (neighbours_at base nodes w)
  _ ← require (leb (room_for nodes (length (neighbours_at base nodes w))) base) ListTooShort
  done (graph_grouping (lists_at base nodes w) no_anchor nodes size)
