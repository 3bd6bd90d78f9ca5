-- The grouping that setup makes, as a call of its own.
use Rattle.std.specs.Prelude.{ℕ, ◌+◌, ◌*◌, ◌/◌, ◌≤◌, ◌≡◌, Bool, true, false, ◌&&◌, List, leb, length, replicate, Float, Result}
use Rattle.definitions.specs.Numbers.{zeroᶠ}
use Rattle.definitions.specs.Refusal.{Outcome, refused, done, Checked, require, ◌>>=◌, result_left, work_left}
use Rattle.definitions.specs.Matrix.{Matrix, max_rows, max_entries}
use Rattle.definitions.specs.Lists.{padded}
use Rattle.definitions.specs.Groups.{Grouping, contiguous_grouping}
use Rattle.definitions.specs.Answers.{grouping_answer}
use Rattle.definitions.specs.Neighbours.{neighbour_lists}
use Rattle.definitions.specs.Places.{node_count}
use Rattle.definitions.specs.Setup.{grouping_of, graph_of}
use Rattle.definitions.specs.declared.Options.{Options}
use Rattle.definitions.specs.declared.TwoLevelAggregation.{TwoLevelAggregation}
use Rattle.definitions.specs.declared.Refusal.TheVariants.{ListTooShort, NoNode}
use Rattle.adjacency.specs.Within.{read_of}
use Rattle.aggregates.specs.Within.{within_call}
use Rattle.two_level_grouping.specs.Front.{shape_of}
use Rattle.definitions.specs.declared.Refusal.{Refusal}

-- whether the lists are long enough: the groups go to the first, the neighbour lists and the grouping's room to the second, the strengths to the third
unfoldable pub has_room : ℕ → ℕ → ℕ → ℕ → ℕ → Bool
has_room nodes entries room workRoom floatRoom = leb nodes room && leb (8 * nodes + 4 * entries + 16) workRoom && leb (3 * nodes) floatRoom

-- the limits of 1
abbrev pub small : ℕ → ℕ → ℕ → Bool
small rows cols entries = leb rows max_rows && leb cols max_rows && leb entries max_entries

unfoldable pub passes : Checked → Bool
passes (done tt) = true
passes (refused r) = false

-- whether all pass that sizes alone decide: the limits of 1, 9 to 12, and 13
unfoldable pub sizes_fit : ℕ → ℕ → ℕ → ℕ → ℕ → ℕ → ℕ → ℕ → Bool
sizes_fit rows cols entries block group room workRoom floatRoom =
    small rows cols entries && passes (shape_of rows cols block group) && has_room (rows / block) entries room workRoom floatRoom

-- 1 to 12, of which 8 where strengths are compared
unfoldable pub asked : Matrix → Options → Checked
asked a o = read_of o.aggregation a >>= (λ _. shape_of a.rows a.cols o.block o.group)

-- those, 13 for these lists, 16
unfoldable pub aggregate_call : Matrix → Options → ℕ → ℕ → ℕ → Outcome Grouping
aggregate_call a o room workRoom floatRoom = do
  _ ← asked a o
  _ ← require (has_room (node_count a o) (length a.values) room workRoom floatRoom) ListTooShort
  grouping_of o.aggregation a o

-- the group of each node, and zeros after them
unfoldable pub ids_left : Outcome Grouping → List ℕ → List ℕ
ids_left call lent = result_left 0 (call >>= (λ g. done g.ids)) lent

-- what the grouping of lists that stand from `base` on leaves of the list for the groups and of the work list
pub record Grouped (nodes size base : ℕ) (lent work : List ℕ) (r : (Result ℕ Refusal)) (lent' work' : List ℕ) : Type 0 where
  pub answer : r ≡ grouping_answer (within_call nodes size base work)
  pub ids : (g : Grouping) → within_call nodes size base work ≡ done g → length g.ids ≡ nodes → lent' ≡ padded 0 (length lent) g.ids
  pub zeros : (g : Grouping) → within_call nodes size base work ≡ done g → length g.ids ≡ nodes → work' ≡ replicate (length work) 0

-- what a grouping call answers and leaves: the groups with zeros after them, and work lists of zeros
pub record Answered (call : Outcome Grouping) (lent work : List ℕ) (wide : List Float) (r : (Result ℕ Refusal)) (lent' work' : List ℕ) (wide' : List Float) : Type 0 where
  pub answer : r ≡ grouping_answer call
  pub groups : lent' ≡ ids_left call lent
  pub ints : work' ≡ work_left 0 call work
  pub floats : wide' ≡ work_left zeroᶠ call wide

-- what sizes that fit leave to the groupings: 9 to 12 pass, and the lists are long enough
pub record Ready (a : Matrix) (o : Options) (room workRoom floatRoom : ℕ) : Type 0 where
  pub shape : shape_of a.rows a.cols o.block o.group ≡ done tt
  pub least : 1 ≤ o.block
  pub ids : node_count a o ≤ room
  pub work : 8 * node_count a o + 4 * length a.values + 16 ≤ workRoom
  pub floats : 3 * node_count a o ≤ floatRoom

-- what a policy asks of the matrix, then a grouping
abbrev pub read_then : TwoLevelAggregation → Matrix → Outcome Grouping → Outcome Grouping
read_then k a g = read_of k a >>= (λ _. g)

-- 16
abbrev pub no_node : Outcome Grouping
no_node = refused NoNode

-- the groups by the nodes' numbers
abbrev pub numbers_of : Matrix → Options → Outcome Grouping
numbers_of a o = done (contiguous_grouping (node_count a o) o.group)

-- 16, then the groups by the nodes' lists
abbrev pub lists_of : TwoLevelAggregation → Matrix → Options → Outcome Grouping
lists_of k a o = graph_of (neighbour_lists k a o.block (node_count a o)) (node_count a o) o.group
