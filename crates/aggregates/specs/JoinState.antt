-- How the groups are held while they join: the group of each node, and a chain of members for each group.
use Rattle.std.specs.Prelude.{◌≡◌, List, [], ◌∷◌, ℕ, zero, suc, ◌+◌, ◌-◌, ◌^◌, ◌≤◌, ◌<◌, length, get_or, set}
use Rattle.std.specs.List.{sum_by}
use Rattle.definitions.specs.Lists.{tab}
use Rattle.definitions.specs.Groups.{Groups, Joining, size_in, taker_of, joinings_from, replay, groups_of, listed, no_anchor}
use Rattle.laws.specs.Every.{Each}
use Rattle.aggregates.specs.Lists.{Lists}
use Rattle.aggregates.specs.JoinChoice.{at, named_by}

-- each element once
abbrev pub Once : List ℕ → Type 0
Once [] = Unit {0}
Once (x ∷ xs) = Each (λ y. y ≡ x → ⊥) xs × Once xs

-- the k nodes of a chain
unfoldable pub walk : ℕ → List ℕ → ℕ → List ℕ
walk zero w cur = []
walk (suc k) w cur = cur ∷ walk k w (get_or w cur 0)

-- where a chain goes on after k nodes
unfoldable pub hop : ℕ → List ℕ → ℕ → ℕ
hop zero w cur = cur
hop (suc k) w cur = hop k w (get_or w cur 0)

-- the next member of a node's group, the first member of a group, and how many it has
pub record Chains : Type 0 where
  pub next : List ℕ
  pub first : List ℕ
  pub counts : List ℕ

abbrev pub chains : List ℕ → List ℕ → List ℕ → Chains
chains next first counts = record { next = next; first = first; counts = counts }

unfoldable pub members_of : Chains → ℕ → List ℕ
members_of c g = walk (at c.counts g) c.next (at c.first g)

-- the groups that the nodes' groups `ids` and the chains stand for
unfoldable pub state_of : ℕ → List ℕ → Chains → Groups
state_of groups ids c = record { of = ids; members = tab (members_of c) (suc groups) }

pub record Rep (n groups : ℕ) (offsets neighbours ids : List ℕ) (c : Chains) : Type 0 where
  pub nodes : length ids ≡ n
  pub nexts : length c.next ≡ n
  pub firsts : length c.first ≡ suc groups
  pub sizes : length c.counts ≡ suc groups
  pub lists : Lists n offsets neighbours
  pub few : groups ≤ n
  pub small : (n < 2 ^ 31) × (length neighbours < 2 ^ 32)
  pub grouped : (v : ℕ) → v < n → get_or ids v 0 ≤ groups
  pub members : (g : ℕ) → g ≤ groups → Each (λ v. (v < n) × (get_or ids v 0 ≡ g)) (members_of c g)
  pub once : (g : ℕ) → g ≤ groups → Once (members_of c g)

-- the groups that the lists of the group g name
abbrev pub names_in : (ℕ → List ℕ) → List ℕ → Chains → ℕ → List ℕ
names_in lists ids c g = named_by lists g ids (at c.counts) (members_of c g)

-- what `gather` asks: the group is one of those that are held, all members are nodes, and there is room for all edges of the group
pub record Gathers (n : ℕ) (offsets ids : List ℕ) (c : Chains) (room g : ℕ) : Type 0 where
  pub own : (g < length c.first) × (g < length c.counts)
  pub nexts : length c.next ≡ n
  pub sizes : (v : ℕ) → v < n → get_or ids v 0 < length c.counts
  pub nodes : Each (λ v. v < n) (members_of c g)
  pub space : sum_by (λ v. get_or offsets (suc v) 0 - get_or offsets v 0) (members_of c g) ≤ room

-- the chains after all of the group g went to the group b: the chain of g is put before that of b
unfoldable pub moved : ℕ → ℕ → Chains → Chains
moved g b c = record {
  next = set c.next (hop (at c.counts g - 1) c.next (at c.first g)) (at c.first b);
  first = set c.first b (at c.first g);
  counts = set (set c.counts b (at c.counts b + at c.counts g)) g 0;
}

-- what `move_group` asks
pub record Moves (n : ℕ) (c : Chains) (g b : ℕ) : Type 0 where
  pub nexts : length c.next ≡ n
  pub own : (g < length c.first) × (g < length c.counts)
  pub other : (b < length c.first) × (b < length c.counts)
  pub some : 0 < at c.counts g
  pub fits : at c.counts g + at c.counts b ≤ n
  pub small : n < 2 ^ 31
  pub nodes : Each (λ v. v < n) (members_of c g)

-- the joinings of one group's turn: none or one
unfoldable pub turn_of : (ℕ → List ℕ) → ℕ → Groups → ℕ → List Joining
turn_of lists floor s g = elim (taker_of lists no_anchor floor s g) [ zero ↦ [] | suc b ↦ (let j : Joining = record { moved = g; taker = suc b } in j ∷ []) ]

-- what a turn of the group g asks: it is one of the groups, and group 0, which stands for none, has no member
pub record HasTurn (n groups g : ℕ) (offsets neighbours ids : List ℕ) (c : Chains) : Type 0 where
  pub rep : Rep n groups offsets neighbours ids c
  pub some : 0 < g
  pub own : g ≤ groups
  pub none : size_in (state_of groups ids c) 0 ≡ 0

-- the groups ids' and c' and the answer r are what the turn of g makes of ids and c
abbrev pub Turned : ℕ → ℕ → List ℕ → List ℕ → ℕ → ℕ → List ℕ → Chains → List ℕ → Chains → ℕ → Type 0
Turned n groups offsets nb floor g ids c ids' c' r =
    (r ≡ length (turn_of (listed offsets nb) floor (state_of groups ids c) g)) × ((state_of groups ids' c' ≡ replay (turn_of (listed offsets nb) floor (state_of groups ids c) g) (state_of groups ids c)) × Rep n groups offsets nb ids' c')

-- all joinings of the nodes' groups `ids`, and the nodes' groups after them
abbrev pub joinings_of : List ℕ → List ℕ → ℕ → ℕ → List ℕ → List Joining
joinings_of offsets neighbours floor groups ids = joinings_from (listed offsets neighbours) no_anchor floor groups (suc groups) (groups_of ids groups)

abbrev pub joined_ids : List ℕ → List ℕ → ℕ → ℕ → List ℕ → List ℕ
joined_ids offsets neighbours floor groups ids = (replay (joinings_of offsets neighbours floor groups ids) (groups_of ids groups)).of

-- what `join_groups` asks: proper lists, at most n groups, each node in one of them, and none in group 0
pub record Joins (n groups : ℕ) (offsets neighbours ids : List ℕ) : Type 0 where
  pub nodes : length ids ≡ n
  pub lists : Lists n offsets neighbours
  pub few : groups ≤ n
  pub small : (n < 2 ^ 31) × (length neighbours < 2 ^ 32)
  pub grouped : (v : ℕ) → v < n → get_or ids v 0 ≤ groups
  pub none : size_in (groups_of ids groups) 0 ≡ 0
