-- What an accepted grouping call has.
use Rattle.std.specs.Prelude.{◌≡◌, List, ℕ, ◌≤◌, ◌<◌}
use Rattle.definitions.specs.Groups.{max_group}
use Rattle.aggregates.specs.declared.lists.Lists.{Lists}

-- the call's lists
pub record IsLent (nodes : ℕ) (offsets neighbours : List ℕ) (l : Lists) : Type 0 where
  pub number : l.nodes ≡ nodes
  pub offsets_are : l.offsets.now ≡ offsets
  pub neighbours_are : l.neighbours.now ≡ neighbours

-- a size that a group may have
abbrev pub IsGroupSize : ℕ → Type 0
IsGroupSize size = (0 < size) × (size ≤ max_group)
