-- What the stages of grouping hand to one another.
use Rattle.std.specs.Prelude.{◌≡◌, List, ℕ, length}
use Rattle.definitions.specs.Lists.{padded}
use Rattle.definitions.specs.Groups.{renumbered, graph_grouping, groups_of, listed, no_anchor}
use Rattle.definitions.specs.JoiningLog.{Logged, log_of, with_log}
use Rattle.aggregates.specs.JoinState.{joined_ids, joinings_of}
use Rattle.aggregates.specs.Log.{noted}

-- the groups joined and renumbered, their count, and the joinings logged
pub record Settled (offsets neighbours : List ℕ) (groups floor : ℕ) (ids₀ ids log₀ log : List ℕ) (count joinings : ℕ) : Type 0 where
  pub groups_after : ids ≡ (renumbered (joined_ids offsets neighbours floor groups ids₀)).ids
  pub number : count ≡ (renumbered (joined_ids offsets neighbours floor groups ids₀)).count
  pub joined : joinings ≡ length (joinings_of offsets neighbours floor groups ids₀)
  pub written : log ≡ noted 0 (log_of (listed offsets neighbours) no_anchor (groups_of ids₀ groups) (joinings_of offsets neighbours floor groups ids₀)) log₀

-- the grouping of n nodes with its log
abbrev pub logged_of : (ℕ → List ℕ) → ℕ → ℕ → Logged
logged_of lists n size = with_log lists no_anchor n size (graph_grouping lists no_anchor n size)

-- the whole grouping and its log
pub record Built (lists : ℕ → List ℕ) (n size : ℕ) (ids log₀ log : List ℕ) (count joinings : ℕ) : Type 0 where
  pub number : count ≡ (graph_grouping lists no_anchor n size).count
  pub groups : ids ≡ (graph_grouping lists no_anchor n size).ids
  pub joined : joinings ≡ (logged_of lists n size).joinings
  pub written : log ≡ noted 0 (logged_of lists n size).log log₀

-- a grouping in the list for it, zeros behind, and its log written over the one before
pub record LoggedInto (made : Logged) (ids₀ ids log₀ log : List ℕ) (count joinings : ℕ) : Type 0 where
  pub number : count ≡ made.grouping.count
  pub groups : ids ≡ padded 0 (length ids₀) made.grouping.ids
  pub joined : joinings ≡ made.joinings
  pub written : log ≡ noted 0 made.log log₀
