-- FEWER JOININGS THAN GROWN GROUPS: growth leaves no node out, so there are at most as many joinings as grown groups, less one.
use mathlib.Core.List.{List}
use Prim.Native.Nat.{ℕ, ◌-◌, ◌≤◌, ◌<◌}
use native.Mathlib.Omega.{arith}
use lib.ListN.{length}
use Rattle.definitions.specs.Groups.{grown, joinings, no_anchor}
use Rattle.aggregates.proofs.Stops.{grouping_below}
use Rattle.aggregates.proofs.growth.Between.{grown_all}

pub fewer_joinings : (lists : ℕ → List ℕ) (nodes size : ℕ) → 0 < size → length (joinings lists no_anchor nodes size) ≤ (grown lists no_anchor nodes size).1 - 1
fewer_joinings lists nodes size pos = let g = grown_all lists nodes size pos in grouping_below lists no_anchor nodes size (λ v h. g.some v (omega (arith, g.long)))
