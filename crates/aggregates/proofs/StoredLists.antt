-- Neighbour lists that stand in one list with the room: the call is their checks, and then the grouping.
use mathlib.Core.Path.{◌≡◌}
use mathlib.Core.List.{List}
use Prim.Native.Nat.{ℕ, suc, ◌≤◌}
use native.Mathlib.Omega.{arith}
use lib.ListN.{length, drop, length-take, length-drop}
use Rattle.definitions.specs.Refusal.{refused, done, require, ◌>>=◌}
use Rattle.definitions.specs.Groups.{Grouping, graph_grouping, no_anchor}
use Rattle.definitions.specs.declared.Refusal.{Refusal}
use Rattle.aggregates.specs.Lists.{Lists}
use Rattle.aggregates.specs.Stored.{offsets_in, neighbours_in, lists_at}
use Rattle.aggregates.specs.Within.{stored_checks, within_call}

module _ (nodes size base : ℕ) (w : List ℕ) where
  abbrev grouping : Grouping
  grouping = graph_grouping (lists_at base nodes w) no_anchor nodes size

  within_is : within_call nodes size base w ≡ (stored_checks nodes size base (drop base w) >>= (λ _. done grouping))
  unfolding within_call stored_checks require ◌>>=◌
  within_is = grind arith

  pub within_refused : (r : Refusal) → stored_checks nodes size base (drop base w) ≡ refused r → within_call nodes size base w ≡ refused r
  unfolding ◌>>=◌
  within_refused r e = rw (within_is, e)

  pub within_done : stored_checks nodes size base (drop base w) ≡ done tt → within_call nodes size base w ≡ done grouping
  unfolding ◌>>=◌
  within_done e = rw (within_is, e)

-- proper lists stand in the list
pub stored_fits : (base n : ℕ) (w : List ℕ) → Lists n (offsets_in n (drop base w)) (neighbours_in n (drop base w)) → base ≤ length w
unfolding offsets_in
stored_fits base n w ok = omega (arith, ok.long, length-take (suc n) (drop base w), length-drop base w)
