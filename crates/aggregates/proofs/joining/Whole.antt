-- A group's turn: what `join_one` asks of its callees, and that they make the turn of the definitions.
use mathlib.Core.Path.{◌≡◌, refl, ap, sym, ◌∙◌}
use mathlib.Core.List.{List, [], ◌∷◌}
use Prim.Native.Nat.{ℕ, suc, ◌-◌, ◌*◌, ◌≤◌, ◌<◌}
use native.Mathlib.Omega.{arith}
use lib.ListN.{length}
use Rattle.definitions.specs.Groups.{Joining, size_in, edges_to, chosen, listed, no_anchor, taker_of, joined, replay, relabelled}
use Rattle.definitions.specs.JoiningLog.{rule_of, log_of}
use Rattle.laws.proofs.Lists.{Each, each_imp}
use Rattle.aggregates.specs.JoinChoice.{at, Zeros}
use Rattle.aggregates.specs.JoinState.{Chains, moved, members_of, state_of, turn_of, Rep, Turned, Gathers, Moves}
use Rattle.aggregates.specs.Log.{Rules, rule_in, noted, turn_log}
use Rattle.aggregates.proofs.Stops.{Other}
use Rattle.aggregates.proofs.joining.Ruled.{rule_same}
use Rattle.aggregates.proofs.joining.Moved.{moved_state, moved_rep}
use Rattle.aggregates.proofs.joining.Turns.{turn_stays, turn_joins, low_members, edges_within, none_empty, none_floor, names, names_few, low_names, taker_is, good, both_few}

module _ (n groups : ℕ) (offsets nb ids : List ℕ) (c : Chains) (rep : Rep n groups offsets nb ids c) (floor g : ℕ) (hg : g ≤ groups) where
  -- the log stays as it is
  abbrev Unlogged : Type 0
  Unlogged = (made : ℕ) (log : List ℕ) → log ≡ turn_log (listed offsets nb) floor (state_of groups ids c) g made log

  idle : taker_of (listed offsets nb) no_anchor floor (state_of groups ids c) g ≡ 0 → Turned n groups offsets nb floor g ids c ids c 0 × Unlogged
  unfolding replay log_of noted
  idle e = rw (turn_stays (listed offsets nb) floor (state_of groups ids c) g e) ((refl, (refl, rep)), λ made log. refl)

  pub turn_empty : at c.counts g ≡ 0 → Turned n groups offsets nb floor g ids c ids c 0 × Unlogged
  turn_empty z = idle (none_empty n groups offsets nb ids c rep floor g hg z)

  pub turn_large : (at c.counts g ≡ 0 → ⊥) → floor ≤ at c.counts g → Turned n groups offsets nb floor g ids c ids c 0 × Unlogged
  turn_large z h = idle (none_floor n groups offsets nb ids c rep floor g hg z h)

  pub asks_gather : (room : ℕ) → length nb ≤ room → Gathers n offsets ids c room g
  asks_gather room h = record {
    own = (omega (arith, rep.firsts), omega (arith, rep.sizes));
    nexts = rep.nexts;
    sizes = λ v l. omega (arith, rep.grouped v l, rep.sizes);
    nodes = low_members n groups offsets nb ids c rep g hg;
    space = omega (arith, edges_within n groups offsets nb ids c rep g hg);
  }

  abbrev pub named : List ℕ
  named = names n groups offsets nb ids c rep floor g hg

  pub named_few : length named ≤ length nb
  named_few = names_few n groups offsets nb ids c rep floor g hg

  pub named_within : (hits : List ℕ) → length hits ≡ length c.counts → Each (λ a. a < length hits) named
  named_within hits e = each_imp (λ a l. omega (arith, e, rep.sizes)) (low_names n groups offsets nb ids c rep floor g hg)

  -- after `choose_group`
  module _ (some : 0 < at c.counts g) (low : at c.counts g < floor) (b : ℕ) (choice : b ≡ chosen (edges_to named) (at c.counts) 0 named) where
    taker_b : taker_of (listed offsets nb) no_anchor floor (state_of groups ids c) g ≡ b
    taker_b = taker_is n groups offsets nb ids c rep floor g hg some low ∙ sym choice

    -- none is named
    pub turn_none : b ≡ 0 → Turned n groups offsets nb floor g ids c ids c 0 × Unlogged
    turn_none z = idle (taker_b ∙ z)

    module _ (found : b ≡ 0 → ⊥) where
      fine : (b ≤ groups) × Other g (at c.counts) b
      fine = good n groups offsets nb ids c rep floor g hg some low b choice found

      pub asks_move : Moves n c g b
      asks_move = record {
        nexts = rep.nexts;
        own = (omega (arith, rep.firsts), omega (arith, rep.sizes));
        other = (omega (arith, rep.firsts, fine.0), omega (arith, rep.sizes, fine.0));
        some = some;
        fits = both_few n groups offsets nb ids c rep floor g hg some low b choice found;
        small = rep.small.0;
        nodes = low_members n groups offsets nb ids c rep g hg;
      }

      pub asks_log : (hits : List ℕ) → length hits ≡ length c.counts → Zeros hits → Rules c.counts hits named b
      asks_log hits e z = record {
        small = omega (arith, named_few, rep.small);
        counted = omega (arith, e);
        taker = omega (arith, fine.0, e, rep.sizes);
        within = named_within hits e;
        zeros = z;
      }

      abbrev joining : Joining
      joining = record { moved = g; taker = b }

      the_turn : turn_of (listed offsets nb) floor (state_of groups ids c) g ≡ joining ∷ []
      the_turn =
          let e : b ≡ suc (b - 1) = omega (arith, found) in
          turn_joins (listed offsets nb) floor (state_of groups ids c) g (b - 1) joining (ap (λ x. record { moved = g; taker = x }) e) (taker_b ∙ e)

      -- after `log_joining`
      pub turn_logged : size_in (state_of groups ids c) 0 ≡ 0 → (made : ℕ) (log : List ℕ) → noted (3 * made) ((g - 1) ∷ (b - 1) ∷ rule_in c.counts b named ∷ []) log ≡ turn_log (listed offsets nb) floor (state_of groups ids c) g made log
      unfolding log_of
      turn_logged none made log =
          let rule : rule_in c.counts b named ≡ rule_of (listed offsets nb) no_anchor (state_of groups ids c) joining = rule_same n groups offsets nb ids c rep floor g hg some low b choice found none (at c.counts) (λ o h. refl) joining refl in
          rw the_turn (ap (λ x. noted (3 * made) ((g - 1) ∷ (b - 1) ∷ x ∷ []) log) rule)

      -- after `move_group`
      pub turn_moved : (ids' : List ℕ) (c' : Chains) → ids' ≡ relabelled b (members_of c g) ids → c' ≡ moved g b c → Turned n groups offsets nb floor g ids c ids' c' 1
      unfolding replay
      turn_moved ids' c' e f =
          let s : state_of groups ids' c' ≡ joined joining (state_of groups ids c) = rw (e, f) (moved_state n groups offsets nb ids c rep g b hg fine.0 fine.1.1 some joining refl) in
          rw the_turn (refl, (s, rw (e, f) (moved_rep n groups offsets nb ids c rep g b hg fine.0 fine.1.1 some)))
