-- The rounds of `join_rounds`: a turn goes on with the round, a round with the rounds, and each round that joins lowers the number of groups that have members.
use mathlib.Core.Path.{◌≡◌, refl, ap, sym, ◌∙◌}
use mathlib.Core.List.{List, [], ◌∷◌, ◌++◌, append_assoc, append-nil}
use Prim.Native.Nat.{ℕ, zero, suc, ◌+◌, ◌-◌, ◌*◌, ◌≤◌, ◌<◌}
use native.Mathlib.Numerals.{add-one}
use native.Mathlib.Omega.{arith}
use lib.ListN.{length, length-append}
use Rattle.definitions.specs.Groups.{Groups, Joining, groups_of, size_in, listed, no_anchor, taker_of, replay, round_from, joinings_from}
use Rattle.definitions.specs.JoiningLog.{log_of}
use Rattle.laws.proofs.Lists.{length_tab}
use Rattle.aggregates.specs.JoinState.{Chains, Rep, Turned, members_of, state_of, turn_of}
use Rattle.aggregates.specs.Log.{Joined, noted, turn_log}
use Rattle.aggregates.proofs.Stops.{alive, alive_most, replay_append, round_lowers, round_stays, round_joins, rounds_end, rounds_go}
use Rattle.aggregates.proofs.joining.Turns.{turn_stays, turn_joins, turn_small}
use Rattle.aggregates.proofs.joining.Noted.{noted_append, log_append, length_log}
use Rattle.aggregates.proofs.joining.Grouped.{none_turn}

-- a round begins with its first group's turn
round_turn : (lists : ℕ → List ℕ) (floor left g : ℕ) (s : Groups) → round_from lists no_anchor floor (suc left) g s ≡ turn_of lists floor s g ++ round_from lists no_anchor floor left (suc g) (replay (turn_of lists floor s g) s)
unfolding replay
round_turn lists floor left g s = go (taker_of lists no_anchor floor s g) refl
  where
    go : (t : ℕ) → taker_of lists no_anchor floor s g ≡ t → round_from lists no_anchor floor (suc left) g s ≡ turn_of lists floor s g ++ round_from lists no_anchor floor left (suc g) (replay (turn_of lists floor s g) s)
    go zero e = rw (turn_stays lists floor s g e) (round_stays lists no_anchor floor left g s e)
    go (suc b) e = let j : Joining = record { moved = g; taker = suc b } in rw (turn_joins lists floor s g b j refl e) (round_joins lists no_anchor floor left g b s j refl e)

no_joining : (js : List Joining) → length js ≡ 0 → js ≡ []
no_joining [] e = refl
no_joining (j ∷ js) e = absurd (omega arith)

-- what is logged further joinings go behind
log_more : (lists : ℕ → List ℕ) (s₀ s : Groups) (made js : List Joining) (before total : ℕ) (log₀ log : List ℕ) → total ≡ before + length made → s ≡ replay made s₀ → log ≡ noted (3 * before) (log_of lists no_anchor s₀ made) log₀ → noted (3 * total) (log_of lists no_anchor s js) log ≡ noted (3 * before) (log_of lists no_anchor s₀ (made ++ js)) log₀
log_more lists s₀ s made js before total log₀ log count state written =
    let place : 3 * total ≡ 3 * before + length (log_of lists no_anchor s₀ made) = omega (arith, count, length_log lists no_anchor s₀ made) in
    rw (place, state, written, log_append lists no_anchor s₀ made js) (sym (noted_append (3 * before) (log_of lists no_anchor s₀ made) (log_of lists no_anchor (replay made s₀) js) log₀))

-- within a round that began with the groups s₀ and the log log₀, of `before` joinings, after `total`
pub record InRound (n groups : ℕ) (offsets nb : List ℕ) (s₀ : Groups) (floor : ℕ) (log₀ : List ℕ) (before : ℕ) (ids : List ℕ) (c : Chains) (log : List ℕ) (total g : ℕ) : Type 0 where
  pub lo : 1 ≤ g
  pub hi : g ≤ suc groups
  pub few : total < before + g
  pub rep : Rep n groups offsets nb ids c
  pub made : List Joining
  pub count : total ≡ before + length made
  pub none : size_in (state_of groups ids c) 0 ≡ 0
  pub written : log ≡ noted (3 * before) (log_of (listed offsets nb) no_anchor s₀ made) log₀
  pub state : state_of groups ids c ≡ replay made s₀
  pub goes : made ++ round_from (listed offsets nb) no_anchor floor (suc groups - g) g (state_of groups ids c) ≡ round_from (listed offsets nb) no_anchor floor groups 1 s₀

-- between rounds, of which the first began with the groups s₀ and the log log₀, after `total` joinings
pub record Between (n groups : ℕ) (offsets nb : List ℕ) (s₀ : Groups) (floor : ℕ) (log₀ ids : List ℕ) (c : Chains) (log : List ℕ) (total : ℕ) : Type 0 where
  pub rep : Rep n groups offsets nb ids c
  pub fuel : ℕ
  pub enough : alive (state_of groups ids c).members ≤ fuel
  pub few : total + alive (state_of groups ids c).members ≤ suc groups
  pub made : List Joining
  pub count : total ≡ length made
  pub none : size_in (state_of groups ids c) 0 ≡ 0
  pub written : log ≡ noted 0 (log_of (listed offsets nb) no_anchor s₀ made) log₀
  pub state : state_of groups ids c ≡ replay made s₀
  pub goes : made ++ joinings_from (listed offsets nb) no_anchor floor groups fuel (state_of groups ids c) ≡ joinings_from (listed offsets nb) no_anchor floor groups (suc groups) s₀

module _ (n groups : ℕ) (offsets nb : List ℕ) (s₀ : Groups) (floor : ℕ) (log₀ : List ℕ) where
  pub first_round : (ids : List ℕ) (c : Chains) → s₀ ≡ state_of groups ids c → Rep n groups offsets nb ids c → size_in s₀ 0 ≡ 0 → Between n groups offsets nb s₀ floor log₀ ids c log₀ 0
  unfolding state_of replay log_of noted
  first_round ids c is r none =
      let most : alive (state_of groups ids c).members ≤ suc groups = omega (arith, alive_most (state_of groups ids c).members, length_tab (members_of c) (suc groups)) in
      record { rep = r; fuel = suc groups; enough = most; few = omega (arith, most); made = []; count = refl; none = rw is at none; written = refl; state = sym is; goes = rw is refl }

  pub first_turn : (before : ℕ) (ids : List ℕ) (c : Chains) → s₀ ≡ state_of groups ids c → Rep n groups offsets nb ids c → size_in s₀ 0 ≡ 0 → InRound n groups offsets nb s₀ floor log₀ before ids c log₀ before 1
  unfolding replay log_of noted
  first_turn before ids c is r none = let e : suc groups - 1 ≡ groups = omega arith in record {
    lo = omega arith;
    hi = omega arith;
    few = omega arith;
    rep = r;
    made = [];
    count = omega arith;
    none = rw is at none;
    written = refl;
    state = sym is;
    goes = rw (e, is) refl;
  }

  pub next_turn : (before : ℕ) (ids : List ℕ) (c : Chains) (log ids' : List ℕ) (c' : Chains) (log' : List ℕ) (total g r : ℕ) → InRound n groups offsets nb s₀ floor log₀ before ids c log total g → g ≤ groups → Turned n groups offsets nb floor g ids c ids' c' r → log' ≡ turn_log (listed offsets nb) floor (state_of groups ids c) g total log → InRound n groups offsets nb s₀ floor log₀ before ids' c' log' (total + r) (g + 1)
  next_turn before ids c log ids' c' log' total g r inv h t logged =
      let js = turn_of (listed offsets nb) floor (state_of groups ids c) g in
      let left : suc groups - g ≡ suc (suc groups - suc g) = omega arith in
      let begun : inv.made ++ round_from (listed offsets nb) no_anchor floor (suc (suc groups - suc g)) g (state_of groups ids c) ≡ round_from (listed offsets nb) no_anchor floor groups 1 s₀ = rw left at inv.goes in
      record {
        lo = omega arith;
        hi = omega arith;
        few = omega (arith, t.0, turn_small (listed offsets nb) floor (state_of groups ids c) g, inv.few);
        rep = t.1.1;
        made = inv.made ++ js;
        count = omega (arith, inv.count, t.0, length-append inv.made js);
        none = rw t.1.0 (none_turn (listed offsets nb) floor (state_of groups ids c) g inv.lo inv.none);
        written = logged ∙ log_more (listed offsets nb) s₀ (state_of groups ids c) inv.made js before total log₀ log inv.count inv.state inv.written;
        state = t.1.0 ∙ ap (replay js) inv.state ∙ sym (replay_append inv.made js s₀);
        goes = rw (add-one g, t.1.0)
            (append_assoc inv.made js (round_from (listed offsets nb) no_anchor floor (suc groups - suc g) (suc g) (replay js (state_of groups ids c)))
            ∙ ap (λ l. inv.made ++ l) (sym (round_turn (listed offsets nb) floor (suc groups - suc g) g (state_of groups ids c))) ∙ begun);
      }

  -- what a whole round did
  module _ (ids : List ℕ) (c : Chains) (log ids' : List ℕ) (c' : Chains) (log' : List ℕ) (before total g : ℕ) (out : Between n groups offsets nb s₀ floor log₀ ids c log before) (inv : InRound n groups offsets nb (state_of groups ids c) floor log before ids' c' log' total g) (over : groups < g) where
    whole : inv.made ≡ round_from (listed offsets nb) no_anchor floor groups 1 (state_of groups ids c)
    unfolding round_from
    whole = let none : suc groups - g ≡ 0 = omega (arith, inv.hi) in sym (append-nil inv.made) ∙ (rw none at inv.goes)

    lowers : total + alive (state_of groups ids' c').members ≡ before + alive (state_of groups ids c).members
    lowers =
        let a = rw (← whole) at (round_lowers (listed offsets nb) no_anchor floor groups 1 (state_of groups ids c)) in
        omega (arith, inv.count, ap (λ s. alive s.members) inv.state, a)

    pub round_less : (total ≡ before → ⊥) → alive (state_of groups ids' c').members < alive (state_of groups ids c).members
    round_less z = omega (arith, lowers, inv.count)

    pub next_round : (total ≡ before → ⊥) → Between n groups offsets nb s₀ floor log₀ ids' c' log' total
    next_round z =
        let js = inv.made in
        let f : out.fuel ≡ suc (out.fuel - 1) = omega (arith, lowers, out.enough, inv.count) in
        let some : 0 < length js = omega (arith, inv.count, z) in
        let begun : out.made ++ joinings_from (listed offsets nb) no_anchor floor groups (suc (out.fuel - 1)) (state_of groups ids c) ≡ joinings_from (listed offsets nb) no_anchor floor groups (suc groups) s₀ = rw f at out.goes in
        record {
          rep = inv.rep;
          fuel = out.fuel - 1;
          enough = omega (arith, lowers, out.enough, inv.count);
          few = omega (arith, lowers, out.few);
          made = out.made ++ js;
          count = omega (arith, out.count, inv.count, length-append out.made js);
          none = inv.none;
          written = inv.written ∙ log_more (listed offsets nb) s₀ (state_of groups ids c) out.made js 0 before log₀ log (omega (arith, out.count)) out.state out.written;
          state = inv.state ∙ ap (replay js) out.state ∙ sym (replay_append out.made js s₀);
          goes = rw inv.state
              (append_assoc out.made js (joinings_from (listed offsets nb) no_anchor floor groups (out.fuel - 1) (replay js (state_of groups ids c)))
              ∙ ap (λ l. out.made ++ l) (sym (rounds_go (listed offsets nb) no_anchor floor groups (out.fuel - 1) (state_of groups ids c) js some (sym whole))) ∙ begun);
        }

    -- no joining: the rounds are over
    pub last_round : total ≡ before → (ids₀ : List ℕ) → s₀ ≡ groups_of ids₀ groups → Joined offsets nb groups floor ids₀ ids' log₀ log' total
    unfolding state_of replay log_of noted
    last_round z ids₀ grown =
        let none : inv.made ≡ [] = no_joining inv.made (omega (arith, inv.count)) in
        let idle : round_from (listed offsets nb) no_anchor floor groups 1 (state_of groups ids c) ≡ [] = sym whole ∙ none in
        let all : out.made ≡ joinings_from (listed offsets nb) no_anchor floor groups (suc groups) s₀ =
        sym (append-nil out.made) ∙ (rw (rounds_end (listed offsets nb) no_anchor floor groups out.fuel (state_of groups ids c) idle) at out.goes) in
        let s : state_of groups ids' c' ≡ replay out.made s₀ = inv.state ∙ ap (λ js. replay js (state_of groups ids c)) none ∙ out.state in
        let after : ids' ≡ (replay (joinings_from (listed offsets nb) no_anchor floor groups (suc groups) s₀) s₀).of = ap (λ x. x.of) s ∙ ap (λ js. (replay js s₀).of) all in
        let idle-log : log' ≡ log = rw none at inv.written in
        let written : log' ≡ noted 0 (log_of (listed offsets nb) no_anchor s₀ (joinings_from (listed offsets nb) no_anchor floor groups (suc groups) s₀)) log₀ = idle-log ∙ out.written ∙ ap (λ js. noted 0 (log_of (listed offsets nb) no_anchor s₀ js) log₀) all in
        record {
          groups_after = after ∙ ap (λ x. (replay (joinings_from (listed offsets nb) no_anchor floor groups (suc groups) x) x).of) grown;
          number = z ∙ out.count ∙ ap length all ∙ ap (λ x. length (joinings_from (listed offsets nb) no_anchor floor groups (suc groups) x)) grown;
          written = written ∙ ap (λ x. noted 0 (log_of (listed offsets nb) no_anchor x (joinings_from (listed offsets nb) no_anchor floor groups (suc groups) x)) log₀) grown;
        }
