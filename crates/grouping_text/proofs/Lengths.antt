-- A grouping has an id for each node, and what is printed of it is a line for each.
use mathlib.Core.Path.{◌≡◌, refl, ap, sym, ◌∙◌}
use mathlib.Core.Bool.{Bool, true, false}
use mathlib.Core.List.{List, [], ◌∷◌, ◌++◌, flat_map, zip_with}
use Prim.Native.Nat.{ℕ, zero, suc, ◌+◌}
use native.Mathlib.Omega.{arith}
use lib.Dec.{eqb}
use lib.ListN.{length, get_or, set, replicate, length-set, length-replicate}
use Rattle.std.proofs.lemmas.List.{length-map}
use Rattle.definitions.specs.Lists.{tab, up_to}
use Rattle.definitions.specs.Refusal.{refused, done, require, ◌>>=◌}
use Rattle.definitions.specs.declared.Refusal.{Refusal}
use Rattle.definitions.specs.Groups.{Joining, Groups, Grouping, free, waiting, grow_group, grow_groups, grown, relabelled, joined, replay, joinings, groups_of, renumbered, place, firsts, graph_grouping, grouping_call, listed, no_anchor}
use Rattle.definitions.specs.Text.{line, decimal, printed, groups_word}
use Rattle.grouping_text.specs.Puts.{lines_from}
use Rattle.grouping_text.proofs.Agrees.{split, ordered, call_is}

relabelled_length : (b : ℕ) (vs ids : List ℕ) → length (relabelled b vs ids) ≡ length ids
unfolding relabelled
relabelled_length b [] ids = refl
relabelled_length b (v ∷ vs) ids = relabelled_length b vs (set ids v b) ∙ length-set ids v b

replay_length : (js : List Joining) (s : Groups) → length (replay js s).of ≡ length s.of
unfolding replay joined
replay_length [] s = refl
replay_length (j ∷ js) s = replay_length js (joined j s) ∙ relabelled_length j.taker (get_or s.members j.moved []) s.of

module _ (lists : ℕ → List ℕ) where
  grow_length : (g room : ℕ) (ids q : List ℕ) → length (grow_group lists no_anchor g room ids q) ≡ length ids
  unfolding grow_group
  grow_length g zero ids q = refl
  grow_length g (suc room) ids q = elim (waiting ids q) as (λ l. length {A = ℕ} (elim l as (λ _. List ℕ) [ [] ↦ ids | v ∷ rest ↦ grow_group lists no_anchor g room (set ids v g) (rest ++ free lists no_anchor (set ids v g) (lists v)) ]) ≡ length ids)
      [ [] ↦ refl | v ∷ rest ↦ grow_length g room (set ids v g) (rest ++ free lists no_anchor (set ids v g) (lists v)) ∙ length-set ids v g ]

  from_length : (size left v g : ℕ) (ids : List ℕ) → length (grow_groups lists no_anchor size left v g ids).0 ≡ length ids
  unfolding grow_groups
  from_length size zero v g ids = refl
  from_length size (suc left) v g ids = split (eqb (get_or ids v 0) 0)
      (λ e. rw (grow_groups, e) (from_length size left (suc v) (suc g) (grow_group lists no_anchor (suc g) size ids (v ∷ [])) ∙ grow_length (suc g) size ids (v ∷ [])))
      (λ e. rw (grow_groups, e) (from_length size left (suc v) g ids))

  grown_length : (n size : ℕ) → length (grown lists no_anchor n size).0 ≡ n
  unfolding grown
  grown_length n size = from_length size n 0 0 (replicate n 0) ∙ length-replicate n 0

  -- an id for each node
  pub grouping_length : (n size : ℕ) → length (graph_grouping lists no_anchor n size).ids ≡ n
  unfolding graph_grouping renumbered groups_of
  grouping_length n size =
      let s = groups_of (grown lists no_anchor n size).0 (grown lists no_anchor n size).1 in
      let ids = (replay (joinings lists no_anchor n size) s).of in
      length-map ids (λ x. place x (firsts [] ids)) ∙ replay_length (joinings lists no_anchor n size) s ∙ grown_length n size

lines_from_lem : (v : ℕ) (f : ℕ → ℕ) (xs : List ℕ) → ((i : ℕ) → f i ≡ v + i) → flat_map (λ l. l) (zip_with (λ u id. line (decimal u) (decimal id)) (tab f (length xs)) xs) ≡ lines_from v xs
unfolding tab lines_from flat_map zip_with
lines_from_lem v f [] h = refl
lines_from_lem v f (x ∷ xs) h =
    let e : f 0 ≡ v = h 0 ∙ omega arith in
    rw e (ap (λ l. line (decimal v) (decimal x) ++ l) (lines_from_lem (suc v) (λ i. f (suc i)) xs (λ i. h (suc i) ∙ omega arith)))

pub printed_groups : (g : Grouping) → printed (done g) ≡ line groups_word (decimal g.count) ++ lines_from 0 g.ids
unfolding printed up_to
printed_groups g = ap (λ l. line groups_word (decimal g.count) ++ l) (lines_from_lem 0 (λ i. i) g.ids (λ i. omega arith))

apart : {r : Refusal} {g : Grouping} → refused r ≡ done g → ⊥
apart p = let z : ◌≡◌ {A = ℕ} 0 1 = cc in omega arith

ordered_done : (a b c d e f : Bool) (h g : Grouping) → ordered a b c d e f h ≡ done g → h ≡ g
unfolding ordered require ◌>>=◌
ordered_done true true true true true true h g p = cc
ordered_done true true true true true false h g p = absurd (apart p)
ordered_done true true true true false f h g p = absurd (apart p)
ordered_done true true true false e f h g p = absurd (apart p)
ordered_done true true false d e f h g p = absurd (apart p)
ordered_done true false c d e f h g p = absurd (apart p)
ordered_done false b c d e f h g p = absurd (apart p)

-- an accepted call has an id for each node
pub call_length : (n s : ℕ) (offsets nb : List ℕ) (room work : ℕ) (g : Grouping) → grouping_call n s offsets nb room work ≡ done g → length g.ids ≡ n
call_length n s offsets nb room work g e =
    ap (λ q. length q.ids) (sym (ordered_done _ _ _ _ _ _ (graph_grouping (listed offsets nb) no_anchor n s) g (sym (call_is n s offsets nb room work) ∙ e)))
    ∙ grouping_length (listed offsets nb) n s
