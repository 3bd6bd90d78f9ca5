-- The stages of grouping, one after another.
use mathlib.Core.Path.{◌≡◌, refl, ap, ◌∙◌}
use mathlib.Core.List.{List, ◌++◌}
use Prim.Native.Nat.{ℕ, ◌+◌, ◌-◌, ◌*◌, ◌≤◌, ◌<◌}
use native.Mathlib.Omega.{arith}
use borrow.Author.Tests.{ltb-true, ltb-false}
use lib.Dec.{ltb}
use lib.ListN.{length, get_or, replicate, length-replicate, get_or-replicate, get_or-eq_default}
use Rattle.definitions.specs.Lists.{padded}
use Rattle.definitions.specs.Groups.{renumbered, grown, groups_of, joinings, graph_grouping, listed, no_anchor, floor_of}
use Rattle.definitions.specs.JoiningLog.{with_log}
use Rattle.aggregates.specs.JoinChoice.{Zeros}
use Rattle.aggregates.specs.JoinState.{Joins, joined_ids}
use Rattle.definitions.specs.Matrix.{max_rows, max_entries}
use Rattle.aggregates.specs.Lists.{Lists}
use Rattle.aggregates.specs.Settled.{Built, Settled, logged_of}
use Rattle.aggregates.proofs.Stops.{by_test}
use Rattle.aggregates.proofs.growth.Between.{grown_all}
use Rattle.aggregates.proofs.joining.Fewer.{fewer_joinings}
use Rattle.aggregates.proofs.joining.Noted.{length_log}
use Rattle.aggregates.proofs.joining.Grouped.{none_grown}
use Rattle.aggregates.proofs.Upto.{joined_ids_upto}

-- a cleared list is zero everywhere
pub zeros_of : (n : ℕ) (l : List ℕ) → l ≡ replicate n 0 → Zeros l
zeros_of n l e k = rw e (by_test (ltb k n)
    (λ t. get_or-replicate {A = ℕ} n k 0 0 (ltb-true k n t))
    (λ t. get_or-eq_default {A = ℕ} (replicate n 0) 0 {n = k} (rw (length-replicate {A = ℕ} n 0) (ltb-false k n t))))

-- each node's group is at most the count of those that were grown
pub joined_upto : (n groups floor : ℕ) (offsets nb ids ids₁ : List ℕ) → Joins n groups offsets nb ids → ids₁ ≡ joined_ids offsets nb floor groups ids → (v : ℕ) → get_or ids₁ v 0 ≤ groups
joined_upto n groups floor offsets nb ids ids₁ o e v = rw e (joined_ids_upto (listed offsets nb) no_anchor floor groups ids within v)
  where
    within : (u : ℕ) → get_or ids u 0 ≤ groups
    within u = by_test (ltb u n)
        (λ t. o.grouped u (ltb-true u n t))
        (λ t. let z : get_or ids u 0 ≡ 0 = get_or-eq_default {A = ℕ} ids 0 {n = u} (omega (arith, o.nodes, ltb-false u n t)) in omega arith)

module _ (n size : ℕ) (offsets nb : List ℕ) (pos : 0 < size) (groups : ℕ) (ids : List ℕ) (e : (ids, groups) ≡ grown (listed offsets nb) no_anchor n size) where
  ids_are : ids ≡ (grown (listed offsets nb) no_anchor n size).0
  ids_are = ap (λ p. p.0) e

  count_is : groups ≡ (grown (listed offsets nb) no_anchor n size).1
  count_is = ap (λ p. p.1) e

  pub grown_joins : Lists n offsets nb → (n ≤ max_rows) × (length nb ≤ max_entries) → groups ≤ n → Joins n groups offsets nb ids
  grown_joins lists few f =
      let all = grown_all (listed offsets nb) n size pos in
      record {
        nodes = rw ids_are all.long;
        lists = lists;
        few = f;
        small = (omega (arith, few), omega (arith, few));
        grouped = λ v h. rw (ids_are, count_is) (all.upto v);
        none = rw (ids_are, count_is) (none_grown (listed offsets nb) n size pos);
      }

  pub built_after : (floor count made : ℕ) (ids' log₀ log : List ℕ) → floor ≡ floor_of size → Settled offsets nb groups floor ids ids' log₀ log count made → Built (listed offsets nb) n size ids' log₀ log count made
  unfolding graph_grouping joinings with_log
  built_after floor count made ids' log₀ log f s =
      let is : renumbered (joined_ids offsets nb floor groups ids) ≡ graph_grouping (listed offsets nb) no_anchor n size = rw (f, ids_are, count_is) refl in
      record {
        number = s.number ∙ ap (λ g. g.count) is;
        groups = s.groups_after ∙ ap (λ g. g.ids) is;
        joined = s.joined ∙ rw (f, ids_are, count_is) refl;
        written = s.written ∙ rw (f, ids_are, count_is) refl;
      }

-- zeros behind
pub padded_by : (n k m : ℕ) (ids : List ℕ) → length ids ≡ n → n + k ≡ m → ids ++ replicate k 0 ≡ padded 0 m ids
unfolding padded
padded_by n k m ids e f = let q : m - length ids ≡ k = omega arith in rw q refl

-- three numbers for each joining, of which there are fewer than nodes
pub log_fits : (lists : ℕ → List ℕ) (n size : ℕ) → 0 < size → length (logged_of lists n size).log ≤ 3 * n
unfolding with_log
log_fits lists n size pos =
    let start = groups_of (grown lists no_anchor n size).0 (grown lists no_anchor n size).1 in
    omega (arith, length_log lists no_anchor start (joinings lists no_anchor n size), fewer_joinings lists n size pos, (grown_all lists n size pos).few)
