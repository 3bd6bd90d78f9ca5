-- The loop of `renumber`: the numbers given, with those that the rest will get, stay the same; the table holds the marks of the numbers seen.
use mathlib.Core.Path.{◌≡◌, refl, ap, sym, ◌∙◌}
use mathlib.Core.Bool.{false}
use mathlib.Core.List.{List, [], ◌∷◌, ◌++◌, append-nil}
use Prim.Native.Nat.{ℕ, suc, ◌+◌, ◌-◌, ◌≤◌, ◌<◌}
use native.Mathlib.Omega.{arith}
use native.Mathlib.Numerals.{add-one}
use lib.Dec.{eqb}
use borrow.Author.Tests.{eqb-true, eqb-false}
use lib.ListN.{length, get_or, set, take, drop, length-append}
use lib.Seq.{drop-cons, take-suc-set, append_snoc, get_or-set_same, get_or-set_other, take-length, drop-length}
use Rattle.definitions.specs.Groups.{firsts, renumbered, place}
use Rattle.aggregates.specs.JoinChoice.{Zeros}
use Rattle.aggregates.proofs.Stops.{by_test}
use Rattle.aggregates.proofs.Appearance.{has, firsts_old, firsts_new, numbers_from, numbers_old, numbers_new, renumbered_ids, renumbered_count, mark, mark_empty, unmarked, marked, mark_new, mark_other}

pub record Numbering (ids₀ ids table : List ℕ) (count v : ℕ) : Type 0 where
  pub seen : List ℕ
  pub is : count ≡ length seen
  pub few : count ≤ v
  pub rest : (k : ℕ) → v ≤ k → get_or ids k 0 ≡ get_or ids₀ k 0
  pub marks : (x : ℕ) → x < length table → get_or table x 0 ≡ mark x seen
  pub given : take v ids ++ numbers_from seen (drop v ids₀) ≡ numbers_from [] ids₀
  pub order : firsts seen (drop v ids₀) ≡ firsts [] ids₀

module _ (ids₀ : List ℕ) where
  pub number_first : (table : List ℕ) → Zeros table → Numbering ids₀ ids₀ table 0 0
  number_first table z = record {
    seen = [];
    is = refl;
    few = omega arith;
    rest = λ k a. refl;
    marks = λ x h. z x ∙ sym (mark_empty x);
    given = refl;
    order = refl;
  }

  module _ (ids table : List ℕ) (count v : ℕ) (long : length ids ≡ length ids₀) (inv : Numbering ids₀ ids table count v) where
    pub number_last : v ≡ length ids₀ → (ids ≡ (renumbered ids₀).ids) × (count ≡ (renumbered ids₀).count)
    unfolding numbers_from firsts
    number_last e =
        let none : drop v ids₀ ≡ [] = rw e (drop-length ids₀) in
        let all : take v ids ≡ ids = rw (e, ← long) (take-length ids) in
        let g : take v ids ++ [] ≡ numbers_from [] ids₀ = rw none at inv.given in
        let o : inv.seen ≡ firsts [] ids₀ = rw none at inv.order in
        (sym all ∙ sym (append-nil (take v ids)) ∙ g ∙ sym (renumbered_ids ids₀), inv.is ∙ ap length o ∙ sym (renumbered_count ids₀))

    module _ (h : v < length ids₀) where
      abbrev x : ℕ
      x = get_or ids v 0

      next : drop v ids₀ ≡ x ∷ drop (suc v) ids₀
      next = drop-cons ids₀ v 0 h ∙ ap (λ y. y ∷ drop (suc v) ids₀) (sym (inv.rest v (omega arith)))

      rest_after : (a k : ℕ) → v + 1 ≤ k → get_or (set ids v a) k 0 ≡ get_or ids₀ k 0
      rest_after a k p = get_or-set_other ids v k a 0 (λ e. omega arith) ∙ inv.rest k (omega arith)

      given_after : (seen' : List ℕ) (a : ℕ) → numbers_from inv.seen (x ∷ drop (suc v) ids₀) ≡ a ∷ numbers_from seen' (drop (suc v) ids₀) →
          take (v + 1) (set ids v a) ++ numbers_from seen' (drop (v + 1) ids₀) ≡ numbers_from [] ids₀
      given_after seen' a e =
          rw (add-one v, take-suc-set ids v a (omega arith))
          (append_snoc (take v ids) a (numbers_from seen' (drop (suc v) ids₀)) ∙ ap (λ r. take v ids ++ r) (sym e) ∙ ap (λ r. take v ids ++ numbers_from inv.seen r) (sym next) ∙ inv.given)

      order_after : (seen' : List ℕ) → firsts inv.seen (x ∷ drop (suc v) ids₀) ≡ firsts seen' (drop (suc v) ids₀) → firsts seen' (drop (v + 1) ids₀) ≡ firsts [] ids₀
      order_after seen' e = rw (add-one v) (sym e ∙ ap (firsts inv.seen) (sym next) ∙ inv.order)

      module _ (low : x < length table) where
        pub number_old : (get_or table x 0 ≡ 0 → ⊥) → Numbering ids₀ (set ids v (get_or table x 0 - 1)) table count (v + 1)
        number_old z =
            let m = marked x inv.seen (λ e. z (inv.marks x low ∙ e)) in
            let p : get_or table x 0 - 1 ≡ place x inv.seen = ap (λ k. k - 1) (inv.marks x low) ∙ m.1 in
            record {
              seen = inv.seen;
              is = inv.is;
              few = omega (arith, inv.few);
              rest = rest_after (get_or table x 0 - 1);
              marks = inv.marks;
              given = given_after inv.seen (get_or table x 0 - 1) (numbers_old inv.seen x (drop (suc v) ids₀) m.0 ∙ ap (λ a. a ∷ numbers_from inv.seen (drop (suc v) ids₀)) (sym p));
              order = order_after inv.seen (firsts_old inv.seen x (drop (suc v) ids₀) m.0);
            }

        marks_after : has x inv.seen ≡ false → (y : ℕ) → y < length table → get_or (set table x (count + 1)) y 0 ≡ mark y (inv.seen ++ (x ∷ []))
        marks_after m y q = by_test (eqb y x)
            (λ e.
            let s : y ≡ x = eqb-true y x e in
            let r : length inv.seen ≡ count = sym inv.is in
            rw (s, mark_new x inv.seen m, r, ← add-one count) (get_or-set_same table x (count + 1) 0 low))
            (λ e.
            let d : y ≡ x → ⊥ = eqb-false y x e in
            get_or-set_other table x y (count + 1) 0 d ∙ inv.marks y q ∙ sym (mark_other y x inv.seen d))

        pub number_new : get_or table x 0 ≡ 0 → Numbering ids₀ (set ids v (count + 1 - 1)) (set table x (count + 1)) (count + 1) (v + 1)
        number_new z =
            let m : has x inv.seen ≡ false = unmarked x inv.seen (sym (inv.marks x low) ∙ z) in
            let p : length inv.seen ≡ count + 1 - 1 = omega (arith, inv.is) in
            let seen' : List ℕ = inv.seen ++ (x ∷ []) in
            record {
              seen = seen';
              is = simp length-append (omega (arith, inv.is));
              few = omega (arith, inv.few);
              rest = rest_after (count + 1 - 1);
              marks = λ y q. marks_after m y (rw lib.ListN.length-set at q);
              given = given_after seen' (count + 1 - 1) (numbers_new inv.seen x (drop (suc v) ids₀) m ∙ ap (λ a. a ∷ numbers_from seen' (drop (suc v) ids₀)) p);
              order = order_after seen' (firsts_new inv.seen x (drop (suc v) ids₀) m);
            }
