-- The lists of all nodes, one after the other.
use mathlib.Core.Path.{◌≡◌, refl, ap, sym, ◌∙◌}
use mathlib.Core.Bool.{Bool}
use mathlib.Core.List.{List, [], ◌∷◌, ◌++◌, flat_map, append_assoc, append-nil}
use Prim.Native.Nat.{ℕ, zero, suc, ◌+◌, ◌*◌, ◌≤◌, ◌<◌}
use native.Mathlib.Omega.{arith}
use native.Mathlib.Numerals.{add-one}
use borrow.Author.Tests.{eqb-true, eqb-false}
use lib.Dec.{eqb}
use lib.ListN.{length, get_or, set, take, drop, length-append, length-drop}
use lib.Seq.{length-take-le, get_or-set_same, get_or-set_other}
use lib.Ieee.{Float}
use Rattle.definitions.specs.Lists.{tab, joined_lists}
use Rattle.definitions.specs.Matrix.{Matrix, csr}
use Rattle.laws.proofs.Growing.{tab_snoc}
use Rattle.adjacency.specs.WellFormed.{WellFormed}
use Rattle.adjacency.specs.Lined.{joined_up_to, Lined}
use Rattle.adjacency.specs.Lists.{list_of, Between, Listed}
use Rattle.adjacency.proofs.Laws.{by_case}
use Rattle.adjacency.proofs.Rows.{span_within}

joined_append : (xs ys : List (List ℕ)) → joined_lists (xs ++ ys) ≡ joined_lists xs ++ joined_lists ys
unfolding flat_map
joined_append [] ys = refl
joined_append (x ∷ xs) ys = ap (λ l. x ++ l) (joined_append xs ys) ∙ sym (append_assoc x (joined_lists xs) (joined_lists ys))

joined_one : (x : List ℕ) → joined_lists (x ∷ []) ≡ x
unfolding flat_map
joined_one x = append-nil x

module _ (f : ℕ → List ℕ) where
  pub joined_more : (v : ℕ) → joined_up_to f (v + 1) ≡ joined_up_to f v ++ f v
  joined_more v = rw (add-one v, tab_snoc f v, joined_append (tab f v) (f v ∷ []), joined_one (f v))

  pub joined_none : joined_up_to f 0 ≡ []
  unfolding tab flat_map
  joined_none = refl

  pub lined_first : (offsets names : List ℕ) → 0 < length offsets → Lined f 0 0 (set offsets 0 0) names
  lined_first offsets names h = record {
    ends = rw joined_none;
    list = rw joined_none;
    starts = λ u q. let z : u ≡ 0 = omega arith in rw (z, joined_none) (get_or-set_same offsets 0 0 0 h);
    fits = omega arith;
  }

  -- node v's list, and then the offset after it
  pub lined_more : {v at : ℕ} {offsets names : List ℕ} (count : ℕ) (new : List ℕ) → Lined f v at offsets names → v + 1 < length offsets → take count new ≡ f v → count ≡ length (f v) → count ≤ length new
      → Lined f (v + 1) (at + count) (set offsets (v + 1) (at + count)) (take at names ++ new)
  lined_more {v} {at} {offsets} {names} count new n h q c l =
      let e : at + count ≡ length (joined_up_to f (v + 1)) = omega (arith, c, n.ends, ap length (joined_more v), length-append (joined_up_to f v) (f v)) in
      let t : length (take at names) ≡ at = length-take-le at names n.fits in
      record {
        ends = e;
        list = take_both at count (take at names) new t ∙ rw (q, n.list) (sym (joined_more v));
        starts = λ u p. by_case (eqb u (v + 1))
            (λ o. let z : u ≡ v + 1 = eqb-true u (v + 1) o in rw z (get_or-set_same offsets (v + 1) (at + count) 0 h ∙ e))
            (λ o. let z = eqb-false u (v + 1) o in get_or-set_other offsets (v + 1) u (at + count) 0 z ∙ n.starts u (omega (arith, z)));
        fits = omega (arith, length-append (take at names) new, t);
      }
    where
      take_both : (m n : ℕ) (x y : List ℕ) → length x ≡ m → take (m + n) (x ++ y) ≡ x ++ take n y
      take_both zero n [] y e = let p : zero + n ≡ n = omega arith in rw p
      take_both zero n (z ∷ x) y e = absurd (omega arith)
      take_both (suc m) n [] y e = absurd (omega arith)
      take_both (suc m) n (z ∷ x) y e = let p : suc m + n ≡ suc (m + n) = omega arith in rw p (ap (λ l. z ∷ l) (take_both m n x y (omega arith)))

-- the loop over the nodes
pub record Graphed (strong : Bool) (a : Matrix) (size nodes v at : ℕ) (stamps offsets names : List ℕ) (sums strengths : List Float) : Type 0 where
  pub between : Between strong nodes v stamps sums strengths
  pub lined : Lined (list_of strong a size nodes) v at offsets names
  pub used : at ≤ get_or a.row_ptr (v * size) 0

pub graphed_first : {strong : Bool} {a : Matrix} {size nodes : ℕ} {stamps : List ℕ} (offsets names : List ℕ) {sums strengths : List Float} → Between strong nodes 0 stamps sums strengths → 0 < length offsets
    → Graphed strong a size nodes 0 0 stamps (set offsets 0 0) names sums strengths
graphed_first {strong} {a} {size} {nodes} offsets names b h = record { between = b; lined = lined_first (list_of strong a size nodes) offsets names h; used = omega arith }

module _ {strong : Bool} {nodes size : ℕ} {ptr cols : List ℕ} {vals : List Float} (w : WellFormed strong nodes size ptr cols vals) where
  abbrev a : Matrix
  a = csr (nodes * size) (nodes * size) ptr cols vals

  module _ {v at : ℕ} {stamps offsets names : List ℕ} {sums strengths : List Float} (g : Graphed strong a size nodes v at stamps offsets names sums strengths) (h : v < nodes) (long : length cols ≤ length names) where
    module _ (count : ℕ) (new stamps₁ : List ℕ) (sums₁ strengths₁ : List Float) (l : Listed strong a size nodes v count new stamps₁ sums₁ strengths₁) where
      pub graphed_more : v + 1 < length offsets → length new ≡ length (drop at names) → (names₁ : List ℕ) → names₁ ≡ take at names ++ new → Graphed strong a size nodes (v + 1) (at + count) stamps₁ (set offsets (v + 1) (at + count)) names₁ sums₁ strengths₁
      graphed_more i m names₁ e = record {
        between = l.next;
        lined = rw e (lined_more (list_of strong a size nodes) count new g.lined i l.list l.long (omega (arith, m, length-drop at names, l.most, g.used, span_within w h)));
        used = omega (arith, l.most, g.used);
      }
