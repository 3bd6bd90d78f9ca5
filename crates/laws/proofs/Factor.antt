-- What the entries of a factor are. Left of the diagonal each is what is left of the matrix's, over the diagonal entry of its column; on the diagonal it is the root of its
-- pivot, which passed the test; and every place outside the lower triangle keeps what it held. A row that is made does not change any more, so one induction over the rows
-- (`factor_induct`) gives all of it.
use mathlib.Core.Path.{◌≡◌, refl, sym, ap, ◌∙◌, subst}
use mathlib.Core.Logic.{◌⊎◌, inl, inr}
use mathlib.Core.Bool.{Bool, true, false, not}
use mathlib.Core.List.{List}
use Prim.Native.Nat.{ℕ, zero, suc, ◌+◌, ◌-◌, ◌≤◌, ◌<◌}
use native.Mathlib.Nat.{zero-add, not-suc-le-zero, le_refl, le_trans, le_of_lt, lt_of_le_of_lt, lt_irrefl, le_of_suc-le-suc, eq-or-lt_of_le, add-suc}
use native.Mathlib.Omega.{arith}
use lib.Dec.{T, ltb, ltb→lt, nltb→le}
use lib.ListN.{length, get_or, set, replicate, length-set, length-replicate}
use lib.Seq.{get_or-set_same, get_or-set_other}
use lib.Ieee.{Float, nan}
use Rattle.definitions.specs.Numbers.{◌*ᶠ◌, ◌/ᶠ◌, rootᶠ, zeroᶠ, oneᶠ, pivot_tol, larger, largest, reduced, above, usable}
use Rattle.definitions.specs.Refusal.{Outcome, refused, done}
use Rattle.definitions.specs.Factor.{entry, products, rest, below_diagonal, factor_rows}
use Rattle.definitions.specs.Coarse.{packed, packed_length, coarse_factor, entry_in}
use Rattle.definitions.specs.declared.Refusal.{Refusal}
use Rattle.definitions.specs.declared.Refusal.TheVariants.{CoarseScale, CoarsePivot}
use Rattle.laws.proofs.Lists.{tab_cong}
use Rattle.laws.proofs.Outcomes.{done_inj, refused_not_done, test_passed}
use Rattle.laws.proofs.Packed.{tri_row}

-- the places of the lower triangle of n rows are different, and all below `size`
pub record Placing (place : ℕ → ℕ → ℕ) (n size : ℕ) : Type 0 where
  pub apart : (i j k m : ℕ) → j ≤ i → i < n → m ≤ k → k < n → place i j ≡ place k m → (i ≡ k) × (j ≡ m)
  pub inside : (i j : ℕ) → j ≤ i → i < n → place i j < size

-- the first n rows of l are those of the factor of a
pub record Rows (place : ℕ → ℕ → ℕ) (a : ℕ → ℕ → Float) (tol : Float) (n : ℕ) (l : List Float) : Type 0 where
  pub left : (i j : ℕ) → i < n → j < i → entry place l i j ≡ rest place a l i j /ᶠ entry place l j j
  pub diagonal : (i : ℕ) → i < n → entry place l i i ≡ rootᶠ (rest place a l i i)
  pub pivot : (i : ℕ) → i < n → T (above tol (rest place a l i i))

-- ---- one induction over the rows

module _ (place : ℕ → ℕ → ℕ) (a : ℕ → ℕ → Float) where
  -- the pivot of row i, and the list with row i, both from one that has the rows before
  abbrev pub pivot_of : ℕ → List Float → Float
  pivot_of i l = rest place a (below_diagonal place a i i l) i i

  abbrev pub with_row : ℕ → List Float → List Float
  with_row i l = set (below_diagonal place a i i l) (place i i) (rootᶠ (pivot_of i l))

  pub factor_induct : (bad : ℕ → Refusal) (tol : Float) (n : ℕ) (P : ℕ → List Float → Type 0)
      → ((i : ℕ) (l : List Float) → i < n → T (above tol (pivot_of i l)) → P i l → P (suc i) (with_row i l))
      → (left i : ℕ) (l m : List Float) → i + left ≡ n → P i l → factor_rows place bad a tol left i l ≡ done m → P n m
  unfolding factor_rows
  factor_induct bad tol n P step zero i l m e p d = subst (λ (x : List Float). P n x) (done_inj d) (subst (λ (x : ℕ). P x l) (flat i n e) p)
    where
      flat : (x y : ℕ) → x + 0 ≡ y → x ≡ y
      flat x y u = omega arith
  factor_induct bad tol n P step (suc left) i l m e p d = go (above tol (pivot_of i l)) (λ t. t) (λ q u. factor_induct bad tol n P step left (suc i) (with_row i l) m (at i left n e) q u) d
    where
      at : (x y z : ℕ) → x + suc y ≡ z → suc x + y ≡ z
      at x y z u = omega arith

      room : (x y z : ℕ) → x + suc y ≡ z → x < z
      room x y z u = omega arith

      go : (b : Bool) → (T b → T (above tol (pivot_of i l))) → (P (suc i) (with_row i l) → factor_rows place bad a tol left (suc i) (with_row i l) ≡ done m → P n m)
          → ◌≡◌ {A = Outcome (List Float)} (elim b [ true ↦ factor_rows place bad a tol left (suc i) (with_row i l) | false ↦ refused (bad i) ]) (done m)
          → P n m
      go true f ih u = ih (step i l (room i left n e) (f tt) p) u
      go false f ih u = absurd (refused_not_done u)

  pub left_length : (i j : ℕ) (l : List Float) → length (below_diagonal place a i j l) ≡ length l
  unfolding below_diagonal
  left_length i zero l = refl
  left_length i (suc j) l = let m = below_diagonal place a i j l in length-set m (place i j) (rest place a m i j /ᶠ entry place m j j) ∙ left_length i j l

  with_length : (i : ℕ) (l : List Float) → length (with_row i l) ≡ length l
  with_length i l = length-set (below_diagonal place a i i l) (place i i) (rootᶠ (pivot_of i l)) ∙ left_length i i l

  -- its length does not change
  pub factor_length : (bad : ℕ → Refusal) (tol : Float) (n : ℕ) (l m : List Float) → factor_rows place bad a tol n 0 l ≡ done m → length m ≡ length l
  factor_length bad tol n l m d = factor_induct bad tol n (λ i x. length x ≡ length l) (λ i x h t e. with_length i x ∙ e) n 0 l m (zero-add n) refl d

  -- nor does what stands outside the lower triangle
  pub factor_outside : (bad : ℕ → Refusal) (tol : Float) (n p : ℕ) (d : Float) (l m : List Float) → ((i j : ℕ) → j ≤ i → i < n → p ≡ place i j → ⊥)
      → factor_rows place bad a tol n 0 l ≡ done m → get_or m p d ≡ get_or l p d
  unfolding below_diagonal
  factor_outside bad tol n p d l m out u =
      factor_induct bad tol n (λ i x. get_or x p d ≡ get_or l p d)
      (λ i x h t e. get_or-set_other (below_diagonal place a i i x) (place i i) p (rootᶠ (pivot_of i x)) d (out i i (le_refl i) h) ∙ beside i i x h (le_refl i) ∙ e) n 0 l m (zero-add n) refl u
    where
      beside : (i j : ℕ) (x : List Float) → i < n → j ≤ i → get_or (below_diagonal place a i j x) p d ≡ get_or x p d
      beside i zero x h g = refl
      beside i (suc j) x h g =
          let y = below_diagonal place a i j x in
          get_or-set_other y (place i j) p (rest place a y i j /ᶠ entry place y j j) d (out i j (le_of_lt g) h) ∙ beside i j x h (le_of_lt g)

  -- ---- what is left turns on the entries of two rows left of the column

  rest_agree : (l m : List Float) (i j : ℕ) → ((k : ℕ) → k < j → entry place l i k ≡ entry place m i k) → ((k : ℕ) → k < j → entry place l j k ≡ entry place m j k)
      → rest place a l i j ≡ rest place a m i j
  unfolding rest products
  rest_agree l m i j p q =
      ap (λ (t : List Float). reduced (a i j) t)
      (tab_cong (λ k. entry place l i k *ᶠ entry place l j k) (λ k. entry place m i k *ᶠ entry place m j k) j
      (λ k h. ap (λ (x : Float). x *ᶠ entry place l j k) (p k h) ∙ ap (λ (x : Float). entry place m i k *ᶠ x) (q k h)))

  left_agree : (l m : List Float) (i j : ℕ) → ((k : ℕ) → k ≤ j → entry place l i k ≡ entry place m i k) → ((k : ℕ) → k ≤ j → entry place l j k ≡ entry place m j k)
      → entry place l i j ≡ rest place a l i j /ᶠ entry place l j j → entry place m i j ≡ rest place a m i j /ᶠ entry place m j j
  left_agree l m i j p q e =
      sym (p j (le_refl j)) ∙ e ∙ ap (λ (x : Float). x /ᶠ entry place l j j) (rest_agree l m i j (λ k h. p k (le_of_lt h)) (λ k h. q k (le_of_lt h)))
      ∙ ap (λ (x : Float). rest place a m i j /ᶠ x) (q j (le_refl j))

  -- two lists with the same lower triangle
  pub rows_agree : (tol : Float) (n : ℕ) (l m : List Float) → ((i j : ℕ) → i < n → j ≤ i → entry place l i j ≡ entry place m i j) → Rows place a tol n l → Rows place a tol n m
  rows_agree tol n l m same r = record {
    left = λ i j h g. left_agree l m i j (λ k t. same i k h (le_trans t (le_of_lt g))) (λ k t. same j k (le_trans g (le_of_lt h)) t) (r.left i j h g);
    diagonal = λ i h. sym (same i i h (le_refl i)) ∙ r.diagonal i h ∙ ap rootᶠ (own i h);
    pivot = λ i h. subst (λ (x : Float). T (above tol x)) (own i h) (r.pivot i h);
  }
    where
      own : (i : ℕ) → i < n → rest place a l i i ≡ rest place a m i i
      own i h = rest_agree l m i i (λ k t. same i k h (le_of_lt t)) (λ k t. same i k h (le_of_lt t))

-- two matrices with the same lower half
pub rows_same : (place : ℕ → ℕ → ℕ) (a b : ℕ → ℕ → Float) (tol : Float) (n : ℕ) (l : List Float) → ((i j : ℕ) → i < n → j ≤ i → a i j ≡ b i j) → Rows place a tol n l
    → Rows place b tol n l
unfolding rest
rows_same place a b tol n l same r = record {
  left = λ i j h g. r.left i j h g ∙ ap (λ (x : Float). x /ᶠ entry place l j j) (at i j h (le_of_lt g));
  diagonal = λ i h. r.diagonal i h ∙ ap rootᶠ (at i i h (le_refl i));
  pivot = λ i h. subst (λ (x : Float). T (above tol x)) (at i i h (le_refl i)) (r.pivot i h);
}
  where
    at : (i j : ℕ) → i < n → j ≤ i → rest place a l i j ≡ rest place b l i j
    at i j h g = ap (λ (x : Float). reduced x (products place l i j)) (same i j h g)

-- ---- the rows, one by one

module _ (place : ℕ → ℕ → ℕ) (n size : ℕ) (D : Placing place n size) (a : ℕ → ℕ → Float) where
  set_other : (m : List Float) (v : Float) (i j k p : ℕ) → j ≤ i → i < n → p ≤ k → k < n → ((k ≡ i) × (p ≡ j) → ⊥) → entry place (set m (place i j) v) k p ≡ entry place m k p
  set_other m v i j k p h hn g gn ne = get_or-set_other m (place i j) (place k p) v nan (λ e. ne (D.apart k p i j g gn h hn e))

  -- earlier rows stay
  left_earlier : (i j : ℕ) (l : List Float) → i < n → j ≤ i → (k p : ℕ) → p ≤ k → k < i → entry place (below_diagonal place a i j l) k p ≡ entry place l k p
  unfolding below_diagonal
  left_earlier i zero l hn h k p g t = refl
  left_earlier i (suc j) l hn h k p g t =
      let m = below_diagonal place a i j l in
      set_other m (rest place a m i j /ᶠ entry place m j j) i j k p (le_of_lt h) hn g (le_trans t (le_of_lt hn)) (λ e. lt_irrefl i (subst (λ (x : ℕ). x < i) e.0 t))
      ∙ left_earlier i j l hn (le_of_lt h) k p g t

  -- an entry of the row, once made, stays
  left_stays : (i j d : ℕ) (l : List Float) → i < n → j + suc d ≤ i → entry place (below_diagonal place a i (j + suc d) l) i j ≡ entry place (below_diagonal place a i (suc j) l) i j
  unfolding below_diagonal
  left_stays i j zero l hn h = ap (λ (x : ℕ). entry place (below_diagonal place a i x l) i j) (one j)
    where
      one : (x : ℕ) → x + suc 0 ≡ suc x
      one x = omega arith
  left_stays i j (suc d) l hn h =
      ap (λ (x : ℕ). entry place (below_diagonal place a i x l) i j) (add-suc j (suc d)) ∙ next (j + suc d) (far j d) (less j d h)
      ∙ left_stays i j d l hn (less j d h)
    where
      far : (x y : ℕ) → x < x + suc y
      far x y = omega arith

      less : (x y : ℕ) → x + suc (suc y) ≤ i → x + suc y ≤ i
      less x y g = omega arith

      next : (x : ℕ) → j < x → x ≤ i → entry place (below_diagonal place a i (suc x) l) i j ≡ entry place (below_diagonal place a i x l) i j
      next x g t =
          let m = below_diagonal place a i x l in
          set_other m (rest place a m i x /ᶠ entry place m x x) i x i j t hn (le_trans (le_of_lt g) t) hn (λ e. lt_irrefl x (subst (λ (y : ℕ). y < x) e.1 g))

  left_keeps : (i j k : ℕ) (l : List Float) → i < n → j < k → k ≤ i → entry place (below_diagonal place a i k l) i j ≡ entry place (below_diagonal place a i (suc j) l) i j
  left_keeps i j k l hn h g = subst (λ (x : ℕ). entry place (below_diagonal place a i x l) i j ≡ entry place (below_diagonal place a i (suc j) l) i j) (gap j k h) (left_stays i j (k - suc j) l hn (subst (λ (x : ℕ). x ≤ i) (sym (gap j k h)) g))
    where
      gap : (x y : ℕ) → x < y → x + suc (y - suc x) ≡ y
      gap x y t = omega arith

  -- the row i that `below_diagonal` makes
  left_row : (i j : ℕ) (l : List Float) → length l ≡ size → i < n → j < i
      → entry place (below_diagonal place a i i l) i j ≡ rest place a (below_diagonal place a i i l) i j /ᶠ entry place (below_diagonal place a i i l) j j
  unfolding below_diagonal
  left_row i j l len h g =
      let m = below_diagonal place a i i l in
      let p = below_diagonal place a i j l in
      left_keeps i j i l h g (le_refl i) ∙ made ∙ ap (λ (x : Float). x /ᶠ entry place p j j) same_rest ∙ ap (λ (x : Float). rest place a m i j /ᶠ x) (row_j j (le_refl j))
    where
      made : entry place (below_diagonal place a i (suc j) l) i j ≡ rest place a (below_diagonal place a i j l) i j /ᶠ entry place (below_diagonal place a i j l) j j
      made =
          let p = below_diagonal place a i j l in
          get_or-set_same p (place i j) (rest place a p i j /ᶠ entry place p j j) nan (subst (λ (x : ℕ). place i j < x) (sym (left_length place a i j l ∙ len)) (D.inside i j (le_of_lt g) h))

      row_j : (k : ℕ) → k ≤ j → entry place (below_diagonal place a i j l) j k ≡ entry place (below_diagonal place a i i l) j k
      row_j k t = left_earlier i j l h (le_of_lt g) j k t g ∙ sym (left_earlier i i l h (le_refl i) j k t g)

      same_rest : rest place a (below_diagonal place a i j l) i j ≡ rest place a (below_diagonal place a i i l) i j
      same_rest =
          rest_agree place a (below_diagonal place a i j l) (below_diagonal place a i i l) i j
          (λ k t. left_keeps i k j l h t (le_of_lt g) ∙ sym (left_keeps i k i l h (le_trans t (le_of_lt g)) (le_refl i))) (λ k t. row_j k (le_of_lt t))

  -- with row i, the rows up to it hold
  row_done : (tol : Float) (i : ℕ) (l : List Float) → length l ≡ size → i < n → T (above tol (pivot_of place a i l)) → Rows place a tol i l → Rows place a tol (suc i) (with_row place a i l)
  row_done tol i l len h above-tol r = record {
    left = λ k j g t. by_row (λ x. (p : ℕ) → p < x → entry place new x p ≡ rest place a new x p /ᶠ entry place new p p) old_left (λ p u. row_left p u) k g j t;
    diagonal = λ k g. by_row (λ x. entry place new x x ≡ rootᶠ (rest place a new x x)) old.diagonal (set_here ∙ ap rootᶠ own) k g;
    pivot = λ k g. by_row (λ x. T (above tol (rest place a new x x))) old.pivot (subst (λ (x : Float). T (above tol x)) own above-tol) k g;
  }
    where
      mid : List Float
      mid = below_diagonal place a i i l

      new : List Float
      new = with_row place a i l

      by_row : (P : ℕ → Type 0) → ((k : ℕ) → k < i → P k) → P i → (k : ℕ) → k < suc i → P k
      by_row P f p k g = pick (eq-or-lt_of_le (le_of_suc-le-suc g))
        where
          pick : (k ≡ i) ⊎ (k < i) → P k
          pick (inl e) = subst P (sym e) p
          pick (inr t) = f k t

      off : (x p : ℕ) → p ≤ x → x < n → ((x ≡ i) × (p ≡ i) → ⊥) → entry place mid x p ≡ entry place new x p
      off x p u w ne = sym (set_other (below_diagonal place a i i l) (rootᶠ (pivot_of place a i l)) i i x p (le_refl i) h u w ne)

      before : (x p : ℕ) → x < i → p ≤ x → entry place l x p ≡ entry place new x p
      before x p w u = sym (left_earlier i i l h (le_refl i) x p u w) ∙ off x p u (le_trans w (le_of_lt h)) (λ e. lt_irrefl i (subst (λ (y : ℕ). y < i) e.0 w))

      beside : (p : ℕ) → p < i → entry place mid i p ≡ entry place new i p
      beside p u = off i p (le_of_lt u) h (λ e. lt_irrefl i (subst (λ (y : ℕ). y < i) e.1 u))

      old : Rows place a tol i new
      old = rows_agree place a tol i l new before r

      old_left : (k : ℕ) → k < i → (p : ℕ) → p < k → entry place new k p ≡ rest place a new k p /ᶠ entry place new p p
      old_left k g p t = old.left k p g t

      row_left : (p : ℕ) → p < i → entry place new i p ≡ rest place a new i p /ᶠ entry place new p p
      row_left p u =
          left_agree place a mid new i p (λ k t. beside k (lt_of_le_of_lt t u))
          (λ k t. off p k t (le_trans u (le_of_lt h)) (λ e. lt_irrefl i (subst (λ (y : ℕ). y < i) e.0 u))) (left_row i p l len h u)

      own : pivot_of place a i l ≡ rest place a new i i
      own = rest_agree place a mid new i i beside beside

      set_here : entry place new i i ≡ rootᶠ (pivot_of place a i l)
      set_here = get_or-set_same (below_diagonal place a i i l) (place i i) (rootᶠ (pivot_of place a i l)) nan (subst (λ (x : ℕ). place i i < x) (sym (left_length place a i i l ∙ len)) (D.inside i i (le_refl i) h))

  -- THE LAW: the rows of a factor that is accepted
  pub factor_rows_lem : (bad : ℕ → Refusal) (tol : Float) (l m : List Float) → length l ≡ size → factor_rows place bad a tol n 0 l ≡ done m → Rows place a tol n m
  factor_rows_lem bad tol l m len d =
      (factor_induct place a bad tol n (λ i x. (length x ≡ size) × Rows place a tol i x)
      (λ i x h t p. (with_length place a i x ∙ p.0, row_done tol i x p.0 h t p.1)) n 0 l m (zero-add n)
      (len, record { left = λ i j h g. absurd (not-suc-le-zero h); diagonal = λ i h. absurd (not-suc-le-zero h); pivot = λ i h. absurd (not-suc-le-zero h) }) d).1

-- ---- the packed triangle

-- starts that are at least a row apart
clash : (x j i y m : ℕ) → j ≤ i → x + suc i ≤ y → x + j ≡ y + m → ⊥
clash x j i y m h g e = omega arith

cancel : (x j m : ℕ) → x + j ≡ x + m → j ≡ m
cancel x j m e = omega arith

both : (i k : ℕ) → k ≤ i → i ≤ k → i ≡ k
both i k h g = omega arith

-- rows of any growing lengths: the place starts x(i) + j, of a j up to the row's last column e(i)
module _ (start last : ℕ → ℕ) (gap : (i k : ℕ) → i < k → start i + suc (last i) ≤ start k) where
  pub starts_apart : (i j k m : ℕ) → j ≤ last i → m ≤ last k → start i + j ≡ start k + m → (i ≡ k) × (j ≡ m)
  starts_apart i j k m h g e = go (ltb i k) (ltb→lt i k) (nltb→le i k) (ltb k i) (ltb→lt k i) (nltb→le k i)
    where
      go : (b : Bool) → (T b → i < k) → (T (not b) → k ≤ i) → (d : Bool) → (T d → k < i) → (T (not d) → i ≤ k) → (i ≡ k) × (j ≡ m)
      go true p q d r s = absurd (clash (start i) j (last i) (start k) m h (gap i k (p tt)) e)
      go false p q true r s = absurd (clash (start k) m (last k) (start i) j g (gap k i (r tt)) (sym e))
      go false p q false r s =
          let f = both i k (q tt) (s tt) in
          (f, cancel (start i) j m (e ∙ ap (λ (x : ℕ). start x + m) (sym f)))

pub packed_placing : (n : ℕ) → Placing packed n (packed_length n)
packed_placing n = record { apart = λ i j k m h hn g gn e. starts_apart (λ i. packed_length i) (λ i. i) tri_row i j k m h g e; inside = λ i j h g. omega (arith, tri_row i n g) }

-- ---- the coarse factor

pub coarse_rows : (c : ℕ) (m l : List Float) → coarse_factor c m ≡ done l → Rows packed (entry_in m c) (pivot_tol *ᶠ larger (largest m) oneᶠ) c l
unfolding coarse_factor
coarse_rows c m l e =
    factor_rows_lem packed c (packed_length c) (packed_placing c) (entry_in m c) (λ i. CoarsePivot i) (pivot_tol *ᶠ larger (largest m) oneᶠ) (replicate (packed_length c) zeroᶠ) l
    (length-replicate (packed_length c) zeroᶠ) (test_passed (usable (largest m)) CoarseScale _ l e).1

pub coarse_factor_length : (c : ℕ) (m l : List Float) → coarse_factor c m ≡ done l → length l ≡ packed_length c
unfolding coarse_factor
coarse_factor_length c m l e =
    factor_length packed (entry_in m c) (λ i. CoarsePivot i) (pivot_tol *ᶠ larger (largest m) oneᶠ) c (replicate (packed_length c) zeroᶠ) l (test_passed (usable (largest m)) CoarseScale _ l e).1
    ∙ length-replicate (packed_length c) zeroᶠ
