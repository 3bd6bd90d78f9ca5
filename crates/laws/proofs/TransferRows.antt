-- A row of the transfer has no more weights than the matrix row has entries, and one: every weight that is not zero stands at the row's own coarse column or at that of an entry.
use mathlib.Core.Path.{◌≡◌, refl, sym, ap, ◌∙◌, subst}
use mathlib.Core.Bool.{Bool, true, false, not, cond}
use mathlib.Core.List.{List, [], ◌∷◌, map, zip_with}
use Prim.Native.Nat.{ℕ, suc, ◌-◌, ◌≤◌, min}
use native.Mathlib.Nat.{le_trans, le_refl}
use native.Mathlib.Omega.{arith}
use lib.Dec.{T, eqb, eqb→eq, not_T}
use lib.ListN.{length, get_or, take, length-map, length-take, length-drop}
use lib.Seq.{slice}
use lib.Ieee.{Float, nan, ne, eq, of_bits}
use lib.Ieee.Fits.{eq→eqb}
use Rattle.definitions.specs.Lists.{tab, keep, any}
use Rattle.definitions.specs.Numbers.{◌*ᶠ◌, ◌/ᶠ◌, zeroᶠ, oneᶠ, reduced}
use Rattle.definitions.specs.Matrix.{Matrix, Entry, row_of, entries_of, values_where}
use Rattle.definitions.specs.Transfer.{coarse_column, tentative, smoothing_terms, weight_at, transfer_row}
use Rattle.laws.proofs.Lists.{Each, each_head, each_tail, each_unmap, any_none, keep_none}
use Rattle.laws.proofs.Counting.{keep_count}

-- ---- weights that are zero

pub none_where : (p : ℕ → Bool) (row : List Entry) → Each (λ e. T (not (p e.col))) row → values_where p row ≡ []
unfolding values_where
none_where p row h = ap (λ (es : List Entry). map (λ e. e.value) es) (keep_none (λ e. p e.col) h)

pub zero_not_kept : T (ne zeroᶠ zeroᶠ) → ⊥
unfolding ne eq of_bits
zero_not_kept t = t

-- a weight that starts at 0 and has nothing taken off
pub weight_zero : (a : Matrix) (size : ℕ) (ids : List ℕ) (d : List Float) (damping : Float) (i j : ℕ) → Each (λ e. T (not (eqb (coarse_column size ids e.col) j))) (entries_of a i)
    → T (not (eqb j (coarse_column size ids i))) → weight_at a d damping size ids i j ≡ zeroᶠ
unfolding weight_at reduced tentative smoothing_terms
weight_zero a size ids d damping i j h n =
    ap (λ (vs : List Float). reduced (tentative size ids i j) (map (λ v. damping *ᶠ v *ᶠ (oneᶠ /ᶠ get_or d i nan)) vs)) (none_where (λ c. eqb (coarse_column size ids c) j) (entries_of a i) h)
    ∙ elsewhere (eqb j (coarse_column size ids i)) n
  where
    elsewhere : (b : Bool) → T (not b) → cond b oneᶠ zeroᶠ ≡ zeroᶠ
    elsewhere true k = absurd k
    elsewhere false k = refl

-- ---- how many weights

pub row_short : (a : Matrix) (size : ℕ) (ids : List ℕ) (d : List Float) (damping : Float) (c i : ℕ) → length (transfer_row a d damping size ids c i) ≤ suc (length (entries_of a i))
unfolding transfer_row
row_short a size ids d damping c i =
    subst (λ (n : ℕ). length {A = Entry} (keep (λ e. ne e.value zeroᶠ) (tab (λ j. record { col = j; value = weight_at a d damping size ids i j }) c)) ≤ suc n) (length-map (entries_of a i) (λ e. coarse_column size ids e.col))
    (keep_count (λ e. ne e.value zeroᶠ) (λ j. record { col = j; value = weight_at a d damping size ids i j }) c (coarse_column size ids i ∷ map (λ e. coarse_column size ids e.col) (entries_of a i)) (λ j l t. named j t))
  where
    columns : List ℕ
    columns = coarse_column size ids i ∷ map (λ e. coarse_column size ids e.col) (entries_of a i)

    named : (j : ℕ) → T (ne (weight_at a d damping size ids i j) zeroᶠ) → T (any (λ x. eqb x j) columns)
    named j t = go (any (λ x. eqb x j) columns) (any_none (λ x. eqb x j) columns)
      where
        go : (b : Bool) → (T (not b) → Each (λ x. T (not (eqb x j))) columns) → T b
        go true f = tt
        go false f =
            let k = f tt in
            zero_not_kept (subst (λ (x : Float). T (ne x zeroᶠ))
            (weight_zero a size ids d damping i j (each_unmap (λ e. coarse_column size ids e.col) (entries_of a i) (each_tail k))
            (not_T (eqb j (coarse_column size ids i)) (λ u. lib.Dec.T_not (eqb (coarse_column size ids i) j) (each_head k) (eq→eqb (sym (eqb→eq j (coarse_column size ids i) u)))))) t)

zip_short : {A B C : Type 0} (f : A → B → C) (xs : List A) (ys : List B) → length (zip_with f xs ys) ≤ length xs
unfolding zip_with
zip_short f [] ys = le_refl 0
zip_short f (x ∷ xs) [] = omega arith
zip_short f (x ∷ xs) (y ∷ ys) = (native.Mathlib.Nat.suc-le-suc_iff).1 (zip_short f xs ys)

slice_short : {A : Type 0} (s e : ℕ) (xs : List A) → length (slice s e xs) ≤ e - s
slice_short s e xs = subst (λ (n : ℕ). n ≤ e - s) (sym (length-drop s (take e xs) ∙ ap (λ (n : ℕ). n - s) (length-take e xs))) (low e (length xs) s)
  where
    low : (x y z : ℕ) → min x y - z ≤ x - z
    low x y z = omega arith

pub entries_short : (a : Matrix) (i : ℕ) → length (entries_of a i) ≤ get_or a.row_ptr (suc i) 0 - get_or a.row_ptr i 0
unfolding entries_of row_of
entries_short a i =
    let s = get_or a.row_ptr i 0 in
    let e = get_or a.row_ptr (suc i) 0 in
    le_trans (zip_short (λ c v. record { col = c; value = v }) (slice s e a.col_idx) (slice s e a.values)) (slice_short s e a.col_idx)
