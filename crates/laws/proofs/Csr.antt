-- Rows laid end to end, with a pointer to where each starts, are read back as they were: the pointers are the lengths summed up, so the part between two of them is one row.
use mathlib.Core.Path.{◌≡◌, refl, sym, ap, ◌∙◌}
use mathlib.Core.Bool.{Bool, true, false, not, ◌||◌}
use mathlib.Core.List.{List, [], ◌∷◌, ◌++◌, map, flat_map, zip_with, append_assoc}
use Prim.Native.Nat.{ℕ, zero, suc, ◌+◌, ◌<◌}
use native.Mathlib.Nat.{not-suc-le-zero, le_of_suc-le-suc, add-zero, add_assoc}
use native.Mathlib.Omega.{arith}
use lib.Dec.{T, ltb, ltb→lt}
use lib.ListN.{length, get_or, take, drop, length-append, length-map}
use lib.Seq.{take_at, drop_at, slice, take-append-add}
use lib.Ieee.{Float}
use Rattle.definitions.specs.Lists.{pointers_from, falls}
use Rattle.definitions.specs.Matrix.{Entry, row_of}

module _ {A : Type 0} where
  pub pointers_length : (n : ℕ) (rows : List (List A)) → length (pointers_from n rows) ≡ suc (length rows)
  unfolding pointers_from
  pointers_length n [] = refl
  pointers_length n (row ∷ rows) = ap suc (pointers_length (n + length row) rows)

  pub pointers_first : (n d : ℕ) (rows : List (List A)) → get_or (pointers_from n rows) 0 d ≡ n
  unfolding pointers_from
  pointers_first n d [] = refl
  pointers_first n d (row ∷ rows) = refl

  pub pointers_last : (n d : ℕ) (rows : List (List A)) → get_or (pointers_from n rows) (length rows) d ≡ n + length (flat_map (λ row. row) rows)
  unfolding pointers_from flat_map
  pointers_last n d [] = sym (add-zero n)
  pointers_last n d (row ∷ rows) =
      pointers_last (n + length row) d rows ∙ add_assoc n (length row) (length (flat_map (λ r. r) rows))
      ∙ ap (λ (k : ℕ). n + k) (sym (length-append row (flat_map (λ r. r) rows)))

  pub pointers_rise : (n : ℕ) (rows : List (List A)) → T (not (falls (pointers_from n rows)))
  unfolding pointers_from falls
  pointers_rise n [] = tt
  pointers_rise n (row ∷ []) = step (ltb (n + length row) n) (λ t. low n (length row) (ltb→lt (n + length row) n t))
    where
      low : (x y : ℕ) → x + y < x → ⊥
      low x y l = omega arith

      step : (b : Bool) → (T b → ⊥) → T (not (b || false))
      step true f = absurd (f tt)
      step false f = tt
  pointers_rise n (row ∷ (next ∷ rows)) = step (ltb (n + length row) n) (λ t. low n (length row) (ltb→lt (n + length row) n t)) (pointers_rise (n + length row) (next ∷ rows))
    where
      low : (x y : ℕ) → x + y < x → ⊥
      low x y l = omega arith

      step : (b : Bool) → (T b → ⊥) → T (not (falls (pointers_from (n + length row) (next ∷ rows)))) → T (not (b || falls (pointers_from (n + length row) (next ∷ rows))))
      step true f k = absurd (f tt)
      step false f k = k

-- ---- the part between two positions

pub slice_mid : {A : Type 0} (p q r : List A) (n : ℕ) → length p ≡ n → slice n (n + length q) (p ++ (q ++ r)) ≡ q
slice_mid {A} p q r n e =
    ap (λ (k : ℕ). drop n (take (k + length q) (p ++ (q ++ r)))) (sym e)
    ∙ ap (λ (l : List A). drop n l) (take-append-add p (q ++ r) (length q) ∙ ap (λ (l : List A). p ++ l) (take_at q r (length q) refl))
    ∙ drop_at p q n e

abbrev pub columns_of : List (List Entry) → List ℕ
columns_of rows = flat_map (λ row. map (λ e. e.col) row) rows

abbrev pub numbers_of : List (List Entry) → List Float
numbers_of rows = flat_map (λ row. map (λ e. e.value) row) rows

zip_back : (row : List Entry) → zip_with (λ c v. record { col = c; value = v }) (map (λ e. e.col) row) (map (λ e. e.value) row) ≡ row
unfolding zip_with
zip_back [] = refl
zip_back (e ∷ es) = ap (λ (l : List Entry). e ∷ l) (zip_back es)

row_from : (n : ℕ) (cs : List ℕ) (vs : List Float) (rows : List (List Entry)) (i : ℕ) → length cs ≡ n → length vs ≡ n → i < length rows
    → row_of (pointers_from n rows) (cs ++ columns_of rows) (vs ++ numbers_of rows) i ≡ get_or rows i []
unfolding pointers_from flat_map row_of
row_from n cs vs [] i p q h = absurd (not-suc-le-zero h)
row_from n cs vs (row ∷ rows) zero p q h =
    let end = n + length row in
    ap (λ (k : ℕ). zip_with (λ c v. record { col = c; value = v }) (slice n k (cs ++ (map (λ e. e.col) row ++ columns_of rows))) (slice n k (vs ++ (map (λ e. e.value) row ++ numbers_of rows)))) (pointers_first end 0 rows)
    ∙ ap (λ (l : List ℕ). zip_with (λ c v. record { col = c; value = v }) l (slice n end (vs ++ (map (λ e. e.value) row ++ numbers_of rows))))
    (ap (λ (k : ℕ). slice n (n + k) (cs ++ (map (λ e. e.col) row ++ columns_of rows))) (sym (length-map row (λ e. e.col))) ∙ slice_mid cs (map (λ e. e.col) row) (columns_of rows) n p)
    ∙ ap (λ (l : List Float). zip_with (λ c v. record { col = c; value = v }) (map (λ e. e.col) row) l)
    (ap (λ (k : ℕ). slice n (n + k) (vs ++ (map (λ e. e.value) row ++ numbers_of rows))) (sym (length-map row (λ e. e.value))) ∙ slice_mid vs (map (λ e. e.value) row) (numbers_of rows) n q)
    ∙ zip_back row
row_from n cs vs (row ∷ rows) (suc i) p q h =
    ap (λ (l : List ℕ). row_of (pointers_from (n + length row) rows) l (vs ++ (map (λ e. e.value) row ++ numbers_of rows)) i) (sym (append_assoc cs (map (λ e. e.col) row) (columns_of rows)))
    ∙ ap (λ (l : List Float). row_of (pointers_from (n + length row) rows) ((cs ++ map (λ e. e.col) row) ++ columns_of rows) l i) (sym (append_assoc vs (map (λ e. e.value) row) (numbers_of rows)))
    ∙ row_from (n + length row) (cs ++ map (λ e. e.col) row) (vs ++ map (λ e. e.value) row) rows i
    (length-append cs (map (λ e. e.col) row) ∙ ap (λ (k : ℕ). k + length (map (λ e. e.col) row)) p ∙ ap (λ (k : ℕ). n + k) (length-map row (λ e. e.col)))
    (length-append vs (map (λ e. e.value) row) ∙ ap (λ (k : ℕ). k + length (map (λ e. e.value) row)) q ∙ ap (λ (k : ℕ). n + k) (length-map row (λ e. e.value)))
    (le_of_suc-le-suc h)

pub row_back_lem : (rows : List (List Entry)) (i : ℕ) → i < length rows → row_of (pointers_from 0 rows) (columns_of rows) (numbers_of rows) i ≡ get_or rows i []
row_back_lem rows i h = row_from 0 [] [] rows i refl refl h

-- as many columns and values as the rows have elements
pub columns_length : (rows : List (List Entry)) → length (columns_of rows) ≡ length (flat_map (λ row. row) rows)
unfolding flat_map
columns_length [] = refl
columns_length (row ∷ rows) =
    length-append (map (λ e. e.col) row) (columns_of rows) ∙ ap (λ (k : ℕ). k + length (columns_of rows)) (length-map row (λ e. e.col)) ∙ ap (λ (k : ℕ). length row + k) (columns_length rows)
    ∙ sym (length-append row (flat_map (λ r. r) rows))

pub values_length : (rows : List (List Entry)) → length (numbers_of rows) ≡ length (flat_map (λ row. row) rows)
unfolding flat_map
values_length [] = refl
values_length (row ∷ rows) =
    length-append (map (λ e. e.value) row) (numbers_of rows) ∙ ap (λ (k : ℕ). k + length (numbers_of rows)) (length-map row (λ e. e.value)) ∙ ap (λ (k : ℕ). length row + k) (values_length rows)
    ∙ sym (length-append row (flat_map (λ r. r) rows))
