-- The coarse columns of all rows as a list. With block size 1 the coarse column of a row is read from it, so that transfer and coarse matrix made from the list are those made from the ids.
use mathlib.Core.Path.{◌≡◌, refl, ap, sym, ◌∙◌, subst, fun_ext}
use mathlib.Core.Bool.{Bool, true, false}
use mathlib.Core.List.{List, ◌∷◌, ◌++◌, map, flat_map, append_assoc}
use Prim.Native.Nat.{ℕ, suc, ◌+◌, ◌*◌, ◌/◌, ◌%◌, ◌≤◌, ◌<◌}
use native.Mathlib.Omega.{arith}
use native.Mathlib.Nat.{div-add-mod', div-lt_iff_lt-mul, mod-lt, mul-le-mul_right, le-mul_of_pos_right, mul_comm, mul-add-div, mul-add-mod_self_left, div-eq_of_lt, mod-eq_of_lt, add-zero}
use lib.Dec.{eqb}
use lib.Seq.{slice, length-take-le, take_at, drop_at, drop-drop}
use borrow.Rule.Slice.PartMut.{put_mid}
use lib.ListN.{length, get_or, take, drop}
use lib.Ieee.{Float, ne}
use Rattle.definitions.specs.Lists.{tab, up_to, keep}
use Rattle.definitions.specs.Numbers.{zeroᶠ, total}
use Rattle.definitions.specs.Refusal.{done}
use Rattle.definitions.specs.Matrix.{Matrix, Entry, entries_of, row_of, values_where, valid_of}
use Rattle.definitions.specs.Transfer.{coarse_column, tentative, smoothing_terms, weight_at, transfer_row, transfer_of}
use Rattle.definitions.specs.Coarse.{constant_terms, constant_entry}
use Rattle.definitions.specs.Setup.{max_coarse}
use Rattle.laws.proofs.Lists.{Each, none, more, each_imp, each_take, each_drop, each_by, each_at, each_zip_with, each_up_to, each_tab, tab_cong, tab_append, length_tab, get_d_tab}
use Rattle.laws.proofs.Growing.{tab_none}
use Rattle.csr32.specs.Rows.{rows_of}
use Rattle.two_level_setup.specs.Promises.{Listed}

-- ---- lists by test

keep_cong : {A : Type 0} (p q : A → Bool) {xs : List A} → Each (λ x. p x ≡ q x) xs → keep p xs ≡ keep q xs
unfolding keep
keep_cong p q none = refl
keep_cong {A = A} p q (more {x = x} {xs = xs} h t) = ap (λ (b : Bool). elim b [ true ↦ x ∷ keep p xs | false ↦ keep p xs ]) h ∙ ap (λ (ys : List A). elim (q x) [ true ↦ x ∷ ys | false ↦ ys ]) (keep_cong p q t)

where_same : (f g : ℕ → ℕ) (j : ℕ) {row : List Entry} → Each (λ e. f e.col ≡ g e.col) row → values_where (λ k. eqb (f k) j) row ≡ values_where (λ k. eqb (g k) j) row
unfolding values_where
where_same f g j h = ap (λ es. map (λ e. e.value) es) (keep_cong (λ e. eqb (f e.col) j) (λ e. eqb (g e.col) j) (each_imp (λ e q. rw q) h))

-- ---- numbers of rows and nodes

-- ids below groups no more than the coarse columns
pub ids_small : (groups size : ℕ) {ids : List ℕ} → 1 ≤ size → groups * size ≤ max_coarse → Each (λ g. g < groups) ids → Each (λ g. g ≤ max_coarse) ids
ids_small groups size h l b = each_imp (λ g k. omega (arith, le-mul_of_pos_right groups h)) b

pub whole_nodes : (rows size nodes : ℕ) → rows % size ≡ 0 → nodes ≡ rows / size → rows ≡ nodes * size
whole_nodes rows size nodes w e = rw e (omega (arith, div-add-mod' rows size, w))

-- the unknown `part` of a node
pub unknown_of : (size : ℕ) (ids : List ℕ) (node part : ℕ) → part < size → coarse_column size ids (node * size + part) ≡ get_or ids node 0 * size + part
unfolding coarse_column
unknown_of size ids node part h =
    rw (mul_comm node size, mul-add-div (positive h) node part, mul-add-mod_self_left size node part, div-eq_of_lt h, mod-eq_of_lt h, add-zero node)
  where
    positive : {x y : ℕ} → x < y → 0 < y
    positive l = omega arith

-- ---- the list as it fills

-- `row` rows are listed
abbrev pub Listing : ℕ → List ℕ → List ℕ → List ℕ → ℕ → Type 0
Listing size ids columns₀ columns row = Each (λ g. g ≤ max_coarse) ids → columns ≡ tab (coarse_column size ids) row ++ drop row columns₀

pub listing_first : (size : ℕ) (ids columns : List ℕ) → Listing size ids columns columns (0 * size)
listing_first size ids columns = let z : 0 * size ≡ 0 = omega arith in rw z (λ _. tab_none (coarse_column size ids) columns)

-- and those of one more node
module _ (size : ℕ) (ids columns₀ columns part : List ℕ) (node v : ℕ) (k : node < length ids) (e : get_or ids node 0 ≤ max_coarse → v ≡ get_or ids node 0 * size) (p : part ≡ tab (λ j. v + j) size) where
  abbrev row : ℕ
  row = node * size

  pub listing_node : Listing size ids columns₀ columns row → Listing size ids columns₀ (put_mid row size columns part) (row + size)
  listing_node g b =
      let f : ℕ → ℕ = coarse_column size ids in
      let t : take row columns ≡ tab f row = ap (take row) (g b) ∙ take_at (tab f row) (drop row columns₀) row (length_tab f row) in
      let d : drop row columns ≡ drop row columns₀ = ap (drop row) (g b) ∙ drop_at (tab f row) (drop row columns₀) row (length_tab f row) in
      let q : part ≡ tab (λ j. f (row + j)) size = p ∙ tab_cong (λ j. v + j) (λ j. f (row + j)) size (λ j h. rw (e (each_at ids node 0 b k)) (sym (unknown_of size ids node j h))) in
      rw (t, d, q, tab_append f row size, drop-drop size row columns₀) (sym (append_assoc (tab f row) (tab (λ j. f (row + j)) size) (drop (row + size) columns₀)))

-- ---- the list that is made, where the ids stand at the front of a list

pub listed_made : (size nodes rows : ℕ) (ints work back ids : List ℕ) → rows ≤ length work → take nodes ints ≡ ids → Listed size (take nodes ints) (take rows work) back → Each (λ g. g ≤ max_coarse) ids → back ≡ tab (coarse_column size ids) rows
listed_made size nodes rows ints work back ids h e l b =
    subst (λ t. Listed size t (take rows work) back) e l b ∙ ap (λ n. tab (coarse_column size ids) n) (length-take-le rows work h)

-- ---- one number for each row

one_column : (l : List ℕ) (row : ℕ) → coarse_column 1 l row ≡ get_or l row 0
unfolding coarse_column
one_column l row =
    let d : row / 1 ≡ row = omega arith in
    let m : row % 1 ≡ 0 = omega arith in
    rw (d, m) (omega arith)

module _ (size : ℕ) (ids : List ℕ) (n : ℕ) where
  abbrev listed : List ℕ
  listed = tab (coarse_column size ids) n

  listed_is : (row : ℕ) → row < n → coarse_column 1 listed row ≡ coarse_column size ids row
  listed_is row h = one_column listed row ∙ get_d_tab (coarse_column size ids) n row 0 h

  -- below the coarse dimension, where the ids are below the groups
  pub listed_below : (groups : ℕ) → 0 < size → n ≡ length ids * size → Each (λ g. g < groups) ids → Each (λ j. j < groups * size) listed
  unfolding coarse_column
  listed_below groups some e b = each_tab (coarse_column size ids) n (λ i h.
      let k : i / size < length ids = (div-lt_iff_lt-mul some).1 (rw (← e) h) in
      omega (arith, mul-le-mul_right size (each_at ids (i / size) 0 b k), mod-lt i some))

  -- ---- what is made from them, of a matrix of n rows and columns

  module _ (a : Matrix) (v : valid_of a ≡ done tt) (square : a.cols ≡ a.rows) (many : a.rows ≡ n) where
    entries_same : (i : ℕ) → Each (λ e. coarse_column 1 listed e.col ≡ coarse_column size ids e.col) (entries_of a i)
    unfolding entries_of row_of
    entries_same i =
        let below : Each (λ j. j < n) a.col_idx = each_by a.col_idx 0 (λ k h. rw (← many, ← square) ((rows_of a v).within k h)) in
        let s = get_or a.row_ptr i 0 in
        let e = get_or a.row_ptr (suc i) 0 in
        each_zip_with (λ j x. record { col = j; value = x }) (slice s e a.values) (λ j x h. listed_is j h) (each_drop s (each_take e below))

    weights_same : (d : List Float) (damping : Float) (i j : ℕ) → i < n → weight_at a d damping 1 listed i j ≡ weight_at a d damping size ids i j
    unfolding weight_at tentative smoothing_terms
    weights_same d damping i j h = rw (listed_is i h, where_same (coarse_column 1 listed) (coarse_column size ids) j (entries_same i))

    rows_same : (d : List Float) (damping : Float) (c i : ℕ) → i < n → transfer_row a d damping 1 listed c i ≡ transfer_row a d damping size ids c i
    unfolding transfer_row
    rows_same d damping c i h =
        ap (λ (es : List Entry). keep (λ e. ne e.value zeroᶠ) es) (tab_cong {A = Entry} (λ j. weighed j (weight_at a d damping 1 listed i j)) (λ j. weighed j (weight_at a d damping size ids i j)) c (λ j _. ap (λ x. weighed j x) (weights_same d damping i j h)))
      where
        weighed : ℕ → Float → Entry
        weighed j x = record { col = j; value = x }

    pub transfer_listed : (d : List Float) (damping : Float) (c : ℕ) → transfer_of a d damping 1 listed c ≡ transfer_of a d damping size ids c
    unfolding transfer_of
    transfer_listed d damping c = tab_cong (transfer_row a d damping 1 listed c) (transfer_row a d damping size ids c) a.rows (λ i h. rows_same d damping c i (rw (← many) h))

    pub constant_listed : constant_entry a (coarse_column 1 listed) ≡ constant_entry a (coarse_column size ids)
    unfolding constant_entry constant_terms
    constant_listed = fun_ext (λ i. fun_ext (λ j. ap total (
        flat_map_rows i j ∙ ap (λ rs. flat_map (λ r. values_where (λ k. eqb (coarse_column size ids k) j) (entries_of a r)) rs) (rows_kept i))))
      where
        rows_kept : (i : ℕ) → keep (λ r. eqb (coarse_column 1 listed r) i) (up_to a.rows) ≡ keep (λ r. eqb (coarse_column size ids r) i) (up_to a.rows)
        rows_kept i = keep_cong (λ r. eqb (coarse_column 1 listed r) i) (λ r. eqb (coarse_column size ids r) i) (each_up_to a.rows (λ r h. rw (listed_is r (rw (← many) h))))

        flat_map_rows : (i j : ℕ) → flat_map (λ r. values_where (λ k. eqb (coarse_column 1 listed k) j) (entries_of a r)) (keep (λ r. eqb (coarse_column 1 listed r) i) (up_to a.rows))
            ≡ flat_map (λ r. values_where (λ k. eqb (coarse_column size ids k) j) (entries_of a r)) (keep (λ r. eqb (coarse_column 1 listed r) i) (up_to a.rows))
        flat_map_rows i j = ap (λ f. flat_map f (keep (λ r. eqb (coarse_column 1 listed r) i) (up_to a.rows))) (fun_ext (λ r. where_same (coarse_column 1 listed) (coarse_column size ids) j (entries_same r)))
