-- A short row in one pass: the weight at a column that it touched.
use Prim.Native.Nat.{ℕ, ◌+◌, ◌<◌, ◌≤◌}
use mathlib.Core.Path.{◌≡◌, refl, ap, sym, ◌∙◌}
use mathlib.Core.Bool.{Bool, true, false, cond}
use mathlib.Core.List.{List, [], ◌∷◌, ◌++◌, map, foldl, zip_with}
use native.Mathlib.Omega.{arith}
use native.Mathlib.Numerals.{add-one}
use lib.Dec.{eqb}
use lib.ListN.{length, get_or, set, take, drop, length-set}
use lib.Seq.{length-take-le, take-take, slice, slice-cons, slice_empty, length-slice, get_or-set_same, get_or-set_other}
use lib.Ieee.{Float, nan}
use borrow.Author.Tests.{eq-eqb, ne_eqb, eqb-true, eqb-false}
use Rattle.definitions.specs.Lists.{any}
use Rattle.definitions.specs.Numbers.{◌-ᶠ◌, ◌*ᶠ◌, zeroᶠ, oneᶠ, reduced}
use Rattle.definitions.specs.Matrix.{Entry, values_where, stored}
use Rattle.csr32.proofs.Stored.{where_hit, where_miss, where_none}
use Rattle.transfer.specs.Touched.{Rising, insert_once, named}
use Rattle.transfer.proofs.Steps.{insert_all}
use Rattle.transfer.specs.Weights.{RowWeights}
use Rattle.transfer.proofs.Steps.{lower, smoothing, fresh, accumulated}
use Rattle.transfer.proofs.Inserting.{new_many}
use Rattle.transfer.proofs.Weighing.{minus, lower_hit, lower_miss, taken}
use Rattle.transfer.proofs.Ascending.{has, has_insert, rising_insert, insert_old, insert_more}

-- ---- a column's place, cleared where the column is new

pub length_fresh : (n more j : ℕ) (w : List Float) → length (fresh n more j w) ≡ length w
unfolding fresh
length_fresh n more j w = step (eqb more n) refl
  where
    step : (b : Bool) → eqb more n ≡ b → length (cond (eqb more n) w (set w j zeroᶠ)) ≡ length w
    step true e = rw e
    step false e = rw e (length-set w j zeroᶠ)

pub fresh_old : (n more j : ℕ) (w : List Float) → more ≡ n → fresh n more j w ≡ w
unfolding fresh
fresh_old n more j w e = rw (eq-eqb more n e)

pub fresh_new : (n more j : ℕ) (w : List Float) → (more ≡ n → ⊥) → fresh n more j w ≡ set w j zeroᶠ
unfolding fresh
fresh_new n more j w e = rw (ne_eqb more n e)

fresh_miss : (n more x j : ℕ) (w : List Float) → (x ≡ j → ⊥) → get_or (fresh n more x w) j nan ≡ get_or w j nan
unfolding fresh
fresh_miss n more x j w h = step (eqb more n) refl
  where
    step : (b : Bool) → eqb more n ≡ b → get_or (cond (eqb more n) w (set w x zeroᶠ)) j nan ≡ get_or w j nan
    step true e = rw e
    step false e = rw e (get_or-set_other w x j zeroᶠ nan (λ q. h (sym q)))

-- what a weight is before its column is touched
abbrev start : List ℕ → List Float → ℕ → Float
start t w j = cond (has t j) (get_or w j nan) zeroᶠ

fresh_hit : (t : List ℕ) (j : ℕ) (w : List Float) → Rising 0 t → j < length w → get_or (fresh (length t) (length (insert_once j t)) j w) j nan ≡ start t w j
fresh_hit t j w r h = step (has t j) refl
  where
    step : (b : Bool) → has t j ≡ b → get_or (fresh (length t) (length (insert_once j t)) j w) j nan ≡ start t w j
    step true e = rw (e, fresh_old (length t) (length (insert_once j t)) j w (insert_old 0 j t r e))
    step false e = rw (e, fresh_new (length t) (length (insert_once j t)) j w (λ q. omega (arith, insert_more j t e))) (get_or-set_same w j zeroᶠ nan h)

-- ---- the pass

abbrev columns : List Entry → List ℕ
columns es = map (λ (e : Entry). e.col) es

accumulated_at : (es : List Entry) (t : List ℕ) (w : List Float) (j : ℕ) → Rising 0 t → j < length w → has (insert_all (columns es) t) j ≡ true
    → get_or (accumulated t es w) j nan ≡ foldl minus (start t w j) (values_where (λ k. eqb k j) es)
unfolding accumulated insert_all
accumulated_at [] t w j r h a = rw (where_none (λ k. eqb k j), a)
accumulated_at (e ∷ es) t w j r h a =
    accumulated_at es t' (lower f e) j (rising_insert 0 e.col t r (omega arith)) (simp length-set (rw (length_fresh (length t) (length t') e.col w) h)) a ∙ step (eqb e.col j) refl
  where
    t' : List ℕ
    t' = insert_once e.col t

    f : List Float
    f = fresh (length t) (length t') e.col w

    l : j < length f
    l = rw (length_fresh (length t) (length t') e.col w) h

    step : (b : Bool) → eqb e.col j ≡ b → foldl minus (start t' (lower f e) j) (values_where (λ k. eqb k j) es) ≡ foldl minus (start t w j) (values_where (λ k. eqb k j) (e ∷ es))
    step true q =
        let x = eqb-true e.col j q in
        let g : get_or f j nan ≡ start t w j = rw x (fresh_hit t j w r h) in
        rw (has_insert e.col j t, q, lower_hit f e j l x, where_hit (λ k. eqb k j) e es q, g)
    step false q =
        let x = eqb-false e.col j q in
        rw (has_insert e.col j t, q, lower_miss f e j x, where_miss (λ k. eqb k j) e es q, fresh_miss (length t) (length t') e.col j w x)

-- ---- the entries of a row

columns_are : (column : ℕ → ℕ) (damping inv : Float) (idx : List ℕ) (vals : List Float) → length idx ≡ length vals
    → columns (smoothing column damping inv (zip_with (λ c v. record { col = c; value = v }) idx vals)) ≡ named column idx
unfolding zip_with
columns_are column damping inv [] vals e = refl
columns_are column damping inv (x ∷ idx) [] e = absurd (omega arith)
columns_are column damping inv (x ∷ idx) (v ∷ vals) e = ap (λ l. column x ∷ l) (columns_are column damping inv idx vals (omega arith))

module _ (idx : List ℕ) (vals : List Float) (column : ℕ → ℕ) (damping inv : Float) (from to own : ℕ) (same : length idx ≡ length vals) (m : to ≤ length vals) (w : List Float) (h : own < length w) where
  -- the weights after the pass, from the row's own column
  pub accumulated_row : (t : List ℕ) (w' : List Float) → t ≡ insert_all (named column (slice from to idx)) (own ∷ []) → w' ≡ accumulated (own ∷ []) (smoothing column damping inv (stored idx vals from to)) (set w own oneᶠ) → length w' ≡ length w
      → RowWeights column damping inv own (stored idx vals from to) t w'
  unfolding reduced any
  accumulated_row t w' et ew lw j q a =
      let es = stored idx vals from to in
      let n = columns_are column damping inv (slice from to idx) (slice from to vals) (length-slice from to idx (omega arith) ∙ sym (length-slice from to vals m)) in
      let a' : has (insert_all (columns (smoothing column damping inv es)) (own ∷ [])) j ≡ true = rw (n, ← et) a in
      ap (λ l. get_or l j nan) ew
      ∙ accumulated_at (smoothing column damping inv es) (own ∷ []) (set w own oneᶠ) j (omega arith, tt) (rw (length-set w own oneᶠ, ← lw) q) a'
      ∙ rw (taken column damping inv j es, first j (rw lw at q) (eqb own j) refl)
    where
      first : (j : ℕ) → j < length w → (b : Bool) → eqb own j ≡ b → start (own ∷ []) (set w own oneᶠ) j ≡ cond (eqb j own) oneᶠ zeroᶠ
      first j q true e = let x = eqb-true own j e in rw (e, x, eq-eqb j j refl) (get_or-set_same w j oneᶠ nan q)
      first j q false e = rw (e, ne_eqb j own (λ z. eqb-false own j e (sym z)))

-- ---- entries that are left

module _ (idx : List ℕ) (vals : List Float) (column : ℕ → ℕ) (damping inv : Float) (to : ℕ) where
  abbrev pub onward : ℕ → List ℕ → List Float → List Float
  onward k t w = accumulated t (smoothing column damping inv (stored idx vals k to)) w

  pub onward_step : (k j : ℕ) (t : List ℕ) (w f : List Float) → k < to → to ≤ length idx → to ≤ length vals → j ≡ column (get_or idx k 0) → f ≡ fresh (length t) (length (insert_once j t)) j w
      → onward (k + 1) (insert_once j t) (set f j (get_or f j nan -ᶠ damping *ᶠ get_or vals k nan *ᶠ inv)) ≡ onward k t w
  unfolding accumulated zip_with
  onward_step k j t w f h p q e g = rw (g, e, add-one, slice-cons k to idx 0 h p, slice-cons k to vals nan h q)

  pub onward_done : (t : List ℕ) (w : List Float) → onward to t w ≡ w
  unfolding accumulated zip_with
  onward_done t w = rw (slice_empty to idx)

-- ---- one entry's column among the first n of t, and its weight

pub record Joined (x n : ℕ) (t : List ℕ) (w : List Float) (n' : ℕ) (t' : List ℕ) (w' : List Float) : Type 0 where
  pub front : take n' t' ≡ insert_once x (take n t)
  pub many : n' ≡ length (insert_once x (take n t))
  pub clear : w' ≡ fresh n n' x w

module _ (x n : ℕ) (t : List ℕ) (w : List Float) (n' : ℕ) (t' : List ℕ) (w' : List Float) (h : n ≤ length t) where
  pub joined_old : insert_once x (take n t) ≡ take n t → n' ≡ n → t' ≡ t → w' ≡ w → Joined x n t w n' t' w'
  joined_old e en et ew = record {
    front = rw (en, et, e);
    many = rw (en, e) (sym (length-take-le n t h));
    clear = ew ∙ sym (fresh_old n n' x w en);
  }

  pub joined_new : (p : ℕ) → p ≤ n → insert_once x (take n t) ≡ take p (take n t) ++ (x ∷ drop p (take n t)) → take (n + 1) t' ≡ take p t ++ (x ∷ slice p n t) → n' ≡ n + 1 → w' ≡ set w x zeroᶠ → Joined x n t w n' t' w'
  joined_new p hp e et en ew = record {
    front = rw (en, et, e, take-take p n t hp);
    many = rw (en, new_many x (take n t) p e, length-take-le n t h);
    clear = ew ∙ sym (fresh_new n n' x w (λ q. omega (arith, en)));
  }
