-- A row of the transfer: its columns and weights from the columns visited, and how many they can be.
use Prim.Native.Nat.{ℕ, zero, suc, ◌+◌, ◌-◌, ◌<◌, ◌≤◌}
use mathlib.Core.Path.{◌≡◌, refl, ap, sym, ◌∙◌}
use mathlib.Core.Bool.{Bool, true, false, ◌||◌}
use mathlib.Core.List.{List, [], ◌∷◌, map}
use native.Mathlib.Omega.{arith}
use native.Mathlib.Numerals.{add-one}
use lib.Dec.{eqb}
use lib.ListN.{length, get_or, take, length-map}
use lib.Seq.{slice, length-slice}
use lib.Ieee.{Float, nan, ne, eq, of_bits}
use borrow.Author.Tests.{eqb-true, eqb-false, ne_eqb}
use Rattle.definitions.specs.Lists.{tab, up_to, keep, any}
use Rattle.definitions.specs.Numbers.{◌/ᶠ◌, zeroᶠ, oneᶠ, reduced}
use Rattle.definitions.specs.Matrix.{Matrix, Entry, stored, row_of, entries_of, csr}
use Rattle.csr32.specs.Rows.{Rows}
use Rattle.definitions.specs.Transfer.{coarse_column, tentative, smoothing_terms, weight_at, transfer_row}
use Rattle.laws.proofs.Kept.{keep_yes, keep_no, keep_nil, keep_length}
use Rattle.laws.specs.Bounds.{Grouped, Below}
use Rattle.transfer.specs.Touched.{named, Visited}
use Rattle.transfer.specs.Weights.{RowWeights, counts, Weighed}
use Rattle.transfer.proofs.Spreading.{asc, up_to_asc, also}
use Rattle.transfer.proofs.Visiting.{also_all, named_misses, named_count, named_below}
use Rattle.transfer.proofs.Weighing.{where_unnamed}

-- ---- keeping twice, over columns below c

module _ (p q r : ℕ → Bool) (c : ℕ) (hit : (j : ℕ) → j < c → p j ≡ true → q j ≡ r j) (miss : (j : ℕ) → j < c → p j ≡ false → r j ≡ false) where
  twice_asc : (n b : ℕ) → b + n ≤ c → keep q (keep p (asc b n)) ≡ keep r (asc b n)
  twice_asc zero b h = ap (keep q) (keep_nil p) ∙ keep_nil q ∙ sym (keep_nil r)
  twice_asc (suc n) b h = step (p b) (r b) refl refl (twice_asc n (suc b) (omega arith))
    where
      step : (x y : Bool) → p b ≡ x → r b ≡ y → keep q (keep p (asc (suc b) n)) ≡ keep r (asc (suc b) n) → keep q (keep p (b ∷ asc (suc b) n)) ≡ keep r (b ∷ asc (suc b) n)
      step true true ep er ih = rw (keep_yes p b (asc (suc b) n) ep, keep_yes r b (asc (suc b) n) er, keep_yes q b (keep p (asc (suc b) n)) (hit b (omega arith) ep ∙ er), ih)
      step true false ep er ih = rw (keep_yes p b (asc (suc b) n) ep, keep_no r b (asc (suc b) n) er, keep_no q b (keep p (asc (suc b) n)) (hit b (omega arith) ep ∙ er), ih)
      step false true ep er ih = let z = sym (miss b (omega arith) ep) ∙ er in cc
      step false false ep er ih = rw (keep_no p b (asc (suc b) n) ep, keep_no r b (asc (suc b) n) er) ih

  pub keep_twice : keep q (keep p (up_to c)) ≡ keep r (up_to c)
  keep_twice = rw up_to_asc (twice_asc c 0 (omega arith))

map_kept : (f g : ℕ → Float) (p : ℕ → Bool) (c n b : ℕ) → b + n ≤ c → ((j : ℕ) → j < c → p j ≡ true → f j ≡ g j) → map f (keep p (asc b n)) ≡ map g (keep p (asc b n))
map_kept f g p c zero b h e = rw (keep_nil p)
map_kept f g p c (suc n) b h e = step (p b) refl (map_kept f g p c n (suc b) (omega arith) e)
  where
    step : (x : Bool) → p b ≡ x → map f (keep p (asc (suc b) n)) ≡ map g (keep p (asc (suc b) n)) → map f (keep p (b ∷ asc (suc b) n)) ≡ map g (keep p (b ∷ asc (suc b) n))
    step true q ih = rw (keep_yes p b (asc (suc b) n) q, e b (omega arith) q, ih)
    step false q ih = rw (keep_no p b (asc (suc b) n) q) ih

any_kept : (p : ℕ → Bool) (j n b : ℕ) → b ≤ j → j < b + n → p j ≡ true → any (λ x. eqb x j) (keep p (asc b n)) ≡ true
unfolding any
any_kept p j zero b h l e = absurd (omega arith)
any_kept p j (suc n) b h l e = step (eqb b j) (p b) refl refl (any_kept p j n (suc b))
  where
    step : (x y : Bool) → eqb b j ≡ x → p b ≡ y → (suc b ≤ j → j < suc b + n → p j ≡ true → any (λ x. eqb x j) (keep p (asc (suc b) n)) ≡ true) → any (λ x. eqb x j) (keep p (b ∷ asc (suc b) n)) ≡ true
    step true true ex ey ih = rw (keep_yes p b (asc (suc b) n) ey) (rw ex)
    step true false ex ey ih = let q : p j ≡ false = rw (← (eqb-true b j ex)) ey in let z = sym q ∙ e in cc
    step false true ex ey ih = rw (keep_yes p b (asc (suc b) n) ey) (rw ex (ih (omega (arith, eqb-false b j ex)) (omega arith) e))
    step false false ex ey ih = rw (keep_no p b (asc (suc b) n) ey) (ih (omega (arith, eqb-false b j ex)) (omega arith) e)

-- ---- entries made of columns and weights

tab_map : {A B : Type 0} (f : A → B) (g : ℕ → A) (n : ℕ) → tab (λ i. f (g i)) n ≡ map f (tab g n)
unfolding tab
tab_map f g zero = refl
tab_map f g (suc n) = ap (λ l. f (g zero) ∷ l) (tab_map f (λ i. g (suc i)) n)

keep_map : {A B : Type 0} (p : B → Bool) (f : A → B) (xs : List A) → keep p (map f xs) ≡ map f (keep (λ x. p (f x)) xs)
keep_map p f [] = keep_nil p ∙ rw (keep_nil (λ x. p (f x)))
keep_map p f (x ∷ xs) = step (p (f x)) refl (keep_map p f xs)
  where
    step : (b : Bool) → p (f x) ≡ b → keep p (map f xs) ≡ map f (keep (λ x. p (f x)) xs) → keep p (f x ∷ map f xs) ≡ map f (keep (λ x. p (f x)) (x ∷ xs))
    step true e ih = keep_yes p (f x) (map f xs) e ∙ rw (ih, keep_yes (λ x. p (f x)) x xs e)
    step false e ih = keep_no p (f x) (map f xs) e ∙ rw (ih, keep_no (λ x. p (f x)) x xs e)

map_cols : (w : ℕ → Float) (js : List ℕ) → map (λ (e : Entry). e.col) (map (λ j. record { col = j; value = w j }) js) ≡ js
map_cols w [] = refl
map_cols w (j ∷ js) = ap (λ l. j ∷ l) (map_cols w js)

map_values : (w : ℕ → Float) (js : List ℕ) → map (λ (e : Entry). e.value) (map (λ j. record { col = j; value = w j }) js) ≡ map w js
map_values w [] = refl
map_values w (j ∷ js) = ap (λ l. w j ∷ l) (map_values w js)

module _ (a : Matrix) (d : List Float) (damping : Float) (size : ℕ) (ids : List ℕ) (c i : ℕ) where
  -- a weight that the row stores
  abbrev pub stays : ℕ → Bool
  stays j = ne (weight_at a d damping size ids i j) zeroᶠ

  row_is : transfer_row a d damping size ids c i ≡ map (λ j. record { col = j; value = weight_at a d damping size ids i j }) (keep stays (up_to c))
  unfolding transfer_row up_to
  row_is =
      ap (keep (λ (e : Entry). ne e.value zeroᶠ)) (tab_map (λ j. record { col = j; value = weight_at a d damping size ids i j }) (λ j. j) c)
      ∙ keep_map (λ (e : Entry). ne e.value zeroᶠ) (λ j. record { col = j; value = weight_at a d damping size ids i j }) (tab (λ j. j) c)

  pub row_columns : map (λ (e : Entry). e.col) (transfer_row a d damping size ids c i) ≡ keep stays (up_to c)
  row_columns = ap (map (λ (e : Entry). e.col)) row_is ∙ map_cols (weight_at a d damping size ids i) (keep stays (up_to c))

  pub row_values : map (λ (e : Entry). e.value) (transfer_row a d damping size ids c i) ≡ map (weight_at a d damping size ids i) (keep stays (up_to c))
  row_values = ap (map (λ (e : Entry). e.value)) row_is ∙ map_values (weight_at a d damping size ids i) (keep stays (up_to c))

  pub row_length : length (transfer_row a d damping size ids c i) ≡ length (keep stays (up_to c))
  row_length = sym (length-map (transfer_row a d damping size ids c i) (λ (e : Entry). e.col)) ∙ ap length row_columns

  -- a column that the row does not name
  module _ (from to : ℕ) (es : entries_of a i ≡ stored a.col_idx a.values from to) where
    abbrev pub names : List ℕ
    names = coarse_column size ids i ∷ named (coarse_column size ids) (slice from to a.col_idx)

    pub unnamed : (j : ℕ) → any (λ x. eqb x j) names ≡ false → weight_at a d damping size ids i j ≡ zeroᶠ
    unfolding weight_at tentative smoothing_terms reduced any
    unnamed j e =
        let o = split (eqb (coarse_column size ids i) j) (any (λ x. eqb x j) (named (coarse_column size ids) (slice from to a.col_idx))) e in
        let t : eqb j (coarse_column size ids i) ≡ false = ne_eqb j (coarse_column size ids i) (λ q. eqb-false (coarse_column size ids i) j o.0 (sym q)) in
        rw (es, where_unnamed (coarse_column size ids) j (slice from to a.col_idx) (slice from to a.values) o.1, t)
      where
        split : (x y : Bool) → (x || y) ≡ false → (x ≡ false) × (y ≡ false)
        split false y e = (refl, e)
        split true y e = (e, cc)

    zero_same : ne zeroᶠ zeroᶠ ≡ false
    unfolding ne eq of_bits
    zero_same = refl

    zero_drops : (j : ℕ) → weight_at a d damping size ids i j ≡ zeroᶠ → stays j ≡ false
    zero_drops j e = rw e zero_same

    pub unstays : (j : ℕ) → any (λ x. eqb x j) names ≡ false → stays j ≡ false
    unstays j e = zero_drops j (unnamed j e)

    pub row_bound : coarse_column size ids i < c → Below c (named (coarse_column size ids) (slice from to a.col_idx)) → from ≤ to → to ≤ length a.col_idx → length (transfer_row a d damping size ids c i) ≤ suc (to - from)
    row_bound h b l m =
        let ns = named (coarse_column size ids) (slice from to a.col_idx) in
        let p = also_all ns (also (coarse_column size ids i) (λ _. false)) in
        let e : keep stays (keep p (up_to c)) ≡ keep stays (up_to c) = keep_twice p stays stays c (λ j _ _. refl) (λ j _ q. unstays j (named_misses (coarse_column size ids i) ns j q)) in
        let s : length (keep stays (up_to c)) ≤ length (keep p (up_to c)) = rw e at (keep_length stays (keep p (up_to c))) in
        let n : length ns ≡ to - from = length-map (slice from to a.col_idx) (λ j. coarse_column size ids j) ∙ length-slice from to a.col_idx m in
        rw row_length (omega (arith, named_count (coarse_column size ids i) c ns h b))

    -- what the code has: the weights w at the columns visited
    module _ (t : List ℕ) (r : ℕ) (v : Visited names c t r) (w : List Float) (l : length w ≡ c)
        (ew : RowWeights (coarse_column size ids) damping (oneᶠ /ᶠ get_or d i nan) (coarse_column size ids i) (stored a.col_idx a.values from to) (take r t) w) where
      weight_is : (j : ℕ) → j < c → v.test j ≡ true → get_or w j nan ≡ weight_at a d damping size ids i j
      unfolding weight_at tentative smoothing_terms
      weight_is j h p =
          let m : any (λ x. eqb x j) (take r t) ≡ true = rw (v.front, up_to_asc) (any_kept v.test j c 0 (omega arith) (omega arith) p) in
          ew j (omega arith) m ∙ rw es

      pub kept_columns : keep (counts w) (take r t) ≡ keep stays (up_to c)
      kept_columns = ap (keep (counts w)) v.front ∙ keep_twice v.test (counts w) stays c (λ j h p. ap (λ x. ne x zeroᶠ) (weight_is j h p)) (λ j h p. unstays j (v.misses j p))

      pub kept_weights : map (λ j. get_or w j nan) (keep stays (up_to c)) ≡ map (weight_at a d damping size ids i) (keep stays (up_to c))
      kept_weights = rw up_to_asc (map_kept (λ j. get_or w j nan) (weight_at a d damping size ids i) stays c c 0 (omega arith) (λ j h p. seen j h p (v.test j) refl))
        where
          seen : (j : ℕ) → j < c → stays j ≡ true → (x : Bool) → v.test j ≡ x → get_or w j nan ≡ weight_at a d damping size ids i j
          seen j h p true e = weight_is j h e
          seen j h p false e = let z = sym p ∙ unstays j (v.misses j e) in cc

      -- the row, as it is stored
      pub kept : (keep (counts w) (take r t) ≡ map (λ (e : Entry). e.col) (transfer_row a d damping size ids c i)) × (map (λ j. get_or w j nan) (keep (counts w) (take r t)) ≡ map (λ (e : Entry). e.value) (transfer_row a d damping size ids c i))
      kept = (kept_columns ∙ sym row_columns, ap (map (λ j. get_or w j nan)) kept_columns ∙ kept_weights ∙ sym row_values)

-- ---- a row of compressed rows

module _ (rows : ℕ) (ptr idx : List ℕ) (vals : List Float) (h : Rows (csr rows rows ptr idx vals)) (i from to : ℕ) (l : i < rows) (ef : from ≡ get_or ptr i 0) (et : to ≡ get_or ptr (i + 1) 0) where
  pub span : (from ≤ to) × (to ≤ length vals)
  span = let e = rw add-one at et in (omega (arith, h.rises i l, e), omega (arith, h.ends (suc i) (omega arith), e))

  pub entries_are : entries_of (csr rows rows ptr idx vals) i ≡ stored idx vals from to
  unfolding entries_of row_of
  entries_are = rw (ef, et, add-one)

  module _ (d : List Float) (damping : Float) (size : ℕ) (ids : List ℕ) (c own : ℕ) (eo : own ≡ coarse_column size ids i) where
    pub row_fits : Grouped size ids rows c → length (transfer_row (csr rows rows ptr idx vals) d damping size ids c i) ≤ suc (to - from)
    row_fits g =
        row_bound (csr rows rows ptr idx vals) d damping size ids c i from to entries_are (g.within i l)
        (named_below (coarse_column size ids) rows c from to idx h.within g.within (omega (arith, span, h.same))) span.0 (omega (arith, span, h.same))

-- what is stored of the columns visited is the row
pub row_kept : (a : Matrix) (d : List Float) (damping : Float) (size : ℕ) (ids : List ℕ) (c i : ℕ) (t : List ℕ) (w : List Float) (n : ℕ) → Weighed a d damping size ids c i t w n → length w ≡ c
    → (keep (counts w) (take n t) ≡ map (λ (e : Entry). e.col) (transfer_row a d damping size ids c i)) × (map (λ j. get_or w j nan) (keep (counts w) (take n t)) ≡ map (λ (e : Entry). e.value) (transfer_row a d damping size ids c i))
unfolding entries_of row_of
row_kept a d damping size ids c i t w n v l = kept a d damping size ids c i (get_or a.row_ptr i 0) (get_or a.row_ptr (i + 1) 0) (rw add-one) t n v.visited w l v.weights

-- the weights of the rows up to i are at most i and the entries of these rows
pub room_law : (rows : ℕ) (ptr idx : List ℕ) (vals : List Float) → Rows (csr rows rows ptr idx vals) → (i at : ℕ) → i < rows → at ≤ i + get_or ptr i 0
    → (d : List Float) (damping : Float) (size : ℕ) (ids : List ℕ) (c : ℕ) → Grouped size ids rows c → (n : ℕ) → n ≡ length (transfer_row (csr rows rows ptr idx vals) d damping size ids c i)
    → (at + n ≤ i + 1 + get_or ptr (i + 1) 0) × (at + n ≤ rows + length vals)
room_law rows ptr idx vals h i at l q d damping size ids c g n en =
    let f = row_fits rows ptr idx vals h i (get_or ptr i 0) (get_or ptr (i + 1) 0) l refl refl d damping size ids c (coarse_column size ids i) refl g in
    let s = span rows ptr idx vals h i (get_or ptr i 0) (get_or ptr (i + 1) 0) l refl refl in
    (omega (arith, f, s, en), omega (arith, f, s, en))

pub row_room : (rows : ℕ) (ptr idx : List ℕ) (vals : List Float) → Rows (csr rows rows ptr idx vals) → (i at : ℕ) → i < rows → at ≤ i + get_or ptr i 0
    → (d : List Float) (damping : Float) (size : ℕ) (ids : List ℕ) (c : ℕ) → Grouped size ids rows c → (t : List ℕ) (w : List Float) (n : ℕ) → Weighed (csr rows rows ptr idx vals) d damping size ids c i t w n → length w ≡ c
    → (at + length (keep (counts w) (take n t)) ≤ i + 1 + get_or ptr (i + 1) 0) × (at + length (keep (counts w) (take n t)) ≤ rows + length vals)
row_room rows ptr idx vals h i at l q d damping size ids c g t w n v lw =
    let k = row_kept (csr rows rows ptr idx vals) d damping size ids c i t w n v lw in
    room_law rows ptr idx vals h i at l q d damping size ids c g (length (keep (counts w) (take n t))) (ap length k.0 ∙ length-map (transfer_row (csr rows rows ptr idx vals) d damping size ids c i) (λ (e : Entry). e.col))
