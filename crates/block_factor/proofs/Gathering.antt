-- A row of a block, entry by entry, and the block, row by row.
use Prim.Native.Nat.{ℕ, zero, suc, ◌+◌, ◌-◌, ◌*◌, ◌<◌, ◌≤◌}
use mathlib.Core.Path.{◌≡◌, refl, ap, sym, ◌∙◌}
use mathlib.Core.Bool.{Bool, true, false}
use mathlib.Core.List.{List, [], ◌++◌, foldl-append, flat_map, append_assoc}
use native.Mathlib.Omega.{arith}
use native.Mathlib.Numerals.{add-one}
use native.Mathlib.Nat.{suc-mul, zero-mul}
use lib.Dec.{eqb}
use lib.ListN.{length, get_or, set, take, drop, replicate, length-set, length-replicate, get_or-replicate, length-append, replicate-append-replicate}
use lib.Seq.{get_or-set_same, get_or-set_other, take_at, drop_at}
use lib.Ieee.{Float, nan}
use borrow.Author.Tests.{eqb-true, eqb-false, eq-eqb, ne_eqb}
use borrow.Rule.Slice.PartMut.{put_mid}
use Rattle.definitions.specs.Lists.{tab, up_to, square}
use Rattle.definitions.specs.Numbers.{◌+ᶠ◌, zeroᶠ, total}
use Rattle.definitions.specs.Matrix.{Matrix, entries_of, stored, stored_at, values_where}
use Rattle.definitions.specs.Block.{block_entry}
use Rattle.csr32.specs.Parts.{entries}
use Rattle.csr32.proofs.Stored.{numbers_none, numbers_hit, numbers_miss, stored_all}
use Rattle.laws.proofs.Lists.{tab_is, tab_cong, length_tab, get_d_tab}
use Rattle.laws.proofs.Growing.{flat_map_snoc, up_to_snoc}
use Rattle.block_factor.specs.Dense.{blank, dense}

-- ---- one row

-- the sum of what the first k entries store at column first + j
unfoldable pub sum_at : List ℕ → List Float → ℕ → ℕ → ℕ → Float
sum_at idx vals k first j = total (values_where (λ c. eqb c (first + j)) (stored idx vals 0 k))

module _ (idx : List ℕ) (vals : List Float) (first : ℕ) where
  none_sum : (j : ℕ) → sum_at idx vals 0 first j ≡ zeroᶠ
  unfolding sum_at total
  none_sum j = rw (numbers_none (λ c. eqb c (first + j)) idx vals 0)

  pub gather_none : (row : List Float) → row ≡ replicate (length row) zeroᶠ → row ≡ tab (sum_at idx vals 0 first) (length row)
  gather_none row e =
      tab_is nan row (sum_at idx vals 0 first) (length row) refl
      (λ j h. ap (λ l. get_or l j nan) e ∙ get_or-replicate (length row) j zeroᶠ nan h ∙ sym (none_sum j))

  module _ (k m c : ℕ) (x : Float) (em : m ≡ k + 1) (l : k < length idx) (s : length idx ≡ length vals) (ec : c ≡ get_or idx k 0) (ex : x ≡ get_or vals k nan) where
    hit_sum : (j : ℕ) → c ≡ first + j → sum_at idx vals m first j ≡ sum_at idx vals k first j +ᶠ x
    unfolding sum_at total
    hit_sum j e = rw (em, ex, numbers_hit (λ c. eqb c (first + j)) idx vals 0 k (omega arith) l s (eq-eqb _ _ (sym ec ∙ e)), foldl-append (λ s x. s +ᶠ x))

    miss_sum : (j : ℕ) → (c ≡ first + j → ⊥) → sum_at idx vals m first j ≡ sum_at idx vals k first j
    unfolding sum_at
    miss_sum j e = rw (em, numbers_miss (λ c. eqb c (first + j)) idx vals 0 k (omega arith) l s (ne_eqb _ _ (λ q. e (ec ∙ q))))

    module _ (n : ℕ) (row row' : List Float) (er : row ≡ tab (sum_at idx vals k first) n) where
      row_length : length row ≡ n
      row_length = ap length er ∙ length_tab (sum_at idx vals k first) n

      row_at : (j : ℕ) → j < n → get_or row j nan ≡ sum_at idx vals k first j
      row_at j h = ap (λ t. get_or t j nan) er ∙ get_d_tab (sum_at idx vals k first) n j nan h

      pub gather_miss : row' ≡ row → ((j : ℕ) → j < n → c ≡ first + j → ⊥) → row' ≡ tab (sum_at idx vals m first) n
      gather_miss e f = e ∙ tab_is nan row (sum_at idx vals m first) n row_length (λ j h. row_at j h ∙ sym (miss_sum j (f j h)))

      pub gather_hit : (p : ℕ) → p < n → c ≡ first + p → row' ≡ set row p (get_or row p nan +ᶠ x) → row' ≡ tab (sum_at idx vals m first) n
      gather_hit p hp ep e =
          e ∙ tab_is nan (set row p (get_or row p nan +ᶠ x)) (sum_at idx vals m first) n (length-set row p _ ∙ row_length) (λ j h. at j h (eqb j p) refl)
        where
          at : (j : ℕ) → j < n → (b : Bool) → eqb j p ≡ b → get_or (set row p (get_or row p nan +ᶠ x)) j nan ≡ sum_at idx vals m first j
          at j h true q =
              let z : j ≡ p = eqb-true j p q in
              ap (λ i. get_or (set row p (get_or row p nan +ᶠ x)) i nan) z ∙ get_or-set_same row p (get_or row p nan +ᶠ x) nan (rw row_length hp)
              ∙ ap (λ v. v +ᶠ x) (row_at p hp) ∙ sym (hit_sum p ep) ∙ ap (sum_at idx vals m first) (sym z)
          at j h false q =
              let z : j ≡ p → ⊥ = eqb-false j p q in
              get_or-set_other row p j (get_or row p nan +ᶠ x) nan z ∙ row_at j h ∙ sym (miss_sum j (λ i. z (omega arith)))

-- ---- the block

-- the first i rows, end to end
abbrev pub rows_up_to : (ℕ → ℕ → Float) → ℕ → ℕ → List Float
rows_up_to f w i = flat_map (λ r. tab (f r) w) (up_to i)

module _ (f : ℕ → ℕ → Float) (w : ℕ) where
  pub rows_none : rows_up_to f w 0 ≡ []
  unfolding up_to tab flat_map
  rows_none = refl

  rows_snoc : (i : ℕ) → rows_up_to f w (suc i) ≡ rows_up_to f w i ++ tab (f i) w
  rows_snoc i = rw (up_to_snoc i, flat_map_snoc (λ r. tab (f r) w) (up_to i) i)

  pub length_rows : (i : ℕ) → length (rows_up_to f w i) ≡ i * w
  length_rows zero = rw rows_none (sym (zero-mul w))
  length_rows (suc i) = rw (rows_snoc i, length-append, length_rows i, length_tab (f i) w, suc-mul)

  pub block_none : blank ≡ rows_up_to f w 0 ++ replicate (64 - 0 * w) zeroᶠ
  unfolding blank
  block_none = rw (rows_none, zero-mul w)

  -- where i rows are there: the next row's place holds zeros, and filled it is one row more
  module _ (i s e : ℕ) (a : List Float) (es : s ≡ i * w) (ee : e ≡ s + w) (fits : i * w + w ≤ 64) (ea : a ≡ rows_up_to f w i ++ replicate (64 - i * w) zeroᶠ) where
    zeros : ℕ → List Float
    zeros n = replicate n zeroᶠ

    split : replicate (64 - i * w) zeroᶠ ≡ replicate w zeroᶠ ++ replicate (64 - (i * w + w)) zeroᶠ
    split =
        let q : 64 - i * w ≡ w + (64 - (i * w + w)) = omega arith in
        ap (λ n. replicate n zeroᶠ) q ∙ sym (replicate-append-replicate w (64 - (i * w + w)) zeroᶠ)

    after : drop s a ≡ replicate w zeroᶠ ++ replicate (64 - (i * w + w)) zeroᶠ
    after = ap (λ l. drop s l) ea ∙ drop_at (rows_up_to f w i) (replicate (64 - i * w) zeroᶠ) s (length_rows i ∙ sym es) ∙ split

    wide : e - s ≡ w
    wide = omega arith

    pub place_blank : take (e - s) (drop s a) ≡ replicate w zeroᶠ
    place_blank = ap (λ l. take (e - s) l) after ∙ take_at (replicate w zeroᶠ) (replicate (64 - (i * w + w)) zeroᶠ) (e - s) (length-replicate w zeroᶠ ∙ sym wide)

    pub place_zeros : take (e - s) (drop s a) ≡ replicate (length (take (e - s) (drop s a))) zeroᶠ
    place_zeros = place_blank ∙ ap (λ n. replicate n zeroᶠ) (sym (length-replicate w zeroᶠ) ∙ ap length (sym place_blank))

    pub block_more : (row : List Float) → row ≡ tab (f i) (length (take (e - s) (drop s a))) → put_mid s (e - s) a row ≡ rows_up_to f w (i + 1) ++ replicate (64 - (i + 1) * w) zeroᶠ
    block_more row er =
        let q : (i + 1) * w ≡ i * w + w = rw (add-one, suc-mul) in
        let r : row ≡ tab (f i) w = er ∙ ap (λ l. tab (f i) (length l)) place_blank ∙ ap (tab (f i)) (length-replicate w zeroᶠ) in
        let front : take s a ≡ rows_up_to f w i = ap (λ l. take s l) ea ∙ take_at (rows_up_to f w i) (replicate (64 - i * w) zeroᶠ) s (length_rows i ∙ sym es) in
        let back : drop (e - s) (drop s a) ≡ replicate (64 - (i * w + w)) zeroᶠ
        = ap (λ l. drop (e - s) l) after ∙ drop_at (replicate w zeroᶠ) (replicate (64 - (i * w + w)) zeroᶠ) (e - s) (length-replicate w zeroᶠ ∙ sym wide) in
        rw (front, back, r, q, add-one, rows_snoc i) (sym (append_assoc (rows_up_to f w i) (tab (f i) w) (replicate (64 - (i * w + w)) zeroᶠ)))

  pub block_all : (i : ℕ) (a : List Float) → i ≡ w → a ≡ rows_up_to f w i ++ replicate (64 - i * w) zeroᶠ → dense w a ≡ square w f
  unfolding square
  block_all i a e ea = ap (λ l. take (w * w) l) ea ∙ rw e (take_at (rows_up_to f w w) (replicate (64 - w * w) zeroᶠ) (w * w) (length_rows w))

-- a whole row's sums are the block's entries
row_sums : (m : Matrix) (first i : ℕ) (idx : List ℕ) (vals : List Float) (k : ℕ) → entries idx vals ≡ entries_of m (first + i) → k ≡ length idx → length idx ≡ length vals
    → (j : ℕ) → sum_at idx vals k first j ≡ block_entry m first i j
unfolding sum_at block_entry stored_at
row_sums m first i idx vals k ee ek s j = rw (stored_all idx vals k ek s, ee)

pub row_is : (m : Matrix) (first i : ℕ) (idx : List ℕ) (vals : List Float) (k n : ℕ) (row : List Float) → entries idx vals ≡ entries_of m (first + i) → k ≡ length idx → length idx ≡ length vals
    → row ≡ tab (sum_at idx vals k first) n → row ≡ tab (block_entry m first i) n
row_is m first i idx vals k n row ee ek s e = e ∙ tab_cong (sum_at idx vals k first) (block_entry m first i) n (λ j h. row_sums m first i idx vals k ee ek s j)
