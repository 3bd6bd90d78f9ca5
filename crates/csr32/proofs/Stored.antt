-- The entries stored from one position up to another, as a loop walks them: what is left at its head, and what is passed behind it.
use Prim.Native.Nat.{ℕ, zero, suc, ◌+◌, ◌-◌, ◌≤◌, ◌<◌}
use mathlib.Core.Path.{◌≡◌, ap, ◌∙◌}
use mathlib.Core.Bool.{Bool, true, false}
use mathlib.Core.List.{List, [], ◌∷◌, ◌++◌, zip_with, append-nil}
use native.Mathlib.Omega.{arith}
use native.Mathlib.Numerals.{add-one}
use lib.ListN.{length, get_or, take}
use lib.Seq.{slice_empty, slice-cons, take-length}
use lib.Ieee.{Float, nan}
use Rattle.definitions.specs.Matrix.{Matrix, Entry, stored, values_where}
use Rattle.csr32.specs.Parts.{entries}
use Rattle.csr32.specs.Rows.{Rows}
pub use Rattle.laws.proofs.Kept.{where_hit, where_miss, where_none, where_append}

-- the entry at position k
abbrev pub entry_at : List ℕ → List Float → ℕ → Entry
entry_at idx vals k = record { col = get_or idx k 0; value = get_or vals k nan }

pub stored_none : (idx : List ℕ) (vals : List Float) (e : ℕ) → stored idx vals e e ≡ []
unfolding zip_with
stored_none idx vals e = rw (slice_empty e idx)

-- the first entry of what is left
pub stored_cons : (idx : List ℕ) (vals : List Float) (k e : ℕ) → k < e → e ≤ length idx → e ≤ length vals
    → stored idx vals k e ≡ entry_at idx vals k ∷ stored idx vals (suc k) e
unfolding zip_with
stored_cons idx vals k e h p q = rw (slice-cons k e idx 0 h p, slice-cons k e vals nan h q)

-- one entry more behind what is passed
pub stored_snoc : (idx : List ℕ) (vals : List Float) (n k : ℕ) → k + n < length idx → k + n < length vals
    → stored idx vals k (suc (k + n)) ≡ stored idx vals k (k + n) ++ (entry_at idx vals (k + n) ∷ [])
stored_snoc idx vals zero k p q =
    let z : k + 0 ≡ k = omega arith in
    rw z (stored_cons idx vals k (suc k) (omega arith) (omega arith) (omega arith) ∙ rw (stored_none idx vals (suc k), stored_none idx vals k))
stored_snoc idx vals (suc n) k p q =
    let z : k + suc n ≡ suc k + n = omega arith in
    rw z
    (stored_cons idx vals k (suc (suc k + n)) (omega arith) (omega arith) (omega arith)
    ∙ rw (stored_cons idx vals k (suc k + n) (omega arith) (omega arith) (omega arith), stored_snoc idx vals n (suc k) (omega arith) (omega arith)))

pub stored_more : (idx : List ℕ) (vals : List Float) (a k : ℕ) → a ≤ k → k < length idx → length idx ≡ length vals
    → stored idx vals a (k + 1) ≡ stored idx vals a k ++ (entry_at idx vals k ∷ [])
stored_more idx vals a k h p q =
    let z : a + (k - a) ≡ k = omega arith in
    rw (add-one k) (rw z at (stored_snoc idx vals (k - a) a (omega arith) (omega arith)))

-- where row i begins and ends, as the code reads it
pub row_fits : (a : Matrix) → Rows a → (i from to : ℕ) → i < a.rows → from ≡ get_or a.row_ptr i 0 → to ≡ get_or a.row_ptr (i + 1) 0
    → (from ≤ to) × (to ≤ length a.values) × (length a.col_idx ≡ length a.values)
row_fits a w i from to h e f =
    let g : to ≡ get_or a.row_ptr (suc i) 0 = f ∙ rw add-one in
    (omega (arith, w.rises i h), omega (arith, w.ends (suc i) (omega arith)), w.same)

-- ---- the numbers that the entries from a up to k store at columns that pass

abbrev pub numbers_at : (ℕ → Bool) → List ℕ → List Float → ℕ → ℕ → List Float
numbers_at p idx vals a k = values_where p (stored idx vals a k)

module _ (p : ℕ → Bool) (idx : List ℕ) (vals : List Float) (a : ℕ) where
  pub numbers_none : numbers_at p idx vals a a ≡ []
  numbers_none = rw (stored_none idx vals a) (where_none p)

  module _ (k : ℕ) (h : a ≤ k) (l : k < length idx) (s : length idx ≡ length vals) where
    pub numbers_hit : p (get_or idx k 0) ≡ true → numbers_at p idx vals a (k + 1) ≡ numbers_at p idx vals a k ++ (get_or vals k nan ∷ [])
    numbers_hit e =
        rw (stored_more idx vals a k h l s, where_append p (stored idx vals a k) (entry_at idx vals k ∷ []), where_hit p (entry_at idx vals k) [] e, where_none p)

    pub numbers_miss : p (get_or idx k 0) ≡ false → numbers_at p idx vals a (k + 1) ≡ numbers_at p idx vals a k
    numbers_miss e =
        rw (stored_more idx vals a k h l s, where_append p (stored idx vals a k) (entry_at idx vals k ∷ []), where_miss p (entry_at idx vals k) [] e, where_none p, append-nil)

-- all entries of two lists of one length
pub stored_all : (idx : List ℕ) (vals : List Float) (n : ℕ) → n ≡ length idx → length idx ≡ length vals → stored idx vals 0 n ≡ entries idx vals
stored_all idx vals n e s =
    let f : n ≡ length vals = e ∙ s in
    ap (λ l. entries l (take n vals)) (ap (λ k. take k idx) e ∙ take-length idx) ∙ ap (λ l. entries idx l) (ap (λ k. take k vals) f ∙ take-length vals)
