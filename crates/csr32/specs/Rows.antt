-- What causes 1 to 7 leave of compressed rows, for every loop that walks them, and 8 of their values.
use Rattle.std.specs.Prelude.{ℕ, suc, ◌+◌, ◌-◌, ◌≤◌, ◌<◌, ◌≡◌, refl, Bool, true, false, not, List, [], ◌∷◌, leb, length, get_or, Float}
use Rattle.std.proofs.Common.{arith, leb-true, eqb-true}
use Rattle.std.specs.Float.{nan}
use Rattle.std.specs.Float.Ieee.Scale.{finite}
use Rattle.std.proofs.lemmas.Bool.{not-true, not-false}
use Rattle.definitions.specs.Lists.{any, falls}
use Rattle.definitions.specs.Refusal.{refused, done, Checked, require, ◌>>=◌}
use Rattle.definitions.specs.declared.Refusal.{Refusal}
use Rattle.definitions.specs.Matrix.{Matrix, structure_of, valid_of, max_rows, max_entries}
use Rattle.laws.proofs.Tests.{three_true}
use Rattle.laws.proofs.Scans.{none_any, all_below_lem, no_falls, no_falls_to}
use Rattle.laws.proofs.Outcomes.{test_true, last_true}

-- some value is not finite
abbrev pub unreal : List Float → Bool
unreal vals = any (λ v. not (finite v)) vals

pub record Rows (a : Matrix) : Type 0 where
  pub few_rows : a.rows ≤ max_rows
  pub few_cols : a.cols ≤ max_rows
  pub few_entries : length a.values ≤ max_entries
  pub long : length a.row_ptr ≡ suc a.rows
  pub same : length a.col_idx ≡ length a.values
  pub first : get_or a.row_ptr 0 0 ≡ 0
  pub last : get_or a.row_ptr a.rows 0 ≡ length a.values
  pub rises : (i : ℕ) → i < a.rows → get_or a.row_ptr i 0 ≤ get_or a.row_ptr (suc i) 0
  pub ends : (i : ℕ) → i < suc a.rows → get_or a.row_ptr i 0 ≤ length a.values
  pub within : (k : ℕ) → k < length a.col_idx → get_or a.col_idx k 0 < a.cols

-- every value is finite
abbrev pub Real : List Float → Type 0
Real vals = (k : ℕ) → k < length vals → finite (get_or vals k nan) ≡ true

first_same : (p : List ℕ) (n : ℕ) → length p ≡ n + 1 → get_or p 0 1 ≡ 0 → get_or p 0 0 ≡ 0
first_same [] n l e = absurd (omega arith)
first_same (x ∷ p) n l e = e

-- THE LAW OF A MATRIX WHOSE STRUCTURE IS ACCEPTED
pub structure_rows : (a : Matrix) → structure_of a ≡ done tt → Rows a
unfolding structure_of
structure_rows a e =
    let p1 = test_true _ _ _ _ e in
    let small = three_true (leb a.rows max_rows) (leb a.cols max_rows) (leb (length a.values) max_entries) p1.0 in
    let p2 = test_true _ _ _ _ p1.1 in
    let p3 = test_true _ _ _ _ p2.1 in
    let p4 = test_true _ _ _ _ p3.1 in
    let p5 = test_true _ _ _ _ p4.1 in
    let p6 = test_true _ _ _ _ p5.1 in
    let p7 = last_true _ _ p6.1 in
    let long : length a.row_ptr ≡ a.rows + 1 = eqb-true _ _ p2.0 in
    let last : get_or a.row_ptr a.rows 0 ≡ length a.values = eqb-true _ _ p5.0 in
    let rising : falls a.row_ptr ≡ false = not-true _ p6.0 in
    record {
      few_rows = leb-true _ _ small.0;
      few_cols = leb-true _ _ small.1;
      few_entries = leb-true _ _ small.2;
      long = omega arith;
      same = eqb-true _ _ p3.0;
      first = first_same a.row_ptr a.rows long (eqb-true _ _ p4.0);
      last = last;
      rises = λ i h. no_falls a.row_ptr rising i (omega arith);
      ends = λ i h. let q : i + (a.rows - i) ≡ a.rows = omega arith in rw (← last) (rw q at (no_falls_to a.row_ptr rising (a.rows - i) i (omega arith)));
      within = all_below_lem _ a.col_idx (not-true _ p7);
    }

-- and of one that is valid
valid_parts : (o : Checked) (b : Bool) (r : Refusal) → (o >>= (λ _. require b r)) ≡ done tt → (o ≡ done tt) × (b ≡ true)
unfolding ◌>>=◌ require
valid_parts (done tt) true r e = (refl, refl)
valid_parts (done tt) false r e = (refl, cc)
valid_parts (refused q) b r e = (cc, cc)

pub valid_structure : (a : Matrix) → valid_of a ≡ done tt → structure_of a ≡ done tt
unfolding valid_of
valid_structure a e = (valid_parts _ _ _ e).0

pub valid_real : (a : Matrix) → valid_of a ≡ done tt → Real a.values
unfolding valid_of
valid_real a e k h = not-false _ (none_any _ nan a.values (not-true _ (valid_parts _ _ _ e).1) k h)

pub rows_of : (a : Matrix) → valid_of a ≡ done tt → Rows a
rows_of a e = structure_rows a (valid_structure a e)
