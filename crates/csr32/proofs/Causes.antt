-- The checks of a matrix, one law for a check that passes and one for a check that fails: `search causes` goes through them in their order.
use Rattle.std.specs.Prelude.{Err, Ok, Result}
use mathlib.Core.Path.{◌≡◌, refl, ap, sym, ◌∙◌}
use mathlib.Core.Bool.{Bool, true, false, not, ◌&&◌}
use mathlib.Core.List.{List, [], ◌∷◌}
use Prim.Native.Nat.{ℕ, ◌+◌, ◌<◌, ◌≤◌}
use native.Mathlib.Omega.{arith}
use lib.Dec.{leb, eqb}
use lib.ListN.{length, get_or}
use borrow.Author.Tests.{le-leb, lt-leb, eq-eqb, ne_eqb}
use Rattle.definitions.specs.Refusal.{Checked, require, ◌>>=◌}
use Rattle.definitions.specs.Lists.{any, falls}
use Rattle.definitions.specs.Matrix.{Matrix, structure_of, valid_of, max_rows, max_entries}
use Rattle.definitions.specs.Answers.{answer_of}
use Rattle.definitions.specs.declared.Refusal.{Refusal}
use Rattle.definitions.specs.declared.Refusal.TheVariants.{PointerFalls, ColumnOutside, ValueNotFinite}
use Rattle.csr32.specs.Calls.{accepted_done, refused_is, goes_on, stops}
use Rattle.csr32.specs.Rows.{unreal}

module _ (r : Refusal) (next : Unit {0} → Checked) (x : (Result (Unit {0}) Refusal)) where
  passes : (b : Bool) → b ≡ true → x ≡ answer_of (next tt) → x ≡ answer_of (require b r >>= next)
  unfolding require ◌>>=◌
  passes b e k = rw e k

  pub passes_limits : (rows cols n m e : ℕ) → rows ≤ m → cols ≤ m → n ≤ e → x ≡ answer_of (next tt) → x ≡ answer_of (require (leb rows m && leb cols m && leb n e) r >>= next)
  passes_limits rows cols n m e p q s k = passes (leb rows m && leb cols m && leb n e) (rw (le-leb rows m p, le-leb cols m q, le-leb n e s)) k

  pub passes_eq : (m n : ℕ) → m ≡ n → x ≡ answer_of (next tt) → x ≡ answer_of (require (eqb m n) r >>= next)
  passes_eq m n e k = passes (eqb m n) (eq-eqb m n e) k

  pub passes_same : (t m n : ℕ) → t ≡ m → t ≡ n → x ≡ answer_of (next tt) → x ≡ answer_of (require (eqb m n) r >>= next)
  passes_same t m n e f k = passes_eq m n (sym e ∙ f) k

  pub passes_not : (b t : Bool) → t ≡ b → t ≡ false → x ≡ answer_of (next tt) → x ≡ answer_of (require (not b) r >>= next)
  passes_not b t e f k = passes (not b) (ap not (sym e ∙ f)) k

module _ (r : Refusal) (next : Unit {0} → Checked) where
  fails : (b : Bool) → b ≡ false → Err r ≡ answer_of (require b r >>= next)
  unfolding require ◌>>=◌ answer_of
  fails b e = rw e

  pub fails_rows : (rows m : ℕ) (b d : Bool) → m < rows → Err r ≡ answer_of (require (leb rows m && b && d) r >>= next)
  fails_rows rows m b d h = fails (leb rows m && b && d) (rw (lt-leb rows m h))

  pub fails_cols : (rows cols m : ℕ) (d : Bool) → rows ≤ m → m < cols → Err r ≡ answer_of (require (leb rows m && leb cols m && d) r >>= next)
  fails_cols rows cols m d p h = fails (leb rows m && leb cols m && d) (rw (le-leb rows m p, lt-leb cols m h))

  pub fails_entries : (rows cols n m e : ℕ) → rows ≤ m → cols ≤ m → e < n → Err r ≡ answer_of (require (leb rows m && leb cols m && leb n e) r >>= next)
  fails_entries rows cols n m e p q h = fails (leb rows m && leb cols m && leb n e) (rw (le-leb rows m p, le-leb cols m q, lt-leb n e h))

  pub fails_ne : (m n : ℕ) → (m ≡ n → ⊥) → Err r ≡ answer_of (require (eqb m n) r >>= next)
  fails_ne m n h = fails (eqb m n) (ne_eqb m n h)

  pub fails_same : (t m n : ℕ) → t ≡ m → (t ≡ n → ⊥) → Err r ≡ answer_of (require (eqb m n) r >>= next)
  fails_same t m n e h = fails_ne m n (λ q. h (e ∙ q))

  pub fails_not : (b t : Bool) → t ≡ b → t ≡ true → Err r ≡ answer_of (require (not b) r >>= next)
  fails_not b t e f = fails (not b) (ap not (sym e ∙ f))

-- the last check
pub ends_not : (r : Refusal) (b t : Bool) → t ≡ b → t ≡ false → (Ok tt) ≡ answer_of (require (not b) r)
unfolding require answer_of
ends_not r b t e f = rw (← e, f)

pub ends_fails : (r : Refusal) (b t : Bool) → t ≡ b → t ≡ true → Err r ≡ answer_of (require (not b) r)
unfolding require answer_of
ends_fails r b t e f = rw (← e, f)

-- an element that is there does not depend on what stands for one that is not
pub first_same : (p : List ℕ) (n : ℕ) → length p ≡ n + 1 → get_or p 0 0 ≡ get_or p 0 1
first_same [] n e = absurd (omega arith)
first_same (x ∷ p) n e = refl

pub passes_first : (r : Refusal) (next : Unit {0} → Checked) (x : (Result (Unit {0}) Refusal)) (p : List ℕ) (n : ℕ) → length p ≡ n + 1 → get_or p 0 0 ≡ 0 → x ≡ answer_of (next tt)
    → x ≡ answer_of (require (eqb (get_or p 0 1) 0) r >>= next)
passes_first r next x p n l e k = passes_same r next x (get_or p 0 0) (get_or p 0 1) 0 (first_same p n l) e k

pub fails_first : (r : Refusal) (next : Unit {0} → Checked) (p : List ℕ) (n : ℕ) → length p ≡ n + 1 → (get_or p 0 0 ≡ 0 → ⊥) → Err r ≡ answer_of (require (eqb (get_or p 0 1) 0) r >>= next)
fails_first r next p n l e = fails_same r next (get_or p 0 0) (get_or p 0 1) 0 (first_same p n l) e

pub ruleset causes = (
  passes_limits,
  passes_first,
  passes_eq,
  passes_same,
  passes_not,
  fails_rows,
  fails_cols,
  fails_entries,
  fails_first,
  fails_ne,
  fails_same,
  fails_not,
  ends_not,
  ends_fails,
)

-- the checks that scan a list, once those before them have passed
abbrev pub scans_of : Matrix → Checked
scans_of a = require (not (falls a.row_ptr)) PointerFalls >>= (λ _. require (not (any (λ c. leb a.cols c) a.col_idx)) ColumnOutside)

pub shape_passed : (a : Matrix) (x : (Result (Unit {0}) Refusal)) (last : ℕ) → a.rows ≤ max_rows → a.cols ≤ max_rows → length a.values ≤ max_entries
    → length a.row_ptr ≡ a.rows + 1 → length a.col_idx ≡ length a.values → get_or a.row_ptr 0 0 ≡ 0 → last ≡ get_or a.row_ptr a.rows 0 → last ≡ length a.values
    → x ≡ answer_of (scans_of a) → x ≡ answer_of (structure_of a)
unfolding structure_of
shape_passed a x last l1 l2 l3 h2 h3 h4 e5 h5 k = search causes depth 14

-- 8, behind those
module _ (a : Matrix) (x : (Result (Unit {0}) Refusal)) (e : x ≡ answer_of (structure_of a)) where
  pub structure_fails : (r : Refusal) → x ≡ Err r → Err r ≡ answer_of (valid_of a)
  unfolding valid_of answer_of
  structure_fails r h = rw (stops (structure_of a) r _ (refused_is (structure_of a) r (sym e ∙ h)))

  module _ (h : x ≡ (Ok tt)) (t : Bool) (f : t ≡ unreal a.values) where
    passes_structure : answer_of (valid_of a) ≡ answer_of (require (not (unreal a.values)) ValueNotFinite)
    unfolding valid_of
    passes_structure = ap answer_of (goes_on (structure_of a) tt _ (accepted_done (structure_of a) (sym e ∙ h)))

    pub values_fail : t ≡ true → Err ValueNotFinite ≡ answer_of (valid_of a)
    values_fail g = ends_fails ValueNotFinite (unreal a.values) t f g ∙ sym passes_structure

    pub values_pass : t ≡ false → (Ok tt) ≡ answer_of (valid_of a)
    values_pass g = ends_not ValueNotFinite (unreal a.values) t f g ∙ sym passes_structure
