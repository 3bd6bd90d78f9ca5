-- The call as a whole: its answer and the lists left, by the first check that fails or by the lists built.
use Rattle.std.specs.Prelude.{Err, Ok, Result}
use mathlib.Core.Path.{◌≡◌, refl, sym, ◌∙◌}
use mathlib.Core.Bool.{Bool, true, false, ◌&&◌}
use mathlib.Core.List.{List, ◌++◌}
use Prim.Native.Nat.{ℕ, ◌+◌, ◌*◌, ◌/◌, ◌%◌, ◌≤◌}
use native.Mathlib.Omega.{arith}
use native.Mathlib.Nat.{div-add-mod', div-le_self, div-lt_iff_lt-mul}
use borrow.Author.Tests.{eqb-true, leb-true}
use lib.Dec.{eqb, leb}
use lib.ListN.{length, get_or, replicate}
use lib.Ieee.{Float}
use Rattle.definitions.specs.Lists.{padded}
use Rattle.definitions.specs.Numbers.{zeroᶠ}
use Rattle.definitions.specs.Matrix.{Matrix, csr}
use Rattle.definitions.specs.Neighbours.{flat_neighbours}
use Rattle.definitions.specs.Block.{max_block}
use Rattle.definitions.specs.Refusal.{Outcome, refused, done, Checked, require, ◌>>=◌, keeps_all, result_left, work_left, cause_of}
use Rattle.definitions.specs.Answers.{answer_of}
use Rattle.definitions.specs.declared.Refusal.{Refusal}
use Rattle.definitions.specs.declared.Refusal.TheVariants.{NotSquare, BlockSize, NotMultiple, ListTooShort}
use Rattle.definitions.specs.declared.TwoLevelAggregation.{TwoLevelAggregation}
use Rattle.definitions.specs.declared.TwoLevelAggregation.TheVariants.{Contiguous, Graph, StrongGraph}
use Rattle.csr32.specs.Calls.{accepted_done, refused_is, Keeps, keeps_require, keeps_then, keeps_refused, goes_on, stops, result_kept, work_kept}
use Rattle.csr32.specs.Rows.{Rows, Real}
use Rattle.csr32.specs.Valid.{square_rows}
use Rattle.laws.proofs.Tests.{both_true}
use Rattle.adjacency.specs.Fits.{four, enough, fits_of}
use Rattle.adjacency.specs.WellFormed.{WellFormed}
use Rattle.adjacency.specs.Within.{compares, read_of, neighbours_within}
use Rattle.adjacency.proofs.Reading.{read_rows, read_real, read_keeps}
use Rattle.adjacency.proofs.Fitting.{enough_are}
use Rattle.adjacency.proofs.Reciprocal.{low_enough}

-- ---- the checks over sizes, as one step of the call

four_then : {A : Type 0} (p q r s : Bool) (x : A) → (require p NotSquare >>= λ _. require q BlockSize >>= λ _. require r NotMultiple >>= λ _. require s ListTooShort >>= λ _. done x) ≡ (four p q r s >>= λ _. done x)
unfolding four require ◌>>=◌
four_then false q r s x = refl
four_then true false r s x = refl
four_then true true false s x = refl
four_then true true true false x = refl
four_then true true true true x = refl

four_passed : (p q r s : Bool) → four p q r s ≡ done tt → ((p ≡ true) × (q ≡ true)) × ((r ≡ true) × (s ≡ true))
unfolding four require ◌>>=◌
four_passed false q r s e = ((cc, cc), (cc, cc))
four_passed true false r s e = ((cc, cc), (cc, cc))
four_passed true true false s e = ((cc, cc), (cc, cc))
four_passed true true true false e = ((cc, cc), (cc, cc))
four_passed true true true true e = ((refl, refl), (refl, refl))

fits_keeps : (p q r s : Bool) → Keeps (four p q r s)
unfolding four keeps_all cause_of
fits_keeps p q r s = keeps_then _ _ (keeps_require p _ refl) (λ _. keeps_then _ _ (keeps_require q _ refl) (λ _. keeps_then _ _ (keeps_require r _ refl) (λ _. keeps_require s _ refl)))

pub compares_strong : (g : TwoLevelAggregation) → g ≡ StrongGraph → true ≡ compares g
unfolding compares
compares_strong g e = rw e

pub compares_not : (g : TwoLevelAggregation) → (g ≡ StrongGraph → ⊥) → false ≡ compares g
unfolding compares
compares_not Contiguous h = refl
compares_not Graph h = refl
compares_not StrongGraph h = absurd (h refl)

-- the facts that the loops need
formed_of : (strong : Bool) (rows size : ℕ) (ptr cols : List ℕ) (vals : List Float) → Rows (csr rows rows ptr cols vals) → (strong ≡ true → Real vals) → 1 ≤ size → size ≤ 8 → rows % size ≡ 0 → WellFormed strong (rows / size) size ptr cols vals
formed_of strong rows size ptr cols vals w f h t m =
    let e : rows / size * size ≡ rows = omega (arith, div-add-mod' rows size, m) in
    let n : rows / size ≤ rows = div-le_self rows size in
    record {
      some = omega arith;
      few = omega (arith, n, w.few_rows);
      short = omega (arith, w.few_entries, w.same);
      long = rw e (omega (arith, w.long));
      both = sym w.same;
      rises = λ i k. w.rises i (rw e at k);
      within = λ i k. let k' : i ≤ rows = rw e at k in omega (arith, w.ends i (omega arith), w.same);
      inside = λ k i. (div-lt_iff_lt-mul {k = size} {x = get_or cols k 0} {y = rows / size} (omega arith)).1 (rw e (w.within k i));
      low = λ k i. low_enough (get_or cols k 0) size rows (w.within k i) t w.few_rows;
      real = f;
    }

module _ (g : TwoLevelAggregation) (a : Matrix) (size base : ℕ) (ints : List ℕ) (floats : List Float) where
  abbrev call : Outcome (List ℕ)
  call = neighbours_within g a size base (length ints) (length floats)

  abbrev fit : Checked
  fit = fits_of a.rows a.cols (length a.values) size base (length ints) (length floats)

  -- what the call answers and leaves
  abbrev pub Left : (Result (Unit {0}) Refusal) → List ℕ → List Float → Type 0
  Left r ints' floats' = (r ≡ answer_of call) × ((ints' ≡ result_left 0 call ints) × (floats' ≡ work_left zeroᶠ call floats))

  kept : (r : Refusal) → keeps_all r ≡ true → call ≡ refused r → Left (Err r) ints floats
  unfolding answer_of
  kept r k e = (rw e, (sym (result_kept 0 ints r k call e), sym (work_kept zeroᶠ floats r k call e)))

  module _ (x : (Result (Unit {0}) Refusal)) (ex : x ≡ answer_of (read_of g a)) where
    pub not_valid : (r : Refusal) → x ≡ Err r → Left (Err r) ints floats
    unfolding neighbours_within
    not_valid r e = let s : read_of g a ≡ refused r = refused_is (read_of g a) r (sym ex ∙ e) in kept r (keeps_refused (read_of g a) r (read_keeps g a) s) (stops (read_of g a) r _ s)

    module _ (e : x ≡ (Ok tt)) where
      read : read_of g a ≡ done tt
      read = accepted_done (read_of g a) (sym ex ∙ e)

      call_is : call ≡ (fit >>= λ _. done (replicate base 0 ++ flat_neighbours g a size (a.rows / size)))
      unfolding neighbours_within fits_of enough
      call_is = goes_on (read_of g a) tt _ read ∙ four_then (eqb a.cols a.rows) (leb 1 size && leb size max_block) (eqb (a.rows % size) 0) (enough (a.rows / size) (length a.values) base (length ints) (length floats)) (replicate base 0 ++ flat_neighbours g a size (a.rows / size))

      pub small : (a.rows ≤ 1048576) × (length a.values ≤ 16777216)
      small = let w = read_rows g a read in (w.few_rows, w.few_entries)

      module _ (y : (Result (Unit {0}) Refusal)) (ey : y ≡ answer_of fit) where
        pub not_fitting : (r : Refusal) → y ≡ Err r → Left (Err r) ints floats
        unfolding fits_of
        not_fitting r z =
            let f : fit ≡ refused r = refused_is fit r (sym ey ∙ z) in
            kept r (keeps_refused fit r (fits_keeps (eqb a.cols a.rows) (leb 1 size && leb size max_block) (eqb (a.rows % size) 0) (enough (a.rows / size) (length a.values) base (length ints) (length floats))) f) (call_is ∙ stops fit r _ f)

        module _ (z : y ≡ (Ok tt)) where
          passed : fit ≡ done tt
          passed = accepted_done fit (sym ey ∙ z)

          tests : ((eqb a.cols a.rows ≡ true) × ((leb 1 size && leb size max_block) ≡ true)) × ((eqb (a.rows % size) 0 ≡ true) × (enough (a.rows / size) (length a.values) base (length ints) (length floats) ≡ true))
          unfolding fits_of
          tests = four_passed (eqb a.cols a.rows) (leb 1 size && leb size max_block) (eqb (a.rows % size) 0) (enough (a.rows / size) (length a.values) base (length ints) (length floats)) passed

          square : a.cols ≡ a.rows
          square = eqb-true a.cols a.rows tests.0.0

          divides : a.rows % size ≡ 0
          divides = eqb-true (a.rows % size) 0 tests.1.0

          pub size_low : 1 ≤ size
          size_low = leb-true 1 size (both_true (leb 1 size) (leb size 8) tests.0.1).0

          pub size_high : size ≤ 8
          size_high = leb-true size 8 (both_true (leb 1 size) (leb size 8) tests.0.1).1

          walks : Rows (csr a.rows a.rows a.row_ptr a.col_idx a.values)
          walks = square_rows a.rows a.cols a.row_ptr a.col_idx a.values square (read_rows g a read)

          pub formed : (strong : Bool) → strong ≡ compares g → WellFormed strong (a.rows / size) size a.row_ptr a.col_idx a.values
          formed strong k = rw k (formed_of (compares g) a.rows size a.row_ptr a.col_idx a.values walks (read_real g a read) size_low size_high divides)

          pub rooms : (2 * (a.rows / size) ≤ base) × ((base + a.rows / size + 1 + length a.col_idx ≤ length ints) × (3 * (a.rows / size) ≤ length floats))
          rooms = let t = enough_are (a.rows / size) (length a.values) base (length ints) (length floats) tests.1.1 in (t.0, (omega (arith, t.1.0, walks.same), t.1.1))

          pub built : (ints' : List ℕ) (floats' : List Float)
              → ints' ≡ padded 0 (length ints) (replicate base 0 ++ flat_neighbours g (csr (a.rows / size * size) (a.rows / size * size) a.row_ptr a.col_idx a.values) size (a.rows / size)) → floats' ≡ replicate (length floats) zeroᶠ
              → Left (Ok tt) ints' floats'
          unfolding answer_of result_left work_left
          built ints' floats' p r =
              let n : a.rows / size * size ≡ a.rows = omega (arith, div-add-mod' a.rows size, divides) in
              let c : call ≡ done (replicate base 0 ++ flat_neighbours g a size (a.rows / size)) = call_is ∙ goes_on fit tt _ passed in
              let s : csr (a.rows / size * size) (a.rows / size * size) a.row_ptr a.col_idx a.values ≡ a = rw (n, square) in
              (rw c, (p ∙ rw (s, c), r ∙ rw c))
