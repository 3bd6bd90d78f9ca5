-- The calls' checks, from what the code has at each return.
use Rattle.std.specs.Prelude.{Err, Ok}
use Prim.Native.Nat.{ℕ, ◌+◌, ◌-◌, ◌*◌, ◌/◌, ◌%◌, ◌<◌, ◌≤◌}
use mathlib.Core.Path.{◌≡◌, refl, sym, ◌∙◌}
use mathlib.Core.Bool.{Bool, true, false, not, ◌&&◌}
use mathlib.Core.List.{List}
use native.Mathlib.Omega.{arith}
use native.Mathlib.Nat.{mul-le-mul_right, div-add-mod', div-lt_iff_lt-mul, mod-lt}
use lib.Dec.{eqb, leb}
use lib.ListN.{length, get_or, replicate}
use lib.Ieee.{Float}
use borrow.Author.Tests.{eqb-true, not-true}
use Rattle.definitions.specs.Lists.{square, padded, any, falls}
use Rattle.definitions.specs.Refusal.{Outcome, refused, done, Checked, require, ◌>>=◌, result_left, work_left}
use Rattle.definitions.specs.Answers.{answer_of}
use Rattle.definitions.specs.Matrix.{Matrix, max_rows, structure_of, row_of}
use Rattle.definitions.specs.Block.{max_block}
use Rattle.definitions.specs.Transfer.{coarse_column}
use Rattle.definitions.specs.Coarse.{constant_entry, galerkin_entry, averaged_square}
use Rattle.definitions.specs.declared.Refusal.{Refusal}
use Rattle.definitions.specs.Setup.{max_coarse}
use Rattle.laws.proofs.Scans.{all_below_lem, no_falls, no_falls_to}
use Rattle.causes.proofs.Left.{accept_left, refuse_left, work_refused as refused_work}
use Rattle.csr32.specs.Calls.{accepted_done, goes_on, stops}
use Rattle.laws.proofs.Tests.{both_true, three_true}
use Rattle.laws.specs.Bounds.{Compressed, Grouped}
use Rattle.coarse_matrix.specs.Calls.{constant_checks, constant_checked, constant_coarse_call, transfer_fits, galerkin_checks, galerkin_checked, galerkin_coarse_call}

-- a call that is its checks and then a result: by its cause a refusal leaves the lists
module _ {B : Type 0} (k : Checked) (x : List B) (o : Outcome (List B)) (eo : o ≡ (k >>= (λ _. done x))) where
  refused_with : (r : Refusal) → k ≡ refused r → o ≡ refused r
  refused_with r h = eo ∙ stops k r (λ _. done x) h

  done_with : k ≡ done tt → o ≡ done x
  done_with h = eo ∙ goes_on k tt (λ _. done x) h

  -- the answer, and the list for the result
  pub told_refused : (z : B) (w y : List B) (r : Refusal) → k ≡ refused r → y ≡ result_left z (refused r) w → (Err r ≡ answer_of o) × (y ≡ result_left z o w)
  told_refused z w y r h ey = refuse_left z o w y r (refused_with r h) ey

  pub told_done : (z : B) (w y : List B) → k ≡ done tt → y ≡ padded z (length w) x → ((Ok tt) ≡ answer_of o) × (y ≡ result_left z o w)
  told_done z w y h ey = accept_left z o w y x (done_with h) ey

  -- a work list
  pub work_refused : {A : Type 0} (a : A) (u s : List A) (r : Refusal) → k ≡ refused r → s ≡ result_left a (refused r) u → s ≡ work_left a o u
  work_refused a u s r h es = es ∙ sym (refused_work a o u r (refused_with r h))

  pub work_done : {A : Type 0} (a : A) (u s : List A) → k ≡ done tt → s ≡ replicate (length u) a → s ≡ work_left a o u
  unfolding work_left
  work_done a u s h es = es ∙ sym (rw (done_with h))

-- ---- in order: a check and those after it

pub require_then : (b : Bool) (r : Refusal) (next : Unit {0} → Checked) → (require b r >>= next) ≡ elim b [ true ↦ next tt | false ↦ refused r ]
unfolding require ◌>>=◌
require_then true r next = refl
require_then false r next = refl

pub structure_then : (a : Matrix) (next : Unit {0} → Checked) → (Ok tt) ≡ answer_of (structure_of a) → (structure_of a >>= next) ≡ next tt
structure_then a next e = goes_on (structure_of a) tt next (accepted_done _ (sym e))

-- all passed
pub constant_passed : (a : Matrix) (size : ℕ) (ids : List ℕ) (groups lent : ℕ) → groups ≤ max_rows → (Ok tt) ≡ answer_of (structure_of a) → a.rows ≡ a.cols → 0 < size → size ≤ max_block → a.rows % size ≡ 0
    → groups * size ≤ max_coarse → groups * size * (groups * size) ≤ lent → length ids ≡ a.rows / size → any (λ g. leb groups g) ids ≡ false → constant_checked a size ids groups lent ≡ done tt
unfolding constant_checked constant_checks require
constant_passed a size ids groups lent few shaped same some small whole coarse room nodes below = grind (arith, require_then, structure_then)

pub galerkin_passed : (a : Matrix) (c : ℕ) (ptr idx : List ℕ) (count ints floats : ℕ) → (Ok tt) ≡ answer_of (structure_of a) → a.rows ≡ a.cols → c ≤ max_coarse → 2 * c ≤ ints → c * c + c ≤ floats
    → transfer_fits a.rows c ptr idx count ≡ true → galerkin_checked a c ptr idx count ints floats ≡ done tt
unfolding galerkin_checked galerkin_checks require
galerkin_passed a c ptr idx count ints floats shaped same small room sums fit = grind (arith, require_then, structure_then)

-- ---- what an accepted call has

pub grouped_of : (rows size : ℕ) (ids : List ℕ) (groups : ℕ) → 0 < size → rows % size ≡ 0 → groups * size ≤ max_coarse → length ids ≡ rows / size → any (λ g. leb groups g) ids ≡ false → Grouped size ids rows (groups * size)
unfolding coarse_column
grouped_of rows size ids groups some whole small nodes below =
    record { some = some; known = known; within = within; small = small }
  where
    known : (i : ℕ) → i < rows → i / size < length ids
    known i h = let e : rows ≡ rows / size * size = omega (arith, div-add-mod' rows size) in rw nodes ((div-lt_iff_lt-mul some).1 (omega (arith, e)))

    within : (i : ℕ) → i < rows → get_or ids (i / size) 0 * size + i % size < groups * size
    within i h = omega (arith, mul-le-mul_right size (all_below_lem groups ids below (i / size) (known i h)), mod-lt i some)

-- ---- the transfer's rows

six_true : (a b c d e f : Bool) → (a && b && c && d && e && f) ≡ true → (a ≡ true) × (b ≡ true) × (c ≡ true) × (d ≡ true) × (e ≡ true) × (f ≡ true)
six_true a b c d e f h =
    let p = three_true (a && b && c && d) e f h in
    let q = three_true (a && b) c d p.0 in
    let r = both_true a b q.0 in
    (r.0, r.1, q.1, q.2, p.1, p.2)

pub fits_rows : (rows c : ℕ) (ptr idx : List ℕ) (count : ℕ) → transfer_fits rows c ptr idx count ≡ true → Compressed rows c ptr idx count
unfolding transfer_fits
fits_rows rows c ptr idx count h =
    let p = six_true (eqb (length ptr) (rows + 1)) (eqb (length idx) count) (eqb (get_or ptr 0 1) 0) (eqb (get_or ptr rows 0) count) (not (falls ptr)) (not (any (λ k. leb c k) idx)) h in
    let long : length ptr ≡ rows + 1 = eqb-true _ _ p.0 in
    let last : get_or ptr rows 0 ≡ count = eqb-true _ _ p.3 in
    let rising : falls ptr ≡ false = not-true _ p.4 in
    record {
      long = omega arith;
      rises = λ i k. no_falls ptr rising i (omega arith);
      ends = λ i k. let q : i + (rows - i) ≡ rows = omega arith in rw (← last) (rw q at (no_falls_to ptr rising (rows - i) i (omega arith)));
      same = eqb-true _ _ p.1;
      within = all_below_lem c idx (not-true _ p.5);
    }

-- ---- the calls: their checks, and the result

pub constant_call : (a : Matrix) (size : ℕ) (ids : List ℕ) (groups lent : ℕ)
    → constant_coarse_call a size ids groups lent ≡ (constant_checked a size ids groups lent >>= (λ _. done (averaged_square (groups * size) (square (groups * size) (constant_entry a (coarse_column size ids))))))
unfolding constant_coarse_call
constant_call a size ids groups lent = refl

pub galerkin_call : (a : Matrix) (c : ℕ) (ptr idx : List ℕ) (weights : List Float) (ints floats : ℕ)
    → galerkin_coarse_call a c ptr idx weights ints floats ≡ (galerkin_checked a c ptr idx (length weights) ints floats >>= (λ _. done (averaged_square c (square c (galerkin_entry a (row_of ptr idx weights))))))
unfolding galerkin_coarse_call
galerkin_call a c ptr idx weights ints floats = refl
