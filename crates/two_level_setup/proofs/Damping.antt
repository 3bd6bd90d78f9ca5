-- The damping factor: the diagonal stands behind the block factors, and the estimate reads it there.
use Rattle.std.specs.Prelude.{Err, Ok, Result}
use mathlib.Core.Path.{◌≡◌, refl, ap, sym, ◌∙◌}
use mathlib.Core.List.{List, [], ◌∷◌, ◌++◌}
use Prim.Native.Nat.{ℕ, zero, suc, ◌+◌, ◌-◌, ◌*◌}
use native.Mathlib.Omega.{arith}
use lib.ListN.{length, take, drop, length-append}
use lib.Seq.{length-take-le}
use lib.Ieee.{Float}
use borrow.Author.Tests.{le-leb, eq-eqb}
use borrow.Rule.Slice.PartMut.{put_mid, mid_len}
use Rattle.definitions.specs.Lists.{padded, between}
use Rattle.definitions.specs.Numbers.{zeroᶠ, total}
use Rattle.definitions.specs.Refusal.{Outcome, refused, done, result_left, work_left}
use Rattle.definitions.specs.Matrix.{Matrix, valid_of, stored_at}
use Rattle.definitions.specs.Diagonal.{diagonal_from, diagonal_of, diagonal_call, diagonal_left}
use Rattle.definitions.specs.Estimate.{estimate_of, estimate_call, estimate_work_left}
use Rattle.definitions.specs.Answers.{answer_of, estimate_answer}
use Rattle.definitions.specs.declared.Refusal.{Refusal}
use Rattle.definitions.specs.declared.Refusal.TheVariants.{NotSquare, ListTooShort, WrongLength, MissingDiagonal}
use Rattle.laws.proofs.Outcomes.{done_inj, refused_not_done}
use Rattle.csr32.specs.Calls.{goes_on, stops, passed, refused_is}
use Rattle.two_level_setup.specs.Fit.{DampingFit}
use Rattle.two_level_setup.specs.Promises.{Damped}
use Rattle.two_level_setup.proofs.Lending.{padded_full, put_behind, put_read, put_zeros}
use Rattle.definitions.specs.declared.Estimated.{Estimated}

module _ (a : Matrix) where
  sums_length : (left i : ℕ) (sums d : List Float) → diagonal_from a left i sums ≡ done d → length d ≡ length sums + left
  unfolding diagonal_from
  sums_length zero i sums d e = let q : sums ≡ d = cc in rw (← q) (omega arith)
  sums_length (suc left) i sums d e = go (stored_at a i i) (λ k. sums_length left (suc i) (sums ++ (total (stored_at a i i) ∷ [])) d k) e
    where
      go : (s : List Float) → (diagonal_from a left (suc i) (sums ++ (total (stored_at a i i) ∷ [])) ≡ done d → length d ≡ length (sums ++ (total (stored_at a i i) ∷ [])) + left) → ◌≡◌ {A = Outcome (List Float)} (elim s [ [] ↦ refused (MissingDiagonal i) | v ∷ vs ↦ diagonal_from a left (suc i) (sums ++ (total (stored_at a i i) ∷ [])) ]) (done d) → length d ≡ length sums + suc left
      go [] q k = absurd (cc)
      go (v ∷ vs) q k = omega (arith, q k, length-append sums (total (stored_at a i i) ∷ []))

  pub diagonal_length : (d : List Float) → diagonal_of a ≡ done d → length d ≡ a.rows
  unfolding diagonal_of
  diagonal_length d e = sums_length a.rows 0 [] d e ∙ omega arith

module _ (a : Matrix) (used : ℕ) (floats work : List Float) (w : DampingFit a used (length floats) (length work)) where
  -- where the diagonal goes
  abbrev place : List Float
  place = between used (used + a.rows) floats

  place_long : length place ≡ a.rows
  place_long = mid_len used (used + a.rows) floats (omega (arith, w.floats)) ∙ omega arith

  diagonal_passes : diagonal_call a (length place) ≡ diagonal_of a
  unfolding diagonal_call
  diagonal_passes =
      goes_on (valid_of a) tt _ w.valid
      ∙ goes_on _ tt _ (passed _ NotSquare (eq-eqb a.cols a.rows w.square))
      ∙ goes_on _ tt _ (passed _ ListTooShort (le-leb a.rows (length place) (omega (arith, place_long))))

  -- what the estimate is lent of the work floats
  abbrev lent : List Float
  lent = take (3 * a.rows) work

  estimate_passes : (d : List Float) → length d ≡ a.rows → estimate_call a d (length lent) ≡ estimate_of a d
  unfolding estimate_call
  estimate_passes d l =
      goes_on (valid_of a) tt _ w.valid
      ∙ goes_on _ tt _ (passed _ NotSquare (eq-eqb a.cols a.rows w.square))
      ∙ goes_on _ tt _ (passed _ (WrongLength a.rows (length d)) (eq-eqb (length d) a.rows l))
      ∙ goes_on _ tt _ (passed _ ListTooShort (le-leb (3 * a.rows) (length lent) (rw (length-take-le (3 * a.rows) work w.work) (omega arith))))

  module _ (x : (Result (Unit {0}) Refusal)) (ex : x ≡ answer_of (diagonal_call a (length place))) where
    pub diagonal_refused : (r : Refusal) (floats' work' : List Float) → x ≡ Err r → Damped a used floats work (Err r) floats' work'
    unfolding estimate_answer
    diagonal_refused r floats' work' e =
        let k : diagonal_of a ≡ refused r = refused_is (diagonal_of a) r (ap answer_of (sym diagonal_passes) ∙ sym ex ∙ e) in
        record {
          answer = sym (ap estimate_answer (stops (diagonal_of a) r (λ d. estimate_of a d) k));
          diagonal = λ d q. absurd (refused_not_done (sym k ∙ q));
          clear = λ d est q. absurd (refused_not_done (sym k ∙ q));
        }

    has_diagonal : (p : Outcome (List Float)) → (Ok tt) ≡ answer_of p → (l : List Float) × (p ≡ done l)
    unfolding answer_of
    has_diagonal (done l) e = (l, refl)
    has_diagonal (refused r) e = ([], cc)

    abbrev after : List Float → List Float
    after more = put_mid used (used + a.rows - used) floats more

    pub damped : x ≡ (Ok tt) → (more : List Float) → more ≡ diagonal_left a place → (r : (Result Estimated Refusal)) → r ≡ estimate_answer (estimate_call a (between used (used + a.rows) (after more)) (length lent))
        → (back : List Float) → back ≡ estimate_work_left a (between used (used + a.rows) (after more)) lent → Damped a used floats work r (after more) (back ++ drop (3 * a.rows) work)
    unfolding diagonal_left result_left estimate_work_left work_left
    damped e more em r er back eb =
        let h = has_diagonal (diagonal_of a) (sym e ∙ ex ∙ ap answer_of diagonal_passes) in
        let ld : length h.0 ≡ a.rows = diagonal_length a h.0 h.1 in
        let m : more ≡ h.0 = em ∙ ap (λ p. result_left zeroᶠ p place) (diagonal_passes ∙ h.1) ∙ padded_full zeroᶠ (length place) h.0 (ld ∙ sym place_long) in
        let lm : length more ≡ used + a.rows - used = ap length m ∙ ld ∙ less used a.rows in
        let rd : between used (used + a.rows) (after more) ≡ h.0 = put_read zeroᶠ used (used + a.rows) floats more (omega (arith, w.floats)) lm ∙ m in
        let k : estimate_call a (between used (used + a.rows) (after more)) (length lent) ≡ estimate_of a h.0 = ap (λ l. estimate_call a l (length lent)) rd ∙ estimate_passes h.0 ld in
        record {
          answer = er ∙ ap estimate_answer (k ∙ sym (goes_on (diagonal_of a) h.0 (λ d. estimate_of a d) h.1));
          diagonal = λ d q factors lf stand. put_behind zeroᶠ used (used + a.rows) floats factors more stand lf lm ∙ ap (λ l. padded zeroᶠ (length floats) (factors ++ l)) (m ∙ done_inj (sym h.1 ∙ q));
          clear = λ d est q p z.
              put_zeros zeroᶠ (3 * a.rows) work back z (eb ∙ ap (λ c. work_left zeroᶠ c lent) (k ∙ ap (λ l. estimate_of a l) (done_inj (sym h.1 ∙ q)) ∙ p));
        }
      where
        less : (x y : ℕ) → y ≡ x + y - x
        less x y = omega arith
