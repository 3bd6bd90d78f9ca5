-- What the answers of validate and structure say to a call that checks a matrix first.
use Rattle.std.specs.Prelude.{ℕ, ◌≡◌, refl, List, Float, true, Err, Ok}
use Rattle.std.proofs.Common.{subst}
use Rattle.definitions.specs.Refusal.{Outcome, refused, ◌>>=◌, keeps_all, cause_of}
use Rattle.definitions.specs.Matrix.{Matrix, csr, structure_of, valid_of}
use Rattle.definitions.specs.Answers.{answer_of}
use Rattle.definitions.specs.declared.Refusal.{Refusal}
use Rattle.csr32.specs.Calls.{accepted_done, refused_is, Keeps, keeps_require, keeps_then, keeps_refused, goes_on, stops}
use Rattle.csr32.specs.Rows.{Rows, structure_rows, rows_of}

-- an accepted matrix has the facts of Rows
pub accepted_rows : (a : Matrix) → answer_of (valid_of a) ≡ (Ok tt) → Rows a
accepted_rows a e = rows_of a (accepted_done (valid_of a) e)

-- the same of a square matrix, by its rows alone
pub square_rows : (rows cols : ℕ) (ptr idx : List ℕ) (vals : List Float) → cols ≡ rows → Rows (csr rows cols ptr idx vals) → Rows (csr rows rows ptr idx vals)
square_rows rows cols ptr idx vals e w = subst (λ (n : ℕ). Rows (csr rows n ptr idx vals)) e w

-- causes 1 to 8 leave all lists as they were
pub structure_keeps : (a : Matrix) → Keeps (structure_of a)
unfolding structure_of keeps_all cause_of
structure_keeps a =
    keeps_then _ _ (keeps_require _ _ refl) (λ _.
    keeps_then _ _ (keeps_require _ _ refl) (λ _.
    keeps_then _ _ (keeps_require _ _ refl) (λ _.
    keeps_then _ _ (keeps_require _ _ refl) (λ _.
    keeps_then _ _ (keeps_require _ _ refl) (λ _.
    keeps_then _ _ (keeps_require _ _ refl) (λ _.
    keeps_require _ _ refl))))))

pub valid_keeps : (a : Matrix) → Keeps (valid_of a)
unfolding valid_of keeps_all cause_of
valid_keeps a = keeps_then _ _ (structure_keeps a) (λ _. keeps_require _ _ refl)

pub valid_kept : (a : Matrix) (r : Refusal) → answer_of (valid_of a) ≡ Err r → keeps_all r ≡ true
valid_kept a r e = keeps_refused (valid_of a) r (valid_keeps a) (refused_is (valid_of a) r e)

-- the checks that follow it
module _ {B : Type 0} (a : Matrix) (next : Unit {0} → Outcome B) where
  pub valid_goes : answer_of (valid_of a) ≡ (Ok tt) → (valid_of a >>= next) ≡ next tt
  valid_goes e = goes_on (valid_of a) tt next (accepted_done (valid_of a) e)

  pub valid_stops : (r : Refusal) → answer_of (valid_of a) ≡ Err r → (valid_of a >>= next) ≡ refused r
  valid_stops r e = stops (valid_of a) r next (refused_is (valid_of a) r e)

-- ---- the same where causes 1 to 7 alone were asked

pub structured_rows : (a : Matrix) → answer_of (structure_of a) ≡ (Ok tt) → Rows a
structured_rows a e = structure_rows a (accepted_done (structure_of a) e)

pub structure_kept : (a : Matrix) (r : Refusal) → answer_of (structure_of a) ≡ Err r → keeps_all r ≡ true
structure_kept a r e = keeps_refused (structure_of a) r (structure_keeps a) (refused_is (structure_of a) r e)

module _ {B : Type 0} (a : Matrix) (next : Unit {0} → Outcome B) where
  pub structure_goes : answer_of (structure_of a) ≡ (Ok tt) → (structure_of a >>= next) ≡ next tt
  structure_goes e = goes_on (structure_of a) tt next (accepted_done (structure_of a) e)

  pub structure_stops : (r : Refusal) → answer_of (structure_of a) ≡ Err r → (structure_of a >>= next) ≡ refused r
  structure_stops r e = stops (structure_of a) r next (refused_is (structure_of a) r e)
