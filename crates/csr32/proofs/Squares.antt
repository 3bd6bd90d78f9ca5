-- Causes 1 to 9 in their order, and the square matrix that stands for an accepted one.
use Rattle.std.specs.Prelude.{Ok, Err}
use mathlib.Core.Path.{◌≡◌, refl, sym, ◌∙◌}
use lib.Dec.{eqb}
use borrow.Author.Tests.{eq-eqb, ne_eqb}
use Rattle.definitions.specs.Refusal.{Outcome, refused, done, ◌>>=◌, require, keeps_all, cause_of}
use Rattle.definitions.specs.Matrix.{Matrix, csr, valid_of}
use Rattle.definitions.specs.Answers.{answer_of}
use Rattle.definitions.specs.declared.Refusal.{Refusal}
use Rattle.definitions.specs.declared.Refusal.TheVariants.{NotSquare}
use Rattle.csr32.specs.Calls.{passed, failed, Keeps, keeps_require, keeps_then}
use Rattle.csr32.specs.Rows.{Rows}
use Rattle.csr32.specs.Seen.{square_call}
use Rattle.csr32.specs.Valid.{accepted_rows, square_rows, valid_goes, valid_stops, valid_keeps}

module _ (a : Matrix) where
  pub stopped : (r : Refusal) → Err r ≡ answer_of (valid_of a) → square_call a ≡ refused r
  unfolding square_call
  stopped r e = valid_stops a _ r (sym e)

  module _ (e : Ok tt ≡ answer_of (valid_of a)) where
    pub oblong : (a.cols ≡ a.rows → ⊥) → square_call a ≡ refused NotSquare
    unfolding square_call
    oblong h = valid_goes a _ (sym e) ∙ failed _ NotSquare (ne_eqb a.cols a.rows h)

    pub accepted : a.cols ≡ a.rows → square_call a ≡ done tt
    unfolding square_call
    accepted h = valid_goes a _ (sym e) ∙ passed _ NotSquare (eq-eqb a.cols a.rows h)

    pub fitting : a.cols ≡ a.rows → Rows (csr a.rows a.rows a.row_ptr a.col_idx a.values)
    fitting h = square_rows a.rows a.cols a.row_ptr a.col_idx a.values h (accepted_rows a (sym e))

  -- causes 1 to 9 leave all lists as they were
  pub square_keeps : Keeps (square_call a)
  unfolding square_call keeps_all cause_of
  square_keeps = keeps_then _ _ (valid_keeps a) (λ _. keeps_require _ _ refl)

-- the checks that follow, behind these
then_then : {A B C : Type 0} (o : Outcome A) (f : A → Outcome B) (g : B → Outcome C) → (o >>= (λ x. f x >>= g)) ≡ (o >>= f >>= g)
unfolding ◌>>=◌
then_then (done x) f g = refl
then_then (refused r) f g = refl

module _ {B : Type 0} (a : Matrix) (next : Unit {0} → Outcome B) where
  abbrev whole : Outcome B
  whole = valid_of a >>= (λ _. require (eqb a.cols a.rows) NotSquare >>= next)

  first : whole ≡ (square_call a >>= next)
  unfolding square_call
  first = then_then (valid_of a) (λ _. require (eqb a.cols a.rows) NotSquare) next

  pub square_goes : square_call a ≡ done tt → whole ≡ next tt
  unfolding ◌>>=◌
  square_goes e = first ∙ rw e

  pub square_stops : (r : Refusal) → square_call a ≡ refused r → whole ≡ refused r
  unfolding ◌>>=◌
  square_stops r e = first ∙ rw e
