-- The checks of the diagonal, one after the other: the answer, and what the list holds.
use Rattle.std.specs.Prelude.{Err, Result}
use mathlib.Core.Path.{◌≡◌, refl, ap, sym, ◌∙◌}
use mathlib.Core.Bool.{true}
use mathlib.Core.List.{List}
use Prim.Native.Nat.{◌<◌, ◌≤◌}
use lib.ListN.{length}
use lib.Ieee.{Float}
use borrow.Author.Tests.{le-leb, lt-leb}
use Rattle.definitions.specs.Numbers.{zeroᶠ}
use Rattle.definitions.specs.Refusal.{refused, done, result_left, keeps_all, cause_of}
use Rattle.definitions.specs.Matrix.{Matrix}
use Rattle.definitions.specs.Diagonal.{diagonal_of, diagonal_call, diagonal_left}
use Rattle.definitions.specs.Answers.{answer_of}
use Rattle.definitions.specs.declared.Refusal.{Refusal}
use Rattle.definitions.specs.declared.Refusal.TheVariants.{ListTooShort}
use Rattle.csr32.specs.Calls.{goes_on, stops, passed, failed, result_kept, keeps_refused}
use Rattle.csr32.specs.Seen.{square_call}
use Rattle.csr32.proofs.Squares.{square_keeps, square_goes, square_stops}

module _ (a : Matrix) (lent : List Float) where
  -- what the answer and the list are after a call
  pub record Left (x : Result (Unit {0}) Refusal) (d : List Float) : Type 0 where
    pub value : x ≡ answer_of (diagonal_call a (length lent))
    pub diagonal_after : d ≡ diagonal_left a lent

  -- the call is refused by a cause that keeps all
  kept : (r : Refusal) → keeps_all r ≡ true → diagonal_call a (length lent) ≡ refused r → Left (Err r) lent
  unfolding answer_of diagonal_left
  kept r k e = record { value = rw e; diagonal_after = sym (result_kept zeroᶠ lent r k (diagonal_call a (length lent)) e) }

  pub stopped : (r : Refusal) → square_call a ≡ refused r → Left (Err r) lent
  unfolding diagonal_call
  stopped r e = kept r (keeps_refused (square_call a) r (square_keeps a) e) (square_stops a _ r e)

  module _ (e : square_call a ≡ done tt) where
    pub too_short : length lent < a.rows → Left (Err ListTooShort) lent
    unfolding diagonal_call keeps_all cause_of
    too_short l = kept ListTooShort refl (square_goes a _ e ∙ stops _ ListTooShort _ (failed _ ListTooShort (lt-leb a.rows (length lent) l)))

    pub filled : a.rows ≤ length lent → (y : Result (Unit {0}) Refusal) (d : List Float) → y ≡ answer_of (diagonal_of a) → d ≡ result_left zeroᶠ (diagonal_of a) lent → Left y d
    unfolding diagonal_call diagonal_left
    filled l y d ey ed =
        let k : diagonal_call a (length lent) ≡ diagonal_of a = square_goes a _ e ∙ goes_on _ tt _ (passed _ ListTooShort (le-leb a.rows (length lent) l)) in
        record { value = ey ∙ ap answer_of (sym k); diagonal_after = ed ∙ ap (λ o. result_left zeroᶠ o lent) (sym k) }
