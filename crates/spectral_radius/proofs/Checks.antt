-- The checks of the call in their order: the answer and the work list at each return.
use Rattle.std.specs.Prelude.{Err, Result}
use Prim.Native.Nat.{◌*◌, ◌≤◌, ◌<◌}
use mathlib.Core.Path.{◌≡◌, refl, sym, ◌∙◌}
use mathlib.Core.Bool.{true}
use mathlib.Core.List.{List}
use lib.ListN.{length, replicate}
use lib.Ieee.{Float}
use borrow.Author.Tests.{eq-eqb, ne_eqb, le-leb, lt-leb}
use Rattle.definitions.specs.Numbers.{zeroᶠ}
use Rattle.definitions.specs.Refusal.{refused, done, keeps_all, cause_of}
use Rattle.definitions.specs.Matrix.{Matrix}
use Rattle.definitions.specs.Answers.{estimate_answer}
use Rattle.definitions.specs.Estimate.{estimate_of, estimate_call, estimate_work_left}
use Rattle.definitions.specs.declared.Refusal.{Refusal}
use Rattle.definitions.specs.declared.Refusal.TheVariants.{ListTooShort, WrongLength}
use Rattle.definitions.specs.declared.Estimated.{Estimated}
use Rattle.csr32.specs.Calls.{passed, failed, goes_on, stops, work_kept, keeps_refused}
use Rattle.csr32.specs.Seen.{square_call}
use Rattle.csr32.proofs.Squares.{square_keeps, square_goes, square_stops}
use Rattle.spectral_radius.proofs.Cleared.{estimate_clears}

-- the answer and what the work list holds
abbrev pub Left : Matrix → List Float → List Float → (Result Estimated Refusal) → List Float → Type 0
Left a d lent r after = (r ≡ estimate_answer (estimate_call a d (length lent))) × (after ≡ estimate_work_left a d lent)

module _ (a : Matrix) (d lent : List Float) where
  kept : (r : Refusal) → keeps_all r ≡ true → estimate_call a d (length lent) ≡ refused r → Left a d lent (Err r) lent
  unfolding estimate_answer estimate_work_left
  kept r k e = (rw e, sym (work_kept zeroᶠ lent r k (estimate_call a d (length lent)) e))

  pub stopped : (r : Refusal) → square_call a ≡ refused r → Left a d lent (Err r) lent
  unfolding estimate_call
  stopped r e = kept r (keeps_refused (square_call a) r (square_keeps a) e) (square_stops a _ r e)

  module _ (e : square_call a ≡ done tt) where
    pub misfit : (length d ≡ a.rows → ⊥) → Left a d lent (Err (WrongLength a.rows (length d))) lent
    unfolding estimate_call keeps_all cause_of
    misfit n = kept (WrongLength a.rows (length d)) refl (square_goes a _ e ∙ stops _ _ _ (failed _ _ (ne_eqb (length d) a.rows n)))

    module _ (fits : length d ≡ a.rows) where
      pub short : length lent < 3 * a.rows → Left a d lent (Err ListTooShort) lent
      unfolding estimate_call keeps_all cause_of
      short n = kept ListTooShort refl
          (square_goes a _ e ∙ goes_on _ tt _ (passed _ _ (eq-eqb (length d) a.rows fits)) ∙ stops _ _ _ (failed _ _ (lt-leb (3 * a.rows) (length lent) n)))

      pub ran : (r : (Result Estimated Refusal)) (after : List Float) → 3 * a.rows ≤ length lent → r ≡ estimate_answer (estimate_of a d) → after ≡ replicate (length lent) zeroᶠ → Left a d lent r after
      unfolding estimate_call estimate_work_left
      ran r after n q z =
          let g : estimate_call a d (length lent) ≡ estimate_of a d
          = square_goes a _ e ∙ goes_on _ tt _ (passed _ _ (eq-eqb (length d) a.rows fits)) ∙ goes_on _ tt _ (passed _ _ (le-leb (3 * a.rows) (length lent) n)) in
          (rw g q, z ∙ rw g (sym (estimate_clears a d lent)))
