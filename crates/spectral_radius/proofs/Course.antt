-- The stages one after the other, and what they make of the call's answer.
use Rattle.std.specs.Prelude.{Err, Ok, Result}
use mathlib.Core.Path.{◌≡◌, sym}
use mathlib.Core.List.{List}
use lib.Ieee.{Float}
use Rattle.definitions.specs.Refusal.{refused, done, ◌>>=◌}
use Rattle.definitions.specs.Matrix.{Matrix}
use Rattle.definitions.specs.Answers.{answer_of, estimate_answer}
use Rattle.definitions.specs.Estimate.{usable_from, inverse_roots, start_of, normalised, rounds, estimate_of}
use Rattle.definitions.specs.declared.Refusal.{Refusal}
use Rattle.csr32.specs.Calls.{accepted_done, refused_is}
use Rattle.spectral_radius.specs.Power.{finished_of, powered_of}
use Rattle.definitions.specs.declared.Estimated.{Estimated}

-- ---- stages 1 to 4

module _ (a : Matrix) (s : List Float) where
  pub powered_1 : (r : Refusal) → refused r ≡ normalised 1 (start_of a.rows) → Err r ≡ estimate_answer (powered_of a s)
  unfolding powered_of ◌>>=◌ estimate_answer
  powered_1 r e = rw (← e)

  module _ (x : List Float) (e : done x ≡ normalised 1 (start_of a.rows)) where
    pub powered_2 : (r : Refusal) → refused r ≡ rounds a s 10 x → Err r ≡ estimate_answer (powered_of a s)
    unfolding powered_of ◌>>=◌ estimate_answer
    powered_2 r q = rw (← e) (rw (← q))

    pub powered_3 : (y : List Float) (r : Result Estimated Refusal) → done y ≡ rounds a s 10 x → r ≡ estimate_answer (finished_of a s y) → r ≡ estimate_answer (powered_of a s)
    unfolding powered_of ◌>>=◌ estimate_answer
    powered_3 y r q k = rw (← e) (rw (← q) k)

-- ---- causes 20 and 21 first

module _ (a : Matrix) (d : List Float) where
  pub diagonal_stops : (r : Refusal) → Err r ≡ answer_of (usable_from 0 d) → Err r ≡ estimate_answer (estimate_of a d)
  unfolding estimate_of ◌>>=◌ estimate_answer
  diagonal_stops r e = let q = refused_is (usable_from 0 d) r (sym e) in rw q

  pub diagonal_goes : (s : List Float) (r : (Result Estimated Refusal)) → (Ok tt) ≡ answer_of (usable_from 0 d) → s ≡ inverse_roots d → r ≡ estimate_answer (powered_of a s) → r ≡ estimate_answer (estimate_of a d)
  unfolding estimate_of powered_of finished_of ◌>>=◌ estimate_answer
  diagonal_goes s r e es k = let q = accepted_done (usable_from 0 d) (sym e) in rw q (rw es at k)
