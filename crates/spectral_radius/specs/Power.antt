-- The estimate's steps: what each gives of the vector that it is handed.
use Rattle.std.specs.Prelude.{ℕ, List, get_or, Float, Ok, Err}
use Rattle.std.specs.Float.{nan}
use Rattle.definitions.specs.Numbers.{◌*ᶠ◌, zeroᶠ, total, above}
use Rattle.definitions.specs.Refusal.{Outcome, refused, done, require, ◌>>=◌}
use Rattle.definitions.specs.Matrix.{Matrix}
use Rattle.definitions.specs.Answers.{Answer}
use Rattle.definitions.specs.Estimate.{Estimate, start_of, normalised, row_terms, rounds, rho_of, damping_of}
use Rattle.definitions.specs.declared.Refusal.TheVariants.{EstimateFailed}

-- element i of the image of x
abbrev pub image_at : Matrix → List Float → List Float → ℕ → Float
image_at a s x i = get_or s i nan *ᶠ total (row_terms a s x i)

-- a vector that a step made, or the cause for which it could not
abbrev pub outcome_of : Answer (Unit {0}) → List Float → Outcome (List Float)
outcome_of (Ok _) x = done x
outcome_of (Err r) x = refused r

-- what follows the rounds
unfoldable pub finished_of : Matrix → List Float → List Float → Outcome Estimate
finished_of a s y = do
  rho ← done (rho_of a s y)
  _ ← require (above zeroᶠ rho) (EstimateFailed 3)
  _ ← require (above zeroᶠ (damping_of rho)) (EstimateFailed 4)
  done (record { rho = rho; damping = damping_of rho })

-- what follows the inverse roots
unfoldable pub powered_of : Matrix → List Float → Outcome Estimate
powered_of a s = do
  x ← normalised 1 (start_of a.rows)
  y ← rounds a s 10 x
  finished_of a s y
