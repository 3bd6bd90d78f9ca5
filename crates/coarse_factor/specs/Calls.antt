-- The call for the coarse factor: 17 and 18, as both lists belong to the coarse part; then what is made.
use Rattle.std.specs.Prelude.{ℕ, ◌*◌, ◌&&◌, List, leb, length, take, Float, Err, Ok, Result}
use Rattle.definitions.specs.Refusal.{Outcome, refused, done, require, ◌>>=◌}
use Rattle.definitions.specs.Setup.{max_coarse}
use Rattle.definitions.specs.Coarse.{coarse_factor, packed_length}
use Rattle.definitions.specs.declared.Refusal.TheVariants.{CoarseTooLarge, CoarseListTooShort}
use Rattle.definitions.specs.declared.Refusal.{Refusal}

-- an answer and the list that it stands for
unfoldable pub outcome_of : (Result (Unit {0}) Refusal) → List Float → Outcome (List Float)
outcome_of (Ok tt) l = done l
outcome_of (Err r) l = refused r

-- the factor of the matrix in the first c · c elements of m: then 23 and 24
unfoldable pub coarse_factor_call : ℕ → List Float → ℕ → Outcome (List Float)
coarse_factor_call c m lent = do
  _ ← require (leb c max_coarse) (CoarseTooLarge c)
  _ ← require (leb (c * c) (length m) && leb (packed_length c) lent) (CoarseListTooShort c)
  coarse_factor c (take (c * c) m)
