-- The call for the inverse: 17 and 18, as both lists belong to the coarse part; then what is made.
use Rattle.std.specs.Prelude.{ℕ, ◌*◌, ◌&&◌, List, leb, length, take, Float}
use Rattle.definitions.specs.Refusal.{Outcome, done, require, ◌>>=◌}
use Rattle.definitions.specs.Setup.{max_coarse}
use Rattle.definitions.specs.Coarse.{packed_length, inverse_of}
use Rattle.definitions.specs.declared.Refusal.TheVariants.{CoarseTooLarge, CoarseListTooShort}

-- the inverse, from the packed factor in the first elements of lower
unfoldable pub coarse_inverse_call : ℕ → List Float → ℕ → Outcome (List Float)
coarse_inverse_call c lower lent = do
  _ ← require (leb c max_coarse) (CoarseTooLarge c)
  _ ← require (leb (packed_length c) (length lower) && leb (c * c) lent) (CoarseListTooShort c)
  done (inverse_of c (take (packed_length c) lower))
