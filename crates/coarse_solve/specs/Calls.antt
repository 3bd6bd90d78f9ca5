-- The call for the coarse solve: 17 and 18, as both lists belong to the coarse part; then what is made.
use Rattle.std.specs.Prelude.{ℕ, ◌*◌, ◌&&◌, List, leb, length, take, Float}
use Rattle.definitions.specs.Refusal.{Outcome, done, require, ◌>>=◌}
use Rattle.definitions.specs.Setup.{max_coarse}
use Rattle.definitions.specs.Coarse.{coarse_solve, coarse_length}
use Rattle.definitions.specs.declared.Refusal.TheVariants.{CoarseTooLarge, CoarseListTooShort}
use Rattle.definitions.specs.declared.TwoLevelCoarseApplyPolicy.{TwoLevelCoarseApplyPolicy}

-- the solve with the stored part, of the right-hand side in the first c elements of work
unfoldable pub coarse_solve_call : TwoLevelCoarseApplyPolicy → ℕ → List Float → List Float → Outcome (List Float)
coarse_solve_call policy c part work = do
  _ ← require (leb c max_coarse) (CoarseTooLarge c)
  _ ← require (leb (coarse_length policy c) (length part) && leb (2 * c) (length work)) (CoarseListTooShort c)
  done (coarse_solve policy c (take (coarse_length policy c) part) (take c work))
