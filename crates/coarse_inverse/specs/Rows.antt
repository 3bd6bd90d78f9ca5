-- The rows of the inverse.
use Rattle.std.specs.Prelude.{ℕ, Float}
use mathlib.Core.List.{List, flat_map}
use Rattle.definitions.specs.Coarse.{packed_solve, unit}
use Rattle.definitions.specs.Lists.{up_to}

-- the first i rows of the inverse, before averaging
unfoldable pub solved_rows : ℕ → List Float → ℕ → List Float
solved_rows c l i = flat_map (λ k. packed_solve c l (unit c k)) (up_to i)
