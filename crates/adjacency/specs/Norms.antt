-- The diagonal norms of the first v nodes, in their place.
use Rattle.std.specs.Prelude.{◌≡◌, List, ℕ, ◌<◌, get_or, Float}
use Rattle.std.specs.Float.{nan}
use Rattle.definitions.specs.Matrix.{Matrix}
use Rattle.definitions.specs.Neighbours.{norm_towards}

abbrev pub Normed : Matrix → ℕ → ℕ → List Float → Type 0
Normed a size v norms = (u : ℕ) → u < v → get_or norms u nan ≡ norm_towards a size u u
