-- Loops that add into a list: what they leave, by the numbers put, in order.
use Rattle.std.specs.Prelude.{ℕ, zero, suc, get_or, set, Float}
use mathlib.Core.List.{List, [], ◌∷◌, foldl}
use Rattle.std.specs.Float.{nan}
use Rattle.definitions.specs.Numbers.{◌+ᶠ◌}
use Rattle.definitions.specs.Matrix.{Entry}

abbrev pub put : ℕ → Float → Entry
put k x = record { col = k; value = x }

-- l[k] += x
abbrev pub bump : List Float → Entry → List Float
bump l e = set l e.col (get_or l e.col nan +ᶠ e.value)

unfoldable pub scatter : List Entry → List Float → List Float
scatter es l = foldl bump l es

-- n rows of puts, row after row
unfoldable pub scattered : (ℕ → List Entry) → ℕ → List Float → List Float
scattered puts zero l = l
scattered puts (suc n) l = scatter (puts n) (scattered puts n l)

-- one put for each row: x i at the place p i
abbrev pub single : (ℕ → ℕ) → (ℕ → Float) → ℕ → List Entry
single p x i = put (p i) (x i) ∷ []
