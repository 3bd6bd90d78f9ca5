-- Whether a list has an element: a row that stores a diagonal entry.
use Rattle.std.specs.Prelude.{Bool, true, false, List, [], ◌∷◌, Float, Option, None, Some}
use Rattle.definitions.specs.Numbers.{total}

unfoldable pub some : {A : Type 0} → List A → Bool
some [] = false
some (x ∷ xs) = true

-- the sum of a list's numbers, if there are any
unfoldable pub sum_found : List Float → Option Float
sum_found [] = None
sum_found (x ∷ xs) = Some (total (x ∷ xs))
