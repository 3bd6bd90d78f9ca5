-- The fronts of eight rows side by side: the entry of row n + r in column k stands at r in the list at k of w.
use Rattle.std.specs.Prelude.{ℕ, ◌+◌, ◌<◌, ◌≡◌, List, [], get_or, Float}
use Rattle.std.specs.Float.{nan}
use Rattle.definitions.specs.Lists.{tab}
use Rattle.definitions.specs.Numbers.{◌*ᶠ◌, ◌/ᶠ◌, reduced}
use Rattle.definitions.specs.Coarse.{packed_length}

-- the numbers of l from `start` on
abbrev pub row_at : List Float → ℕ → ℕ → Float
row_at l start t = get_or l (start + t) nan

-- the number of column t in lane r
abbrev pub lane : List (List Float) → ℕ → ℕ → Float
lane w t r = get_or (get_or w t []) r nan

-- what is left of the entry (n + r, j) after k products with a row
abbrev pub less_row : (ℕ → ℕ → Float) → (ℕ → Float) → List (List Float) → ℕ → ℕ → ℕ → ℕ → Float
less_row a row w n j k r = reduced (a (n + r) j) (tab (λ t. lane w t r *ᶠ row t) k)

abbrev pub front_rest : (ℕ → ℕ → Float) → List Float → List (List Float) → ℕ → ℕ → ℕ → Float
front_rest a l w n k r = less_row a (row_at l (packed_length k)) w n k k r

-- w has the first j entries of each
abbrev pub Fronts : (ℕ → ℕ → Float) → List Float → List (List Float) → ℕ → ℕ → Type 0
Fronts a l w n j = (k r : ℕ) → k < j → r < 8 → lane w k r ≡ front_rest a l w n k r /ᶠ get_or l (packed_length k + k) nan
