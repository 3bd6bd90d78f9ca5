-- A packed factor: how far a forward solve with it has come, and a column of it kept at its rows.
use Rattle.std.specs.Prelude.{ℕ, ◌-◌, ◌<◌, ◌≡◌, List, ◌++◌, length, get_or, drop, Float}
use Rattle.std.specs.Float.{nan}
use Rattle.definitions.specs.Coarse.{packed, packed_entry, packed_forward}

-- b with its first i numbers solved forward
abbrev pub ahead : List Float → List Float → ℕ → List Float
ahead l b i = packed_forward l b i ++ drop i b

-- the column i of a factor of c rows stands in kept, below the diagonal, each number at its row
abbrev pub Column : List Float → ℕ → ℕ → List Float → Type 0
Column l i c kept = (j : ℕ) → i < j → j < c → get_or kept j nan ≡ packed_entry l j i

-- what stands before the numbers of column i below the diagonal, each kept at its row
pub record KeptBefore (l : List Float) (i c : ℕ) (kept₀ kept : List Float) : Type 0 where
  pub long : length kept ≡ length kept₀
  pub before : (j : ℕ) → i < j → j < c → get_or kept j nan ≡ get_or l (packed j i - 1) nan
