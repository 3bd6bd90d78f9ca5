-- What restriction and prolongation add, row by row, and what they ask of a setup's lists.
use Rattle.std.specs.Prelude.{ℕ, ◌+◌, ◌*◌, ◌<◌, ◌≤◌, ◌≡◌, true, List, map, length, get_or, Float}
use Rattle.std.specs.Float.{nan}
use Rattle.definitions.specs.Lists.{tab}
use Rattle.definitions.specs.Numbers.{◌+ᶠ◌, ◌*ᶠ◌}
use Rattle.definitions.specs.Matrix.{Entry}
use Rattle.definitions.specs.Places.{places_of}
use Rattle.definitions.specs.Fits.{setup_fits}
use Rattle.definitions.specs.Apply.{gained}
use Rattle.definitions.specs.declared.Setup.{Setup}
use Rattle.definitions.specs.declared.Places.{Places}
use Rattle.laws.specs.Scatter.{put, single}

-- the numbers of one list from a on, added to those of another from b on
abbrev pub part_puts : List Float → ℕ → ℕ → ℕ → List Entry
part_puts from a b = single (λ k. b + k) (λ k. get_or from (a + k) nan)

-- restriction where each row has one coarse column: r(i) at that column
abbrev pub restrict_puts : (ℕ → ℕ) → List Float → ℕ → List Entry
restrict_puts column r = single column (λ i. get_or r i nan)

-- prolongation there: the solution at the coarse column of row i, added to row i
abbrev pub prolong_puts : (ℕ → ℕ) → List Float → ℕ → List Entry
prolong_puts column sol = single (λ i. i) (λ i. get_or sol (column i) nan)

-- entries, each times x
abbrev pub scaled : Float → List Entry → List Entry
scaled x es = map (λ e. put e.col (e.value *ᶠ x)) es

-- restriction by weights: those of row i, each times r(i)
abbrev pub scaled_puts : (ℕ → List Entry) → List Float → ℕ → List Entry
scaled_puts transfer r i = scaled (get_or r i nan) (transfer i)

-- n rows, in nodes of `size` rows each; the coarse columns of every node's group are below c
pub record Grouped (size : ℕ) (ids : List ℕ) (n c : ℕ) : Type 0 where
  pub some : 0 < size
  pub rows : n ≡ length ids * size
  pub within : (k : ℕ) → k < length ids → get_or ids k 0 * size + size ≤ c

-- a record and lists that fit each other, with the places of their parts
pub record Laid (s : Setup) (p : Places) (ints : List ℕ) (floats : List Float) : Type 0 where
  pub fits : setup_fits s ints floats ≡ true
  pub places : p ≡ places_of s

-- every row with what it gains of a coarse solution
abbrev pub prolonged : Setup → List ℕ → List Float → List Float → List Float → List Float
prolonged s ints floats sol z = tab (λ i. get_or z i nan +ᶠ gained s ints floats s.basis sol i) s.rows
