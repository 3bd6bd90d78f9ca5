-- What the rows of the matrix put into the coarse matrix of the basis that is constant over a group.
use Rattle.std.specs.Prelude.{ℕ, ◌+◌, ◌*◌, List, map}
use Rattle.definitions.specs.Matrix.{Entry}
use Rattle.laws.specs.Scatter.{put}

-- entries, moved to the columns that g says
abbrev pub moved : (ℕ → ℕ) → List Entry → List Entry
moved g es = map (λ e. put (g e.col) e.value) es

-- the entries of row r, moved to where a matrix of c columns has them
abbrev pub row_puts : (ℕ → ℕ) → ℕ → (ℕ → List Entry) → ℕ → List Entry
row_puts column c row r = moved (λ k. column r * c + column k) (row r)
