-- One node's list: what the work lists hold between nodes, and what a node leaves.
use Rattle.std.specs.Prelude.{◌≡◌, Bool, true, false, List, ℕ, ◌+◌, ◌*◌, ◌≤◌, length, get_or, take, Float}
use Rattle.definitions.specs.Numbers.{zeroᶠ}
use Rattle.definitions.specs.Matrix.{Matrix}
use Rattle.definitions.specs.Neighbours.{neighbours_of, strong_neighbours_of}
use Rattle.laws.specs.Bounds.{Below}
use Rattle.adjacency.specs.Strengths.{AllPlain}

-- Graph's list, or StrongGraph's
unfoldable pub list_of : Bool → Matrix → ℕ → ℕ → ℕ → List ℕ
list_of true a size nodes v = strong_neighbours_of a size nodes v
list_of false a size nodes v = neighbours_of a size nodes v

-- before node v: no stamp above v; no NaN and no sign among the sums and strengths; strengths that are all zero where none are made
pub record Between (strong : Bool) (nodes v : ℕ) (stamps : List ℕ) (sums strengths : List Float) : Type 0 where
  pub stamped : Below (v + 1) stamps
  pub marks : length stamps ≡ nodes
  pub summed : length sums ≡ nodes
  pub compared : length strengths ≡ nodes
  pub plain_sums : AllPlain sums
  pub plains : AllPlain strengths
  pub even : strong ≡ false → (u : ℕ) → get_or strengths u zeroᶠ ≡ zeroᶠ

-- node v's list put at the front of `names`
pub record Listed (strong : Bool) (a : Matrix) (size nodes v count : ℕ) (names stamps : List ℕ) (sums strengths : List Float) : Type 0 where
  pub next : Between strong nodes (v + 1) stamps sums strengths
  pub list : take count names ≡ list_of strong a size nodes v
  pub long : count ≡ length (list_of strong a size nodes v)
  pub most : count + get_or a.row_ptr (v * size) 0 ≤ get_or a.row_ptr ((v + 1) * size) 0
