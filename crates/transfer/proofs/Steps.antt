-- What loops over a row's entries do to the touched columns and the weights.
use Rattle.std.specs.Prelude.{ℕ, ◌≡◌, Bool, cond, eqb, length, get_or, set, take, Float}
use mathlib.Core.List.{List, [], ◌∷◌, map, foldl}
use Rattle.std.specs.Float.{nan}
use Rattle.definitions.specs.Numbers.{◌-ᶠ◌, ◌*ᶠ◌, zeroᶠ}
use Rattle.definitions.specs.Lists.{up_to, keep}
use Rattle.definitions.specs.Matrix.{Entry}
use Rattle.transfer.specs.Touched.{insert_once}

unfoldable pub insert_all : List ℕ → List ℕ → List ℕ
insert_all xs l = foldl (λ t x. insert_once x t) l xs

-- the columns below c that pass a test, ascending: what any such list is
pub record Spread (l : List ℕ) (c : ℕ) : Type 0 where
  pub test : ℕ → Bool
  pub is : l ≡ keep test (up_to c)

-- the first r elements of a list are l
pub record Gathered (t : List ℕ) (r : ℕ) (l : List ℕ) : Type 0 where
  pub front : take r t ≡ l
  pub many : r ≡ length l

-- numbers taken off, each at its column, in order
abbrev pub lower : List Float → Entry → List Float
lower l e = set l e.col (get_or l e.col nan -ᶠ e.value)

unfoldable pub lowered : List Entry → List Float → List Float
lowered es l = foldl lower l es

-- what an entry takes off: (damping factor · value) · (1/diagonal), at its coarse column
abbrev pub smoothing : (ℕ → ℕ) → Float → Float → List Entry → List Entry
smoothing column damping inv es = map (λ e. record { col = column e.col; value = damping *ᶠ e.value *ᶠ inv }) es

-- the place of a column, cleared where it is new: where the columns were n and are more now
unfoldable pub fresh : ℕ → ℕ → ℕ → List Float → List Float
fresh n more j w = cond (eqb more n) w (set w j zeroᶠ)

-- entries in one pass: the column of each joins the columns t, cleared where it is new, and its number is taken off there
unfoldable pub accumulated : List ℕ → List Entry → List Float → List Float
accumulated t [] w = w
accumulated t (e ∷ es) w = accumulated (insert_once e.col t) es (lower (fresh (length t) (length (insert_once e.col t)) e.col w) e)
