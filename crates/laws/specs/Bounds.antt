-- Numbers below a bound: in a list, as the columns of compressed rows, and as the coarse columns of rows.
use Rattle.std.specs.Prelude.{ℕ, suc, ◌/◌, ◌<◌, ◌≤◌, ◌≡◌, List, length, get_or}
use Rattle.definitions.specs.Transfer.{coarse_column}
use Rattle.definitions.specs.Setup.{max_coarse}

-- every number of a list is below n
abbrev pub Below : ℕ → List ℕ → Type 0
Below n l = (k : ℕ) → k < length l → get_or l k 0 < n

-- n compressed rows of so many entries, of numbers that need not be finite
pub record Compressed (n cols : ℕ) (ptr idx : List ℕ) (entries : ℕ) : Type 0 where
  pub long : length ptr ≡ suc n
  pub rises : (i : ℕ) → i < n → get_or ptr i 0 ≤ get_or ptr (suc i) 0
  pub ends : (i : ℕ) → i < suc n → get_or ptr i 0 ≤ entries
  pub same : length idx ≡ entries
  pub within : Below cols idx

-- the coarse columns of n rows are below c
pub record Grouped (size : ℕ) (ids : List ℕ) (n c : ℕ) : Type 0 where
  pub some : 0 < size
  pub known : (i : ℕ) → i < n → i / size < length ids
  pub within : (i : ℕ) → i < n → coarse_column size ids i < c
  pub small : c ≤ max_coarse
