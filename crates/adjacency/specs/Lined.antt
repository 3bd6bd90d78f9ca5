-- The lists of the first v nodes end to end, and where each starts.
use Rattle.std.specs.Prelude.{◌≡◌, List, ℕ, ◌≤◌, length, get_or, take}
use Rattle.definitions.specs.Lists.{tab, joined_lists}

abbrev pub joined_up_to : (ℕ → List ℕ) → ℕ → List ℕ
joined_up_to f v = joined_lists (tab f v)

pub record Lined (f : ℕ → List ℕ) (v at : ℕ) (offsets names : List ℕ) : Type 0 where
  pub ends : at ≡ length (joined_up_to f v)
  pub list : take at names ≡ joined_up_to f v
  pub starts : (u : ℕ) → u ≤ v → get_or offsets u 0 ≡ length (joined_up_to f u)
  pub fits : at ≤ length names
