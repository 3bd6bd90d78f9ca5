-- Lists end to end: the offsets, then the elements.
use Rattle.std.specs.Prelude.{List, ◌++◌, ℕ}
use Rattle.definitions.specs.Lists.{tab, pointers_from, joined_lists}

unfoldable pub flat_of : (ℕ → List ℕ) → ℕ → List ℕ
flat_of f n = pointers_from 0 (tab f n) ++ joined_lists (tab f n)
