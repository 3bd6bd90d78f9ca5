-- The start values: the whole roots of 65,536 k.
use Rattle.std.specs.Prelude.{List, [], ◌∷◌, ℕ, zero, suc, ◌+◌, ◌-◌, ◌*◌, ◌%◌, get_or}
use Rattle.definitions.specs.Root.{isqrt}

-- n of them, from k on
unfoldable pub whole_roots : ℕ → ℕ → List ℕ
whole_roots zero k = []
whole_roots (suc n) k = isqrt (65536 * k) ∷ whole_roots n (suc k)

-- where the search for k starts, by any table: from 2,048 to 4,095, and such an entry as it stands
abbrev pub start_of : List ℕ → ℕ → ℕ
start_of table k = get_or table (k - 64) 0 % 2048 + 2048
