-- What crosses the boundary: an outcome as a number, what is returned with it in a list, floats by their bits.
use Rattle.std.specs.Prelude.{ℕ, Bool, true, false, List, length, take}
use Rattle.definitions.specs.Lists.{padded}
use Rattle.definitions.specs.declared.Options.{Options}
use Rattle.definitions.specs.Record.{aggregation_of, basis_of, policy_of}

-- what a list for answers receives: the values as far as it has room, and zeros after them
unfoldable pub received : List ℕ → List ℕ → List ℕ
received values lent = take (length lent) (padded 0 (length lent) values)

-- a call with a number that is no policy answers this, a number that no cause has: every lent list is kept, and the record, a return value, receives zeros
abbrev pub no_policy : ℕ
no_policy = 255

-- ---- setup and apply

unfoldable pub options_of : ℕ → ℕ → ℕ → ℕ → ℕ → Options
options_of block group aggregation basis policy = record { block = block; group = group; aggregation = aggregation_of aggregation; basis = basis_of basis; policy = policy_of policy }

-- where numbers are policies the first, else the second
unfoldable pub whether : {A : Type 0} → Bool → A → A → A
whether true x y = x
whether false x y = y
