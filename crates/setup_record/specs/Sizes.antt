-- Cause 26 in the order in which the code asks: first the record's own numbers, then the lists.
use Rattle.std.specs.Prelude.{ℕ, ◌*◌, Bool, true, false, not, ◌&&◌, List, leb, ltb, eqb, get_or, Float, Option, Some, None}
use Rattle.definitions.specs.Lists.{all, falls}
use Rattle.definitions.specs.Fits.{within_limits, is_resolved, transfers_fit, setup_fits}
use Rattle.definitions.specs.Places.{places_of}
use Rattle.definitions.specs.declared.Places.{Places}
use Rattle.definitions.specs.declared.Setup.{Setup}

-- the record alone
unfoldable pub sizes_fit : Setup → Bool
sizes_fit s = within_limits s && leb 1 s.block && is_resolved s.policy && transfers_fit s.basis s && eqb s.rows (s.nodes * s.block) && eqb s.coarse (s.groups * s.block)

-- compressed rows: pointers from 0 to the count that do not fall, columns below c
unfoldable pub rows_fit : List ℕ → List ℕ → ℕ → ℕ → ℕ → Bool
rows_fit ptr idx rows count c = eqb (get_or ptr 0 1) 0 && not (falls ptr) && eqb (get_or ptr rows 0) count && all (λ k. ltb k c) idx

-- the check hands out the places that it checked
unfoldable pub fitting_of : Setup → List ℕ → List Float → Option Places
fitting_of s ints floats = elim (setup_fits s ints floats) [ true ↦ Some (places_of s) | false ↦ None ]
