-- A cause as numbers: its own, and the first and second value returned with it, 0 where it has none.
use Rattle.std.specs.Prelude.{get_or}
use Rattle.definitions.specs.Refusal.{number_of, values_of}
use Rattle.definitions.specs.declared.Refusal.{Refusal}
use Rattle.causes.specs.declared.Row.{Row}

unfoldable pub told_of : Refusal → Row
told_of r = record { number = number_of r; first = get_or (values_of r) 0 0; second = get_or (values_of r) 1 0 }
