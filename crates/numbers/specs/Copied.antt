-- One list copied over the front of another, as far as both go.
use Rattle.std.specs.Prelude.{List, ◌++◌, length, take, drop}

unfoldable pub copied : {A : Type 0} → List A → List A → List A
copied from to = take (length to) from ++ drop (length from) to
