-- What the steps of reading hand to one another.
use Rattle.std.specs.Prelude.{List, ℕ, ◌+◌, take, Result, Ok, Err}
use Rattle.definitions.specs.Refusal.{Outcome, refused, done}
use Rattle.definitions.specs.declared.Refusal.{Refusal}
use Rattle.grouping_text.specs.declared.Asking.{Asking}
use Rattle.grouping_text.specs.Numbers.{Asked}

-- what a step's result says: the value that f makes of it, or the cause
abbrev pub outcome_of : {A B : Type 0} → (A → B) → Result A Refusal → Outcome B
outcome_of f (Ok x) = done (f x)
outcome_of f (Err r) = refused r

-- a text that was read whole, with the lists that it was read into
abbrev pub asked_of : List ℕ → List ℕ → Asking → Asked
asked_of offsets neighbours a =
    record { nodes = a.nodes; size = a.size; offsets = take (a.nodes + 1) offsets; neighbours = take a.count neighbours }
