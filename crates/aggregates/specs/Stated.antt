-- What the structs of a call stand for.
use Rattle.std.specs.Prelude.{List, ℕ}
use Rattle.definitions.specs.Groups.{listed}
use Rattle.aggregates.specs.JoinChoice.{at}
use Rattle.aggregates.specs.declared.candidate.Candidate.{Candidate}
use Rattle.aggregates.specs.declared.lists.Lists.{Lists}

-- what each node lists
abbrev pub lists_of : Lists → ℕ → List ℕ
lists_of l = listed l.offsets.now l.neighbours.now

-- the group id, with the edges to it and its members
abbrev pub candidate : List ℕ → List ℕ → ℕ → Candidate
candidate counts hits id = record { edges = at hits id; members = at counts id; id = id }
