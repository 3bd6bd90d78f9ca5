-- The reader has been fed what the input gave.
use Rattle.std.proofs.Common.{◌≡◌, ℕ, List}
use Rattle.std.specs.Io.KnownBytes.{Consumes}
use Rattle.grouping_text.specs.Feeding.{fresh, held, fed}
use Rattle.grouping.proofs.read_all.Given as goal

abbrev pub invariant-loop : goal.invariant-loop
invariant-loop g l = (text : List ℕ)
    × Consumes (g.R.Read.remaining l.fn.input) (g.R.Read.remaining l.input) text
    × (held l.reader l.numbers ≡ fed text (held fresh l.fn.numbers))
