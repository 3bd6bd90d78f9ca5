-- What is left of the piece is read from where the loop stands.
use Rattle.std.proofs.Common.{◌≡◌, drop}
use Rattle.grouping_text.specs.Feeding.{held, fed}
use Rattle.grouping_text.proofs.feed.Given as goal

abbrev pub invariant-loop-b : goal.invariant-loop-b
invariant-loop-b l = fed (drop l.b-index l.piece) (held l.last l.numbers) ≡ fed l.piece (held l.initial.last l.initial.numbers)
