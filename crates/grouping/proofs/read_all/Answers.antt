-- What one more read gave goes behind what was read before.
use Rattle.std.proofs.Common.{[], ◌++◌, take, ap, sym, ◌∙◌}
use Rattle.std.proofs.KnownBytes.{Consumes-nil, Consumes-trans}
use Rattle.grouping_text.specs.Feeding.{fresh, held, fed}
use Rattle.grouping_text.proofs.Pieces.{fed_append}
use Rattle.grouping.proofs.read_all.Goals as goal

pub loop-init : goal.loop-init
unfolding fed
loop-init g c = ([], Consumes-nil _, ap (λ r. held r c.args.numbers.now) c.start-reader.ensures)

pub loop-preserved : goal.loop-preserved
loop-preserved g c =
    let i = c.loop.invariant in
    let piece = take c.in_ok-n.n c.read.new.buf in (
      i.0 ++ piece,
      Consumes-trans _ _ _ i.0 piece i.1 c.in_ok-n.ensures.bytes.0,
      c.feed-reader.ensures ∙ ap (fed piece) i.2 ∙ sym (fed_append i.0 piece (held fresh c.args.numbers.now)),
    )
