use Rattle.std.proofs.Common.{◌≡◌, ◌<◌, ◌∙◌, sym, ap, true, length, arith, rules}
use Rattle.std.specs.Iterator.Adapters.{enumerate_source, enumerate_count}
use Rattle.std.specs.Slice.Iter.{chunks_exact_rest, chunks_exact_size}
use Rattle.byte_lists.specs.Bytes.{readable}
use Rattle.byte_lists.proofs.Filling.{over_none_yet, over_more, left_all, chunk_more, chunk_last, place_in_room, word_below}
use Rattle.byte_lists.proofs.read.Goals as goal

pub loop-k-init : goal.loop-k-init
loop-k-init g c =
    let made = c.into_iter-k-iterator.ensures.into_iter_gives in
    let none = ap enumerate_count made ∙ c.enumerate-k-items.ensures.count in
    let chunks = ap enumerate_source made ∙ c.enumerate-k-items.ensures.source in
    record {
      filled = rw none (over_none_yet _ _);
      width = ap chunks_exact_size chunks ∙ c.chunks_exact.ensures.size ∙ c.BYTES.ensures;
      left = rw (none, ap chunks_exact_rest chunks ∙ c.chunks_exact.ensures.rest) (left_all _ _);
    }

pub offset_bounds-room-k : goal.offset_bounds-room-k
offset_bounds-room-k g c =
    let s = c.in-Some.ensures.steps in
    let inv = c.loop-k.invariant in
    let t = chunk_more g.met.T.Element.laws.some inv.left _ _ s.0.1.0 (s.0.1.1 ∙ inv.width) in
    let inside : c.in-Some.k < length c.args.room.now = omega (arith, s.1, place_in_room g.T.Element.BYTES _ _ _ g.met.T.Element.laws.some c.readable.ensures c.if-not-readable.false t.1.0) in
    search rules

pub bounds-room-k : goal.bounds-room-k
bounds-room-k g c =
    let s = c.in-Some.ensures.steps in
    let inv = c.loop-k.invariant in
    let t = chunk_more g.met.T.Element.laws.some inv.left _ _ s.0.1.0 (s.0.1.1 ∙ inv.width) in
    omega (arith, s.1, place_in_room g.T.Element.BYTES _ _ _ g.met.T.Element.laws.some c.readable.ensures c.if-not-readable.false t.1.0)

pub loop-k-preserved : goal.loop-k-preserved
loop-k-preserved g c =
    let e = g.T.Element in
    let s = c.in-Some.ensures.steps in
    let inv = c.loop-k.invariant in
    let t = chunk_more g.met.T.Element.laws.some inv.left _ _ s.0.1.0 (s.0.1.1 ∙ inv.width) in
    let inside = place_in_room e.BYTES _ _ _ g.met.T.Element.laws.some c.readable.ensures c.if-not-readable.false t.1.0 in
    let same = c.word.ensures ∙ t.1.1 in
    let fits = word_below e.BYTES (enumerate_count c.loop-k.k-iterator) c.args.bytes.now c.type_inv.bytes t.1.0 in
    record {
      filled = rw (s.1, s.2) (over_more _ _ _ _ _ inv.filled inside (c.from_code.ensures (rw same fits) ∙ ap e.element same));
      width = s.0.0 ∙ inv.width;
      left = rw s.2 t.0;
    }

pub returns : goal.returns
returns g c =
    let inv = c.loop-k.invariant in
    let e : readable g.T.Element.BYTES (length c.args.bytes.now) (length c.args.room.now) ≡ true = cc in
    let end = chunk_last g.met.T.Element.laws.some inv.left (rw inv.width at c.in-None.ensures.steps.0.1.0) in
    (sym e, rw (e, g.met.T.Element.laws.reads c.args.bytes.now, ← end) inv.filled)
