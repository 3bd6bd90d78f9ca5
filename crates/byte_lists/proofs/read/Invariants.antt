-- The elements passed stand in the front, and the bytes behind theirs are left.
use Rattle.std.proofs.Common.{◌≡◌}
use Rattle.std.specs.Iterator.Adapters.{enumerate_source, enumerate_count}
use Rattle.std.specs.Slice.Iter.{chunks_exact_rest, chunks_exact_size}
use Rattle.definitions.specs.Lists.{tab}
use Rattle.byte_lists.specs.Bytes.{word_at, over}
use Rattle.byte_lists.proofs.Filling.{Left}
use Rattle.byte_lists.proofs.read.Given as goal

abbrev pub invariant-loop-k : goal.invariant-loop-k
invariant-loop-k g l =
    let e = g.T.Element in
    let chunks = enumerate_source l.k-iterator in
    let k = enumerate_count l.k-iterator in
    record { filled : l.room ≡ over (tab (λ i. e.element (word_at e.BYTES l.bytes i)) k) l.fn.room; width : chunks_exact_size chunks ≡ e.BYTES; left : Left e.BYTES l.bytes (chunks_exact_rest chunks) k }
