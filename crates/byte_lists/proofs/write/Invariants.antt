-- The bytes of the elements passed stand in the front of zeros.
use Rattle.std.proofs.Common.{◌≡◌, ◌*◌, length, replicate}
use Rattle.definitions.specs.Lists.{tab}
use Rattle.byte_lists.specs.Bytes.{over}
use Rattle.byte_lists.proofs.Filling.{laid}
use Rattle.byte_lists.proofs.write.Given as goal

abbrev pub invariant-loop-k : goal.invariant-loop-k
invariant-loop-k g l =
    let e = g.T.Element in
    l.bytes ≡ over (tab (laid e.code g.met.T.Element.laws.default l.list e.BYTES) (l.k * e.BYTES)) (replicate (length l.fn.bytes) 0)
