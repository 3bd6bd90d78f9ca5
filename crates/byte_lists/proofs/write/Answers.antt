use Rattle.std.proofs.Common.{◌≡◌, sym, ◌∙◌, true, length, replicate, arith}
use Rattle.byte_lists.specs.Bytes.{writable}
use Rattle.byte_lists.proofs.Filling.{over_next, over_zeros, end_in_bytes}
use Rattle.byte_lists.proofs.write.Goals as goal

pub overflow_mul-k : goal.overflow_mul-k
overflow_mul-k g c = let h = end_in_bytes g.met.T.Element.laws.some c.BYTES-width.ensures c.writable.ensures c.if-not-writable.false c.loop-k-test.true in omega (arith, h)

pub loop-k-preserved : goal.loop-k-preserved
loop-k-preserved g c = over_next g.T.Element.code g.met.T.Element.laws.default _ _ _ _ _ (replicate (length c.args.bytes.now) 0) _ _ c.BYTES-width.ensures c.loop-k.invariant c.index-list-k.is c.loop-k-test.true c.put.ensures

pub returns : goal.returns
returns g c =
    let e : writable g.T.Element.BYTES (length c.args.list.now) (length c.args.bytes.now) ≡ true = sym c.writable.ensures ∙ c.if-not-writable.false in
    let end : c.loop-k.k ≡ length c.args.list.now = omega arith in
    (sym e, rw (e, g.met.T.Element.laws.spells c.args.list.now, ← end) (c.loop-k.invariant ∙ over_zeros 0 _ _ _))
