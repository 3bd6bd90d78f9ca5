-- `renumber` goes through the numbers.
use native.Mathlib.Omega.{arith}
use Prim.Native.Nat.{◌+◌, ◌<◌}
use lib.ListN.{length, get_or}
use lib.Seq.{get_or-set_same}
use Rattle.aggregates.proofs.renumber.Numbering.{number_first, number_old, number_new, number_last}
use Rattle.aggregates.proofs.Stages.{zeros_of}
use Rattle.aggregates.proofs.renumber.renumber.Goals as goal
use Rattle.aggregates.proofs.renumber.renumber.Goals.{then-table-at-eq0, else-table-at-eq0}

pub loop-id-init : goal.loop-id-init
loop-id-init c = number_first c.args.ids.now c.fill.new.self (zeros_of _ _ (c.fill.ensures.after (λ y e. e)))

pub loop-id-preserved : goal.loop-id-preserved
loop-id-preserved c =
    let a = c.args in
    let l = c.loop-id in
    let low : get_or l.ids l.id-index 0 < length l.table = omega (arith, l.invariant.rest l.id-index (omega arith), c.requires.upto l.id-index (omega arith), l.auto, c.fill.ensures.len) in
    elim c.if-table-at-eq0.branch [
      | then-table-at-eq0 w ↦ rw (w.table-is, w.count-is, get_or-set_same l.table (get_or l.ids l.id-index 0) (l.count + 1) 0 low) (number_new a.ids.now l.ids l.table l.count l.id-index l.auto.ids l.invariant (omega arith) low w.if-table-at-eq0.true)
      | else-table-at-eq0 w ↦ rw (w.table-is, w.count-is) (number_old a.ids.now l.ids l.table l.count l.id-index l.auto.ids l.invariant (omega arith) low w.if-table-at-eq0.false)
    ]

pub returns : goal.returns
returns c =
    let a = c.args in
    let l = c.loop-id in
    let e = number_last a.ids.now l.ids l.table l.count l.id-index l.auto.ids l.invariant (omega arith) in
    record { ids_after = e.0; value = e.1 }
