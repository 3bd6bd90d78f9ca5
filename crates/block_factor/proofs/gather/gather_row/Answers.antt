-- Each place of the row holds the sum of what the entries passed store at its column.
use Rattle.std.proofs.Common.{refl, arith, ◌-◌, length, length-append}
use Rattle.std.proofs.lemmas.Slice.Zip.{zip_turn, zip_end}
use borrow.Author.Rules.{rules}
use lib.Ieee.{nan}
use Rattle.csr32.specs.Seen.{square}
use Rattle.block_factor.proofs.Gathering.{gather_miss, gather_hit, row_is}
use Rattle.block_factor.proofs.gather.gather_row.Goals as goal
use Rattle.block_factor.proofs.gather.gather_row.Goals.{else-first-c-via-then-first-c+else-c-first, else-first-c-via-else-first-c}

pub loop-column-preserved-then-c-first : goal.loop-column-preserved-then-c-first
loop-column-preserved-then-c-first c =
    let x = c.args in
    let o = c.loop-column in
    let r = c.row in
    let e = r.ensures in
    let t = zip_turn r.result.0.now r.result.1.now o.yielded _ o.column-iterator c.next.new.self c.next.result (search rules) (search rules) o.yielded_by (c.in-Some.column, c.in-Some.value) c.in-Some.is c.next.ensures.steps in
    let column = c.in-Some.column.now in
    rw (← e.columns, ← e.values)
    (gather_hit r.result.0.now r.result.1.now x.first (length o.yielded) _ column c.in-Some.value.now (length-append o.yielded _) t.0 e.same (t.2 0) (t.3 nan) (length x.row.now) o.row _
    (rw (← e.columns, ← e.values) at o.invariant) (column - x.first) (omega arith) (omega arith) refl)

pub loop-column-preserved : goal.loop-column-preserved
loop-column-preserved c =
    let x = c.args in
    let o = c.loop-column in
    let r = c.row in
    let e = r.ensures in
    let t = zip_turn r.result.0.now r.result.1.now o.yielded _ o.column-iterator c.next.new.self c.next.result (search rules) (search rules) o.yielded_by (c.in-Some.column, c.in-Some.value) c.in-Some.is c.next.ensures.steps in
    let column = c.in-Some.column.now in
    rw (← e.columns, ← e.values)
    (gather_miss r.result.0.now r.result.1.now x.first (length o.yielded) _ column c.in-Some.value.now (length-append o.yielded _) t.0 e.same (t.2 0) (t.3 nan) (length x.row.now) o.row _
    (rw (← e.columns, ← e.values) at o.invariant) refl
    (λ j q h. elim c.else-first-c.branch [
      | else-first-c-via-then-first-c+else-c-first w ↦ omega (arith, w.if-first-c.true, w.if-c-first.false)
      | else-first-c-via-else-first-c w ↦ omega (arith, w.if-first-c.false)
    ]))

pub returns : goal.returns
returns c =
    let x = c.args in
    let o = c.loop-column in
    let r = c.row in
    let e = r.ensures in
    let t = zip_end r.result.0.now r.result.1.now o.yielded _ o.column-iterator c.next.new.self c.next.result (search rules) (search rules) o.yielded_by c.in-None.is c.next.ensures.steps in
    row_is (square x.a.now) x.first x.i r.result.0.now r.result.1.now (length o.yielded) _ o.row e.entries (omega (arith, t, e.same)) e.same (rw (← e.columns, ← e.values) at o.invariant)
