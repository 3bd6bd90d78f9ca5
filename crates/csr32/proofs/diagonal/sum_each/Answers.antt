-- The pair that the loop is at holds the column and the value at the index that it has come to.
use Rattle.std.proofs.Common.{length, arith, length-append}
use Rattle.std.proofs.lemmas.Slice.Zip.{zip_turn, zip_end}
use borrow.Author.Rules.{rules}
use borrow.Author.Tests.{eq-eqb, ne_eqb}
use lib.Dec.{eqb}
use lib.Ieee.{nan}
use Rattle.csr32.proofs.Sums.{sums_none, sums_hit, sums_miss, sums_all}
use Rattle.csr32.proofs.diagonal.sum_each.Goals as goal

pub loop-c-init : goal.loop-c-init
loop-c-init c = let a = c.args in sums_none (λ x. eqb x a.column) a.columns.now a.values.now

pub loop-c-preserved-then-c-column : goal.loop-c-preserved-then-c-column
loop-c-preserved-then-c-column c =
    let a = c.args in
    let o = c.loop-c in
    let t = zip_turn a.columns.now a.values.now o.yielded _ o.c-iterator c.next.new.self c.next.result (search rules) (search rules) o.yielded_by (c.in-Some.c, c.in-Some.value) c.in-Some.is c.next.ensures.steps in
    sums_hit (λ x. eqb x a.column) a.columns.now a.values.now (length o.yielded) _ c.in-Some.c.now (length-append o.yielded _) t.0 t.1 (t.2 0) c.in-Some.value.now o.sum c.unwrap_or.result (t.3 nan) c.requires (eq-eqb _ _ c.if-c-column.true) o.invariant c.unwrap_or.ensures

pub loop-c-preserved : goal.loop-c-preserved
loop-c-preserved c =
    let a = c.args in
    let o = c.loop-c in
    let t = zip_turn a.columns.now a.values.now o.yielded _ o.c-iterator c.next.new.self c.next.result (search rules) (search rules) o.yielded_by (c.in-Some.c, c.in-Some.value) c.in-Some.is c.next.ensures.steps in
    sums_miss (λ x. eqb x a.column) a.columns.now a.values.now (length o.yielded) _ c.in-Some.c.now (length-append o.yielded _) t.0 t.1 (t.2 0) o.sum c.requires (ne_eqb _ _ c.if-c-column.false) o.invariant

pub returns : goal.returns
returns c =
    let a = c.args in
    let o = c.loop-c in
    let t = zip_end a.columns.now a.values.now o.yielded _ o.c-iterator c.next.new.self c.next.result (search rules) (search rules) o.yielded_by c.in-None.is c.next.ensures.steps in
    sums_all (λ x. eqb x a.column) a.columns.now a.values.now (length o.yielded) o.sum (omega (arith, t, c.requires)) c.requires o.invariant
