-- The entries passed are counted, and the position of a single one is known; none or several are summed by the plain loop.
use Prim.Native.Nat.{◌<◌, ◌≤◌}
use native.Mathlib.Omega.{arith}
use lib.Dec.{eqb}
use lib.ListN.{length}
use borrow.Author.Tests.{eq-eqb, ne_eqb}
use Rattle.csr32.proofs.Single.{single_none, single_hit, single_miss, single_found}
use Rattle.csr32.proofs.diagonal.sum_at.Goals as goal
use Rattle.csr32.proofs.diagonal.sum_at.Goals.{then-c-wanted, else-c-wanted}

pub loop-k-init : goal.loop-k-init
loop-k-init c = let a = c.args in single_none (λ x. eqb x a.column) a.columns.now a.values.now 0

pub loop-k-preserved : goal.loop-k-preserved
loop-k-preserved c =
    let a = c.args in
    let l = c.loop-k in
    let h : l.k < length a.columns.now = omega arith in
    let low : 0 ≤ l.k = omega arith in
    elim c.if-c-wanted.branch [
      | then-c-wanted w ↦ single_hit (λ x. eqb x a.column) a.columns.now a.values.now 0 l.k low h c.requires.same l.count l.at l.invariant c.if-c-wanted.count c.if-c-wanted.at
          (eq-eqb _ _ w.if-c-wanted.true) w.count-is w.at-is
      | else-c-wanted w ↦ single_miss (λ x. eqb x a.column) a.columns.now a.values.now 0 l.k low h c.requires.same l.count l.at l.invariant c.if-c-wanted.count c.if-c-wanted.at
          (ne_eqb _ _ w.if-c-wanted.false) w.count-is w.at-is
    ]

pub returns-then-count-eq1 : goal.returns-then-count-eq1
returns-then-count-eq1 c =
    let a = c.args in
    let l = c.loop-k in
    single_found (λ x. eqb x a.column) a.columns.now a.values.now l.k l.count l.at (omega arith) c.requires.same c.if-count-eq1.true l.invariant
