use Rattle.std.proofs.Common.{◌≡◌, ◌+◌, ◌-◌, arith, suc}
use Rattle.definitions.specs.Coarse.{packed_entry}
use Rattle.laws.proofs.Packed.{next_at}
use Rattle.laws.proofs.KeptColumn.{kept_none, kept_more}
use Rattle.coarse_inverse.proofs.Sides.{sums_none, sums_more}
use Rattle.coarse_inverse.proofs.lanes.column_lanes.Goals as goal

pub loop-j-init : goal.loop-j-init
loop-j-init c =
    let a = c.args in
    record {
      place = let z : a.i + 2 ≡ a.i + 1 + 1 = omega arith in rw z;
      partial = sums_none 16 _ _ a.w.now _ (omega arith);
      kept_before = kept_none a.factor.now.l.now a.kept.now a.i;
    }

pub loop-j-preserved : goal.loop-j-preserved
loop-j-preserved c =
    let a = c.args in
    let o = c.loop-j in
    let l = a.factor.now.l.now in
    let v = o.invariant in
    let z : suc a.i + (o.j - suc a.i) ≡ o.j = omega arith in
    record {
      place = next_at o.at a.i o.j v.place;
      partial = sums_more 16 (λ k. packed_entry l (suc a.i + k) a.i) (suc a.i) a.w.now (o.j - suc a.i) _ o.j o.sums _ _ (omega arith) (omega arith) (omega arith) v.partial (rw (z, v.place)) c.add_lanes.ensures;
      kept_before = kept_more l a.kept.now o.kept a.i o.j o.at (omega arith) v.place v.kept_before;
    }

pub returns-then-i-gt0-clause-value : goal.returns-then-i-gt0-clause-value
returns-then-i-gt0-clause-value c = let e : c.loop-j.j ≡ c.args.factor.now.n = omega arith in rw e at c.loop-j.invariant.partial

pub returns-else-i-gt0-clause-value : goal.returns-else-i-gt0-clause-value
returns-else-i-gt0-clause-value c = let e : c.loop-j.j ≡ c.args.factor.now.n = omega arith in rw e at c.loop-j.invariant.partial
