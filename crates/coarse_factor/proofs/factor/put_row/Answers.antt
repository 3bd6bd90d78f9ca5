-- An entry more.
use mathlib.Core.Path.{◌≡◌, refl, sym}
use native.Mathlib.Omega.{arith}
use lib.ListN.{length-set}
use Rattle.coarse_factor.proofs.Cholesky.{left_none}
use Rattle.coarse_factor.proofs.Fronts.{front_more}
use Rattle.coarse_factor.proofs.factor.put_row.Goals as goal

pub loop-k-init : goal.loop-k-init
loop-k-init c = record { long = refl; made = λ a n e f. left_none a c.args.i c.args.l.now }

pub loop-k-preserved : goal.loop-k-preserved
loop-k-preserved c =
    let a = c.args in
    let p = c.requires in
    let o = c.loop-k in
    record {
      long = simp length-set o.invariant.long;
      made = λ b n e f. front_more b a.l.now a.w.now n a.lane a.i e p.0 (rw (sym p.2) p.3) f o.k a.start o.l (omega arith) p.2 (o.invariant.made b n e f);
    }

pub returns : goal.returns
returns c = let e : c.loop-k.k ≡ c.args.i = omega arith in rw e at c.loop-k.invariant.made
