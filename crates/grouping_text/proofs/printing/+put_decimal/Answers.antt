-- The digits before the last, then the last.
use mathlib.Core.Path.{◌≡◌}
use Prim.Native.Nat.{suc, ◌-◌, ◌/◌}
use native.Mathlib.Omega.{arith}
use Rattle.grouping_text.proofs.printing.Bytes.{puts_none, puts_then, decimal_none, decimal_one, decimal_more}
use Rattle.grouping_text.proofs.printing.+put_decimal.Goals as goal

pub returns-then-places-eq0 : goal.returns-then-places-eq0
returns-then-places-eq0 t c = rw (c.if-places-eq0.true, decimal_none) (puts_none _ _ c.requires)

pub returns-then-rest-eq0 : goal.returns-then-rest-eq0
returns-then-rest-eq0 t c =
    let p : c.args.places ≡ suc (c.args.places - 1) = omega (arith, c.if-places-eq0.false) in
    rw (p, decimal_one _ _ c.if-rest-eq0.true) c.put.ensures

pub returns : goal.returns
returns t c =
    let p : c.args.places ≡ suc (c.args.places - 1) = omega (arith, c.if-places-eq0.false) in
    let k : c.args.n / 10 ≡ suc (c.args.n / 10 - 1) = omega (arith, c.if-rest-eq0.false) in
    rw (p, decimal_more _ _ _ k) (puts_then _ _ _ _ _ c.put_decimal-next.ensures _ _ _ c.put-2.ensures)
