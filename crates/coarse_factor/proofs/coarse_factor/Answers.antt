-- 17, 18, then the factor of a matrix of usable scale, or zeros.
use Prim.Native.Nat.{◌*◌}
use mathlib.Core.Path.{sym, ◌∙◌}
use native.Mathlib.Omega.{arith}
use lib.ListN.{length, take}
use Rattle.definitions.specs.Numbers.{largest}
use Rattle.definitions.specs.declared.Refusal.TheVariants.{CoarseTooLarge, CoarseListTooShort}
use Rattle.causes.proofs.Left.{large_clears, short_clears}
use Rattle.coarse_factor.specs.Calls.{coarse_factor_call}
use Rattle.coarse_factor.proofs.Fitting.{call_large, call_short, call_fits, answer_cleared, fitting_done, fitting_pivot, fitting_scale}
use Rattle.coarse_factor.proofs.coarse_factor.Goals as goal

pub returns-then-c-gt-MAX_COARSE : goal.returns-then-c-gt-MAX_COARSE
returns-then-c-gt-MAX_COARSE c =
    let a = c.args in
    answer_cleared (largest (take (a.c * a.c) a.m.now)) (coarse_factor_call a.c a.m.now (length a.lower.now)) a.lower.now c.fill.new.self (CoarseTooLarge a.c)
    (call_large a.c a.m.now (length a.lower.now) (omega arith)) (large_clears a.c) (c.fill.ensures.after (λ y e. e))

pub returns-then-m-square : goal.returns-then-m-square
returns-then-m-square c =
    let a = c.args in
    answer_cleared (largest (take (a.c * a.c) a.m.now)) (coarse_factor_call a.c a.m.now (length a.lower.now)) a.lower.now c.fill.new.self (CoarseListTooShort a.c)
    (call_short a.c a.m.now (length a.lower.now) (omega arith) (rw c.fill.auto.self at c.then-m-square.either)) (short_clears a.c) (c.fill.ensures.after (λ y e. e))

pub returns-then-not-usable : goal.returns-then-not-usable
returns-then-not-usable c =
    let a = c.args in
    rw (call_fits a.c a.m.now (length a.lower.now) (omega arith) (omega arith) (omega arith))
    (fitting_scale a.c (take (a.c * a.c) a.m.now) a.lower.now c.fill.new.self c.largest-top.result c.largest-top.ensures (sym c.usable.ensures ∙ c.if-not-usable.true) (c.fill.ensures.after (λ y e. e)))

pub returns-in-Err : goal.returns-in-Err
returns-in-Err c =
    let a = c.args in
    let f = c.factor_rows in
    rw (call_fits a.c a.m.now (length a.lower.now) (omega arith) (omega arith) (omega arith))
    (fitting_pivot a.c (take (a.c * a.c) a.m.now) a.lower.now c.fill.new.self f.new.l c.largest-top.result c.larger-tol.result f.result c.largest-top.ensures (sym c.usable.ensures ∙ c.if-not-usable.false) c.larger-tol.ensures (omega arith)
    (c.fill.ensures.after (λ y e. e)) f.ensures.0 f.ensures.1 _ c.fill-in-Err.new.self c.in-Err.is (c.fill-in-Err.ensures.after (λ y e. e)))

pub returns : goal.returns
returns c =
    let a = c.args in
    let f = c.factor_rows in
    rw (call_fits a.c a.m.now (length a.lower.now) (omega arith) (omega arith) (omega arith))
    (fitting_done a.c (take (a.c * a.c) a.m.now) a.lower.now c.fill.new.self f.new.l c.largest-top.result c.larger-tol.result f.result c.largest-top.ensures (sym c.usable.ensures ∙ c.if-not-usable.false) c.larger-tol.ensures (omega arith)
    (c.fill.ensures.after (λ y e. e)) f.ensures.0 f.ensures.1 c.in_default.is)
