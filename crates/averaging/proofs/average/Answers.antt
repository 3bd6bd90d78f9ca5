-- The checks in their order; every pair averaged, and the rest cleared.
use Prim.Native.Nat.{◌*◌}
use native.Mathlib.Omega.{arith}
use lib.ListN.{take}
use Rattle.definitions.specs.Coarse.{averaged_square}
use Rattle.definitions.specs.Numbers.{zeroᶠ}
use Rattle.definitions.specs.declared.Refusal.TheVariants.{CoarseTooLarge, CoarseListTooShort}
use Rattle.causes.proofs.Left.{accept_left, refuse_cleared, large_clears, short_clears}
use Rattle.averaging.specs.Averaging.{average_call}
use Rattle.averaging.proofs.Laws.{call_large, call_short, call_done, average_on}
use Rattle.averaging.proofs.average.Goals as goal

pub returns-then-c-gt-MAX_COARSE : goal.returns-then-c-gt-MAX_COARSE
returns-then-c-gt-MAX_COARSE c =
    let a = c.args in
    let f = c.fill in
    refuse_cleared zeroᶠ (average_call a.c a.m.now) a.m.now f.new.self (CoarseTooLarge a.c) (call_large a.c a.m.now (omega arith)) (large_clears a.c) (f.ensures.after (λ y e. e))

pub returns-then-m-square : goal.returns-then-m-square
returns-then-m-square c =
    let a = c.args in
    let f = c.fill-then-m-square in
    refuse_cleared zeroᶠ (average_call a.c a.m.now) a.m.now f.new.self (CoarseListTooShort a.c) (call_short a.c a.m.now (omega arith) (omega arith)) (short_clears a.c) (f.ensures.after (λ y e. e))

pub returns : goal.returns
returns c =
    let a = c.args in
    let r = c.average_rows in
    accept_left zeroᶠ (average_call a.c a.m.now) a.m.now _ (averaged_square a.c (take (a.c * a.c) a.m.now)) (call_done a.c a.m.now (omega arith) (omega arith))
    (average_on a.c a.m.now r.new.m c.fill-2.new.self (omega arith) r.ensures (c.fill-2.ensures.after (λ y e. e)))
