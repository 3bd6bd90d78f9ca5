-- 17, 18, then the solve with a part that fits.
use Prim.Native.Nat.{ℕ, ◌*◌}
use mathlib.Core.Path.{◌≡◌, refl, ◌∙◌}
use mathlib.Core.Bool.{◌&&◌}
use mathlib.Core.List.{List}
use native.Mathlib.Omega.{arith}
use lib.Dec.{leb}
use lib.ListN.{length, take}
use lib.Seq.{length-take-le}
use lib.Ieee.{Float}
use Rattle.definitions.specs.Numbers.{zeroᶠ}
use Rattle.definitions.specs.Refusal.{done}
use Rattle.definitions.specs.Coarse.{coarse_length, coarse_solve}
use Rattle.definitions.specs.declared.TwoLevelCoarseApplyPolicy.{TwoLevelCoarseApplyPolicy}
use Rattle.definitions.specs.declared.Refusal.TheVariants.{CoarseTooLarge, CoarseListTooShort}
use Rattle.causes.proofs.Left.{accept_left, refuse_cleared, large_clears, short_clears}
use Rattle.laws.proofs.CoarseChecks.{checks, large, short, fit, one_short, both_fit}
use Rattle.coarse_solve.specs.Calls.{coarse_solve_call}
use Rattle.coarse_solve.proofs.ByPolicy.{stored_length}
use Rattle.coarse_solve.proofs.coarse_solve.Goals as goal

checked : (p : TwoLevelCoarseApplyPolicy) (c : ℕ) (part work : List Float)
    → coarse_solve_call p c part work ≡ checks c (leb (coarse_length p c) (length part) && leb (2 * c) (length work)) (done (coarse_solve p c (take (coarse_length p c) part) (take c work)))
unfolding coarse_solve_call
checked p c part work = refl

pub returns-then-c-gt-MAX_COARSE : goal.returns-then-c-gt-MAX_COARSE
returns-then-c-gt-MAX_COARSE c =
    let a = c.args in
    refuse_cleared zeroᶠ (coarse_solve_call a.policy a.c a.part.now a.work.now) a.work.now c.fill.new.self (CoarseTooLarge a.c)
    (checked a.policy a.c a.part.now a.work.now ∙ large a.c (leb (coarse_length a.policy a.c) (length a.part.now) && leb (2 * a.c) (length a.work.now)) (done (coarse_solve a.policy a.c (take (coarse_length a.policy a.c) a.part.now) (take a.c a.work.now))) (omega arith)) (large_clears a.c) (c.fill.ensures.after (λ y e. e))

pub returns-then-part-count : goal.returns-then-part-count
returns-then-part-count c =
    let a = c.args in
    let n : c.part_length-count.result ≡ coarse_length a.policy a.c = c.part_length-count.ensures ∙ stored_length a.policy a.c (omega arith) in
    refuse_cleared zeroᶠ (coarse_solve_call a.policy a.c a.part.now a.work.now) a.work.now c.fill-then-part-count.new.self (CoarseListTooShort a.c)
    (checked a.policy a.c a.part.now a.work.now ∙ short a.c (leb (coarse_length a.policy a.c) (length a.part.now) && leb (2 * a.c) (length a.work.now)) (done (coarse_solve a.policy a.c (take (coarse_length a.policy a.c) a.part.now) (take a.c a.work.now))) (omega arith)
    (one_short _ _ _ _ (rw n at c.then-part-count.either))) (short_clears a.c) (c.fill-then-part-count.ensures.after (λ y e. e))

pub solve_stored-requires : goal.solve_stored-requires
solve_stored-requires c =
    let a = c.args in
    let n = c.part_length-count in
    (length-take-le n.result a.part.now (omega arith) ∙ n.ensures ∙ stored_length a.policy a.c (omega arith), omega arith, omega arith)

pub returns : goal.returns
returns c =
    let a = c.args in
    let n : c.part_length-count.result ≡ coarse_length a.policy a.c = c.part_length-count.ensures ∙ stored_length a.policy a.c (omega arith) in
    accept_left zeroᶠ (coarse_solve_call a.policy a.c a.part.now a.work.now) a.work.now c.solve_stored.new.work (coarse_solve a.policy a.c (take (coarse_length a.policy a.c) a.part.now) (take a.c a.work.now))
    (checked a.policy a.c a.part.now a.work.now ∙ fit a.c (leb (coarse_length a.policy a.c) (length a.part.now) && leb (2 * a.c) (length a.work.now)) (done (coarse_solve a.policy a.c (take (coarse_length a.policy a.c) a.part.now) (take a.c a.work.now))) (omega arith) (both_fit (coarse_length a.policy a.c) (length a.part.now) (2 * a.c) (length a.work.now) (omega (arith, n)) (omega arith)))
    (c.solve_stored.ensures ∙ rw n)
