-- 17, 18, then the inverse of a factor that fits.
use Prim.Native.Nat.{ℕ, ◌*◌}
use mathlib.Core.Path.{◌≡◌, refl, ◌∙◌}
use mathlib.Core.Bool.{◌&&◌}
use mathlib.Core.List.{List}
use native.Mathlib.Omega.{arith}
use lib.Dec.{leb}
use lib.ListN.{length, take}
use lib.Ieee.{Float}
use Rattle.definitions.specs.Numbers.{zeroᶠ}
use Rattle.definitions.specs.Refusal.{done}
use Rattle.definitions.specs.Coarse.{packed_length, inverse_of}
use Rattle.definitions.specs.declared.Refusal.TheVariants.{CoarseTooLarge, CoarseListTooShort}
use Rattle.causes.proofs.Left.{accept_left, refuse_cleared, large_clears, short_clears}
use Rattle.laws.proofs.CoarseChecks.{checks, large, short, fit, one_short, both_fit}
use Rattle.coarse_inverse.specs.Calls.{coarse_inverse_call}
use Rattle.coarse_inverse.proofs.coarse_inverse.Goals as goal

checked : (c : ℕ) (l : List Float) (n : ℕ) → coarse_inverse_call c l n ≡ checks c (leb (packed_length c) (length l) && leb (c * c) n) (done (inverse_of c (take (packed_length c) l)))
unfolding coarse_inverse_call
checked c l n = refl

pub returns-then-c-gt-MAX_COARSE : goal.returns-then-c-gt-MAX_COARSE
returns-then-c-gt-MAX_COARSE c =
    let a = c.args in
    refuse_cleared zeroᶠ (coarse_inverse_call a.c a.lower.now (length a.inverse.now)) a.inverse.now c.fill.new.self (CoarseTooLarge a.c)
    (checked a.c a.lower.now (length a.inverse.now) ∙ large a.c (leb (packed_length a.c) (length a.lower.now) && leb (a.c * a.c) (length a.inverse.now)) (done (inverse_of a.c (take (packed_length a.c) a.lower.now))) (omega arith)) (large_clears a.c) (c.fill.ensures.after (λ y e. e))

pub returns-then-lower-packed : goal.returns-then-lower-packed
returns-then-lower-packed c =
    let a = c.args in
    refuse_cleared zeroᶠ (coarse_inverse_call a.c a.lower.now (length a.inverse.now)) a.inverse.now c.fill-then-lower-packed.new.self (CoarseListTooShort a.c)
    (checked a.c a.lower.now (length a.inverse.now) ∙ short a.c (leb (packed_length a.c) (length a.lower.now) && leb (a.c * a.c) (length a.inverse.now)) (done (inverse_of a.c (take (packed_length a.c) a.lower.now))) (omega arith)
    (one_short _ _ _ _ c.then-lower-packed.either)) (short_clears a.c) (c.fill-then-lower-packed.ensures.after (λ y e. e))

pub returns : goal.returns
returns c =
    let a = c.args in
    accept_left zeroᶠ (coarse_inverse_call a.c a.lower.now (length a.inverse.now)) a.inverse.now c.invert.new.inverse (inverse_of a.c (take (packed_length a.c) a.lower.now))
    (checked a.c a.lower.now (length a.inverse.now) ∙ fit a.c (leb (packed_length a.c) (length a.lower.now) && leb (a.c * a.c) (length a.inverse.now)) (done (inverse_of a.c (take (packed_length a.c) a.lower.now))) (omega arith) (both_fit (packed_length a.c) (length a.lower.now) (a.c * a.c) (length a.inverse.now) (omega arith) (omega arith)))
    c.invert.ensures
