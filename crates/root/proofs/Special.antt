-- The values whose root is no matter of digits: NaN, the zeros, infinity, and what is negative; and patterns that are no NaN's.
use mathlib.Core.Path.{◌≡◌, refl, sym, ap, ◌∙◌, subst}
use mathlib.Core.Bool.{Bool, true, false, not, true≢false}
use Prim.Native.Nat.{ℕ, ◌%◌, ◌≤◌, ◌<◌}
use native.Mathlib.Omega.{arith}
use lib.Dec.{T, T_not, ltb, leb, leb→le, nleb→lt, lt→ltb}
use lib.Arith.{lt_of_le-ne}
use lib.Ieee.{Float, nan, inf, fin, binary64, fits, is_nan, of_bits, to_bits}
use lib.Ieee.Bits.{of_bits-to_bits, to_bits-lt, nan_bits_is, nan_bits_above}
use Rattle.definitions.specs.Root.{root}
use Rattle.definitions.specs.Numbers.{rootᶠ}
use Rattle.laws.proofs.RootBits.{negative_bits}

pub root_nan : (x : Float) → is_nan x ≡ true → x ≡ rootᶠ x
unfolding root is_nan
root_nan nan e = refl
root_nan (inf s) e = absurd (true≢false (sym e))
root_nan (fin s m d) e = absurd (true≢false (sym e))

-- ---- x by its pattern

by_bits : (x : Float) (b : ℕ) → T (fits binary64 x) → to_bits binary64 x ≡ b → x ≡ of_bits binary64 b
by_bits x b h e = sym (of_bits-to_bits binary64 x h) ∙ ap (of_bits binary64) e

pub root_kept : (x : Float) (b : ℕ) → T (fits binary64 x) → to_bits binary64 x ≡ b → of_bits binary64 b ≡ rootᶠ (of_bits binary64 b) → x ≡ rootᶠ x
root_kept x b h e k = let p = by_bits x b h e in p ∙ k ∙ ap rootᶠ (sym p)

pub at_zero : of_bits binary64 0 ≡ rootᶠ (of_bits binary64 0)
unfolding of_bits root
at_zero = refl

pub at_minus_zero : of_bits binary64 9223372036854775808 ≡ rootᶠ (of_bits binary64 9223372036854775808)
unfolding of_bits root
at_minus_zero = refl

pub at_infinity : of_bits binary64 9218868437227405312 ≡ rootᶠ (of_bits binary64 9218868437227405312)
unfolding of_bits root
at_infinity = refl

pub nan_literal : of_bits binary64 9221120237041090560 ≡ nan
unfolding of_bits
nan_literal = refl

-- a pattern above infinity's, of no NaN, and not that of -0
pub below_zero : (x : Float) → T (fits binary64 x) → T (not (is_nan x)) → 9218868437227405312 < to_bits binary64 x → (to_bits binary64 x ≡ 9223372036854775808 → ⊥) → rootᶠ x ≡ nan
below_zero x h n l z =
    let b = to_bits binary64 x in
    let p : x ≡ of_bits binary64 b = by_bits x b h refl in
    ap rootᶠ p ∙ negative_bits b (go (leb b 9223372036854775807) (leb→le b 9223372036854775807) (nleb→lt b 9223372036854775807)) (to_bits-lt binary64 x h)
  where
    clash : to_bits binary64 x ≤ 9223372036854775807 → ⊥
    clash g =
        let b = to_bits binary64 x in
        let m : b % 9223372036854775808 ≡ b = omega arith in
        let t : T (ltb 9218868437227405312 (b % 9223372036854775808)) = lt→ltb 9218868437227405312 (b % 9223372036854775808) (omega arith) in
        T_not (is_nan x) n (subst T (nan_bits_is binary64 b ∙ ap is_nan (of_bits-to_bits binary64 x h)) (subst T (sym (nan_bits_above binary64 b)) t))

    go : (d : Bool) → (T d → to_bits binary64 x ≤ 9223372036854775807) → (T (not d) → 9223372036854775807 < to_bits binary64 x) → 9223372036854775808 < to_bits binary64 x
    go true p q = absurd (clash (p tt))
    go false p q = lt_of_le-ne (q tt) (λ (e : 9223372036854775808 ≡ to_bits binary64 x). z (sym e))
