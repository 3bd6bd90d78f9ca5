-- The significand and the exponent: a subnormal has the field 0, and its leading zeros say how far it is shifted.
use mathlib.Core.Path.{◌≡◌, sym, ap, ◌∙◌, subst}
use Prim.Native.Nat.{ℕ, suc, ◌+◌, ◌-◌, ◌*◌, ◌/◌, ◌%◌, ◌^◌, ◌≤◌, ◌<◌}
use native.Mathlib.Nat.{lt_of_lt_of_le, mod-eq_of_lt}
use native.Mathlib.Omega.{arith}
use lib.Dec.{lit≤}
use lib.Bits.{bit_and}
use lib.Count.{count_leading_zeros}
use lib.IntN.{ℤ, pos, negsuc, ◌-ℤ◌}
use mir.Syntax.{w32}
use mir.Val.{to_z}
use Rattle.root.specs.Fields.{Split}
use Rattle.root.proofs.Exponent.{again, again_is}
use Rattle.root.proofs.Pattern.{mask_is, Shifted, shifted, split_low, moved, split_high}
use Rattle.root.proofs.fields.Scaled.of.Goals as goal

-- ---- a field of 0: the digits are the pattern

module _ (b : ℕ) (B : 0 < b) (none : b / 4503599627370496 ≡ 0) where
  digits_are : bit_and b 4503599627370495 ≡ b
  digits_are = let m = mask_is b in omega arith

  shift : Shifted b
  shift = shifted b B (omega arith)

  abbrev up : ℕ
  up = count_leading_zeros 64 (bit_and b 4503599627370495) - 11

  count : up ≡ suc shift.z
  count = ap (λ (x : ℕ). count_leading_zeros 64 x - 11) digits_are ∙ shift.is

  enough : 11 ≤ count_leading_zeros 64 (bit_and b 4503599627370495)
  enough = let e = count in omega arith

  exponent_lt : suc (1021 + shift.z) < 4096
  exponent_lt = let l = shift.z_lt in omega arith

  exponent : negsuc 1021 -ℤ to_z w32 up ≡ negsuc (suc (1021 + shift.z))
  exponent =
      let l = shift.z_lt in
      let e = count in
      ap (λ (y : ℤ). negsuc 1021 -ℤ y) (again_is (pos up) (omega arith)) ∙ ap (λ (x : ℕ). negsuc 1021 -ℤ pos x) count

  low : Split b (bit_and b 4503599627370495 * 2 ^ up % 18446744073709551616) (again (negsuc 1021 -ℤ to_z w32 up))
  low =
      let m : bit_and b 4503599627370495 * 2 ^ up % 18446744073709551616 ≡ b * 2 ^ suc shift.z =
      ap (λ (x : ℕ). x * 2 ^ up % 18446744073709551616) digits_are ∙ ap (λ (x : ℕ). b * 2 ^ x % 18446744073709551616) count
      ∙ mod-eq_of_lt (lt_of_lt_of_le shift.most (lit≤ {m = 2 ^ 53} {n = 18446744073709551616} tt)) in
      let e : again (negsuc 1021 -ℤ to_z w32 up) ≡ negsuc (suc (1021 + shift.z)) = ap again exponent ∙ again_is (negsuc (suc (1021 + shift.z))) exponent_lt in
      subst (λ (x : ℕ). Split b x (again (negsuc 1021 -ℤ to_z w32 up))) (sym m)
      (subst (λ (y : ℤ). Split b (b * 2 ^ suc shift.z) y) (sym e) (split_low b B none shift))

-- ---- a field above 0

high : (b : ℕ) → b < 9218868437227405312 → (b / 4503599627370496 ≡ 0 → ⊥) → Split b (bit_and b 4503599627370495 + 4503599627370496) (again (to_z w32 (b / 4503599627370496) -ℤ pos 1023))
high b u n =
    let f = b / 4503599627370496 in
    let l : f < 2047 = omega arith in
    let M = moved f l in
    let own : to_z w32 f -ℤ pos 1023 ≡ pos f -ℤ pos 1023 = ap (λ (y : ℤ). y -ℤ pos 1023) (again_is (pos f) (omega arith)) in
    let e : again (to_z w32 f -ℤ pos 1023) ≡ pos f -ℤ pos 1023 = ap again own ∙ again_is (pos f -ℤ pos 1023) (lt_of_lt_of_le M.near (lit≤ tt)) in
    subst (λ (x : ℕ). Split b (x + 4503599627370496) (again (to_z w32 f -ℤ pos 1023))) (sym (mask_is b))
    (subst (λ (y : ℤ). Split b (b % 4503599627370496 + 4503599627370496) y) (sym e) (split_high b (pos f -ℤ pos 1023) n M))

pub overflow_sub-z : goal.overflow_sub-z
overflow_sub-z c = enough _ c.requires.0 c.if-field-eq0.true

pub invariant_of-result : goal.invariant_of-result
invariant_of-result c = let S = low _ c.requires.0 c.if-field-eq0.true in record { digits = S.most; near = S.near }

pub returns-then-field-eq0 : goal.returns-then-field-eq0
returns-then-field-eq0 c = low _ c.requires.0 c.if-field-eq0.true

pub returns : goal.returns
returns c = high _ c.requires.1 c.if-field-eq0.false
