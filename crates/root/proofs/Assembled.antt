-- The parts put together: significand, odd bit, digits and half the exponent give the pattern of the root.
use mathlib.Core.Path.{◌≡◌, sym, ap, ◌∙◌}
use Prim.Native.Nat.{ℕ, zero, suc, ◌+◌, ◌-◌, ◌*◌, ◌/◌, ◌%◌, ◌^◌, ◌≤◌, ◌<◌}
use native.Mathlib.Nat.{le_trans, le_of_eq, lt_of_lt_of_le, lt_of_le_of_lt, lt_of_not-le, mul-one, mul-pos, mul_assoc, mul_right_comm, mul-le-mul, mul-le-mul_right, mul-lt-mul_of_pos_right}
use native.Mathlib.Omega.{arith}
use lib.IntN.{ℤ}
use lib.Pow.{pow-add, pow_pos, pow_mono}
use lib.Ieee.{binary64, of_bits}
use Rattle.definitions.specs.Numbers.{rootᶠ}
use Rattle.laws.specs.WholeRoot.{Rest, closer}
use Rattle.laws.proofs.RootSquares.{Near, rest_near}
use Rattle.laws.proofs.RootLaws.{near_least, some_digits}
use Rattle.laws.specs.WholeRoot.{size_of}
use Rattle.laws.proofs.RootBits.{bits_value, Found, root_of_value}
use Rattle.root.specs.Fields.{Split, odd_bit, half, raised}
use Rattle.root.proofs.Exponent.{twice_half, half_small, raised_small, odd_small}

-- ---- the significand with the odd bit: 53 or 54 bits, and not the largest of 54

pub record Evened (a : ℕ) : Type 0 where
  pub least : 2 ^ 52 ≤ a
  pub most : a + 2 ≤ 2 ^ 54

pub evened : (m o a : ℕ) → 2 ^ 52 ≤ m → m < 2 ^ 53 → o < 2 → a ≡ m * 2 ^ o → Evened a
evened m zero a l h o e = let g = mul-one m in record { least = omega arith; most = omega arith }
evened m (suc zero) a l h o e = let g : a ≡ m * 2 = e in record { least = omega arith; most = omega arith }
evened m (suc (suc o)) a l h g e = let x : ⊥ = omega arith in absurd x

module _ (a c r : ℕ) (E : Evened a) (R : Rest (a * 2 ^ 52) c r) where
  n_least : 2 ^ 52 * 2 ^ 52 ≤ a * 2 ^ 52
  n_least = mul-le-mul_right (2 ^ 52) E.least

  n_most : a * 2 ^ 52 < 2 ^ 53 * 2 ^ 53
  n_most = let h = E.most in omega arith

  near : Near (a * 2 ^ 52) (closer c r)
  near = rest_near (a * 2 ^ 52) c r (some_digits 53 (a * 2 ^ 52) n_least) R

  pub closer_least : 2 ^ 52 ≤ closer c r
  closer_least = near_least 53 (a * 2 ^ 52) (closer c r) n_least near

  -- no carry out of the significand
  pub closer_most : closer c r < 2 ^ 53
  closer_most = lt_of_not-le (λ (g : 2 ^ 53 ≤ closer c r). no (closer c r) g near)
    where
      no : (q : ℕ) → 2 ^ 53 ≤ q → Near (a * 2 ^ 52) q → ⊥
      no q g N =
          let x : 2 ^ 54 - 1 ≤ q + q - 1 = omega arith in
          let y : (2 ^ 54 - 1) * (2 ^ 54 - 1) ≤ (q + q - 1) * (q + q - 1) = mul-le-mul x x in
          let z = lt_of_le_of_lt y N.above in
          let h = E.most in
          omega arith

-- ---- the value, scaled by an even power of two

scaled : (m o k j : ℕ) → j ≡ o + (k + k) → m * 2 ^ 52 * 2 ^ j ≡ m * 2 ^ o * 2 ^ 52 * (2 ^ k * 2 ^ k)
scaled m o k j e =
    ap (λ (x : ℕ). m * 2 ^ 52 * 2 ^ x) e
    ∙ ap (λ (x : ℕ). m * 2 ^ 52 * x) (pow-add 2 o (k + k) ∙ ap (λ (x : ℕ). 2 ^ o * x) (pow-add 2 k k))
    ∙ sym (mul_assoc (m * 2 ^ 52) (2 ^ o) (2 ^ k * 2 ^ k))
    ∙ ap (λ (x : ℕ). x * (2 ^ k * 2 ^ k)) (mul_right_comm m (2 ^ 52) (2 ^ o))

size_pos : (x t b : ℕ) → 0 < b → x * 4503599627370496 + t ≡ b → 0 < size_of x t
size_pos zero t b B e = omega arith
size_pos (suc x) t b B e = mul-pos (omega arith) (pow_pos x)

no_overflow : (q k : ℕ) → q < 2 ^ 53 → k < 2000 → q * 2 ^ k < 2 ^ 2098
no_overflow q k h g =
    lt_of_lt_of_le (mul-lt-mul_of_pos_right h (pow_pos k)) (le_trans (le_of_eq (sym (pow-add 2 53 k))) (pow_mono (room k g)))
  where
    room : (y : ℕ) → y < 2000 → 53 + y ≤ 2098
    room y l = omega arith

pub found : (b m : ℕ) (e : ℤ) (a c r : ℕ) → 0 < b → b < 9218868437227405312 → Split b m e → a ≡ m * 2 ^ odd_bit e → Rest (a * 2 ^ 52) c r
    → Found binary64 (of_bits binary64 b) (size_of (b / 4503599627370496) (b % 4503599627370496)) (a * 2 ^ 52) (raised 1022 (half e)) c r
found b m e a c r B u S h R =
    let E = evened m (odd_bit e) a S.least S.most (odd_small e) h in
    record {
      value = bits_value b u;
      some = size_pos (b / 4503599627370496) (b % 4503599627370496) b B (split b);
      scaled = S.value ∙ scaled m (odd_bit e) (raised 1022 (half e)) (raised 2044 e) (twice_half e S.near) ∙ ap (λ (x : ℕ). x * 2 ^ 52 * (2 ^ raised 1022 (half e) * 2 ^ raised 1022 (half e))) (sym h);
      least = n_least a c r E R;
      most = n_most a c r E R;
      rest = R;
    }
  where
    split : (y : ℕ) → y / 4503599627370496 * 4503599627370496 + y % 4503599627370496 ≡ y
    split y = omega arith

-- p is the pattern that is put together
pub assembled : (b m : ℕ) (e : ℤ) (a c r p : ℕ) → 0 < b → b < 9218868437227405312 → Split b m e → a ≡ m * 2 ^ odd_bit e → Rest (a * 2 ^ 52) c r → p ≡ raised 1022 (half e) * 2 ^ 52 + closer c r
    → (p < 9218868437227405312) × (of_bits binary64 p ≡ rootᶠ (of_bits binary64 b))
assembled b m e a c r p B u S h R P =
    let E = evened m (odd_bit e) a S.least S.most (odd_small e) h in
    let k = raised 1022 (half e) in
    let K = raised_small (half e) (half_small e S.near) in
    let q = closer c r in
    let Q = closer_most a c r E R in (
      bound p k q P K Q,
      ap (of_bits binary64) P ∙ sym (root_of_value binary64 (of_bits binary64 b) (size_of (b / 4503599627370496) (b % 4503599627370496)) (a * 2 ^ 52) k c r (found b m e a c r B u S h R) Q (no_overflow q k Q K)),
    )
  where
    bound : (p k q : ℕ) → p ≡ k * 4503599627370496 + q → k < 2000 → q < 2 ^ 53 → p < 9218868437227405312
    bound p k q e f g = omega arith
