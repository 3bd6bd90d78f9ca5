-- The significand and the exponent from the pattern's fields.
use mathlib.Core.Path.{◌≡◌, refl, sym, ap, ◌∙◌, subst}
use Prim.Native.Nat.{ℕ, zero, suc, ◌+◌, ◌-◌, ◌*◌, ◌/◌, ◌%◌, ◌^◌, ◌≤◌, ◌<◌}
use native.Mathlib.Nat.{le_trans, le_of_eq, lt_of_lt_of_le, lt_of_le_of_lt, add_comm, mul_assoc, mul-le-mul_right, mul-lt-mul_of_pos_right}
use native.Mathlib.Omega.{arith}
use mathlib.Core.Bool.{Bool, true, false, not}
use lib.IntN.{ℤ, pos, negsuc, sub_ℕ, ◌-ℤ◌}
use lib.Signed.{mag}
use lib.Dec.{T, lit≤, leb, leb→le, nleb→lt}
use lib.Bits.{bit_and, and_mask}
use lib.Count.{count_leading_zeros, leading_top}
use lib.Pow.{pow-add, pow_pos}
use Rattle.laws.proofs.Format.{pow_less}
use Rattle.laws.specs.WholeRoot.{size_of}
use Rattle.root.specs.Fields.{raised, Split}
use Rattle.root.proofs.Exponent.{sub_ge, sub_lt}

pub mask_is : (b : ℕ) → bit_and b 4503599627370495 ≡ b % 4503599627370496
mask_is b = and_mask b 52

-- ---- a field of 0: d digits, shifted up by z
pub record Shifted (d : ℕ) : Type 0 where
  pub enough : 12 ≤ count_leading_zeros 64 d
  pub z : ℕ
  pub is : count_leading_zeros 64 d - 11 ≡ suc z
  pub z_lt : z < 52
  pub least : 2 ^ 52 ≤ d * 2 ^ suc z
  pub most : d * 2 ^ suc z < 2 ^ 53

pub shifted : (d : ℕ) → 0 < d → d < 2 ^ 52 → Shifted d
shifted d D h =
    let t = leading_top 64 d D (lt_of_lt_of_le h (lit≤ {m = 2 ^ 52} {n = 2 ^ 64} tt)) in
    let j = t.0 in
    let e : count_leading_zeros 64 d + suc j ≡ 64 = t.1 in
    let J : j < 52 = pow_less j 52 (lt_of_le_of_lt t.2 h) in
    let z = 51 - j in
    let s : j + suc z ≡ 52 = omega arith in
    let s' : suc j + suc z ≡ 53 = omega arith in
    record {
      enough = omega arith;
      z = z;
      is = omega arith;
      z_lt = omega arith;
      least = le_trans (le_of_eq (ap (λ (x : ℕ). 2 ^ x) (sym s) ∙ pow-add 2 j (suc z))) (mul-le-mul_right (2 ^ suc z) t.2);
      most = lt_of_lt_of_le (mul-lt-mul_of_pos_right t.3 (pow_pos (suc z))) (le_of_eq (sym (pow-add 2 (suc j) (suc z)) ∙ ap (λ (x : ℕ). 2 ^ x) s'));
    }

low_value : (d z : ℕ) → z < 52 → d * 2 ^ 1074 ≡ d * 2 ^ suc z * 2 ^ 52 * 2 ^ (2044 - suc (suc (1021 + z)))
low_value d z h =
    let k = 2044 - suc (suc (1021 + z)) in
    let s : 1074 ≡ suc z + 52 + k = omega arith in
    ap (λ (x : ℕ). d * 2 ^ x) s ∙ ap (λ (x : ℕ). d * x) (pow-add 2 (suc z + 52) k ∙ ap (λ (x : ℕ). x * 2 ^ k) (pow-add 2 (suc z) 52))
    ∙ sym (mul_assoc d (2 ^ suc z * 2 ^ 52) (2 ^ k)) ∙ ap (λ (x : ℕ). x * 2 ^ k) (sym (mul_assoc d (2 ^ suc z) (2 ^ 52)))

size_zero : (b : ℕ) → b / 4503599627370496 ≡ 0 → size_of (b / 4503599627370496) (b % 4503599627370496) ≡ b
size_zero b e = ap (λ (x : ℕ). size_of x (b % 4503599627370496)) e ∙ all b e
  where
    all : (x : ℕ) → x / 4503599627370496 ≡ 0 → x % 4503599627370496 ≡ x
    all x g = omega arith

-- with the shift count and the exponent as variables
pub split_low : (b : ℕ) → 0 < b → b / 4503599627370496 ≡ 0 → (S : Shifted b) → Split b (b * 2 ^ suc S.z) (negsuc (suc (1021 + S.z)))
split_low b B e S =
    record {
      least = S.least;
      most = S.most;
      near = omega (arith, S.z_lt);
      value = ap (λ (x : ℕ). x * 2 ^ 1074) (size_zero b e) ∙ low_value b S.z S.z_lt;
    }

-- ---- a field above 0
pub record Moved (f : ℕ) (e : ℤ) : Type 0 where
  pub near : mag e < 1100
  pub up : raised 2044 e ≡ f + 1021

pub moved : (f : ℕ) → f < 2047 → Moved f (pos f -ℤ pos 1023)
moved f h = go (leb 1023 f) (leb→le 1023 f) (nleb→lt 1023 f)
  where
    go : (t : Bool) → (T t → 1023 ≤ f) → (T (not t) → f < 1023) → Moved f (sub_ℕ f 1023)
    go true p q = let g = p tt in subst (λ (y : ℤ). Moved f y) (sym (sub_ge f 1023 g)) (record { near = omega arith; up = omega arith })
    go false p q = let g = q tt in subst (λ (y : ℤ). Moved f y) (sym (sub_lt f 1023 g)) (record { near = omega arith; up = omega arith })

high_value : (t x : ℕ) → (4503599627370496 + t) * 2 ^ x * 2 ^ 1074 ≡ (t + 4503599627370496) * 2 ^ 52 * 2 ^ (suc x + 1021)
high_value t x =
    let s : x + 1074 ≡ 52 + (suc x + 1021) = omega arith in
    ap (λ (y : ℕ). y * 2 ^ x * 2 ^ 1074) (add_comm 4503599627370496 t) ∙ mul_assoc (t + 4503599627370496) (2 ^ x) (2 ^ 1074)
    ∙ ap (λ (y : ℕ). (t + 4503599627370496) * y) (sym (pow-add 2 x 1074) ∙ ap (λ (y : ℕ). 2 ^ y) s ∙ pow-add 2 52 (suc x + 1021))
    ∙ sym (mul_assoc (t + 4503599627370496) (2 ^ 52) (2 ^ (suc x + 1021)))

size_suc : (f t : ℕ) (e : ℤ) → (f ≡ 0 → ⊥) → raised 2044 e ≡ f + 1021 → size_of f t * 2 ^ 1074 ≡ (t + 4503599627370496) * 2 ^ 52 * 2 ^ raised 2044 e
size_suc zero t e n h = absurd (n refl)
size_suc (suc x) t e n h = high_value t x ∙ ap (λ (y : ℕ). (t + 4503599627370496) * 2 ^ 52 * 2 ^ y) (sym h)

pub split_high : (b : ℕ) (e : ℤ) → (b / 4503599627370496 ≡ 0 → ⊥) → Moved (b / 4503599627370496) e → Split b (b % 4503599627370496 + 4503599627370496) e
split_high b e n M =
    record {
      least = omega arith;
      most = omega arith;
      near = M.near;
      value = size_suc (b / 4503599627370496) (b % 4503599627370496) e n M.up;
    }
