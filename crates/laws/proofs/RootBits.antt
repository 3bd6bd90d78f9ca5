-- The root by bit patterns: what an implementation on the 64-bit pattern has to find. Assumes nothing.
use mathlib.Core.Path.{◌≡◌, refl, sym, ap, ◌∙◌, subst}
use Prim.Native.Nat.{ℕ, zero, suc, ◌+◌, ◌-◌, ◌*◌, ◌/◌, ◌%◌, ◌^◌, ◌≤◌, ◌<◌, compare}
use native.Mathlib.Nat.{le_trans, le_of_eq, lt_irrefl, zero-add, mul-one, zero-mul, mul-pos, mul_assoc, mul_right_comm, mul-le-mul_right, mul-div_cancel, mod-eq_of_lt}
use native.Mathlib.Omega.{arith}
use mathlib.Core.Bool.{Bool, true, false, not, cond, true≢false}
use lib.IntN.{ℤ}
use lib.Dec.{T, leb, eqb, eqb→eq, leb→le, nleb→lt}
use lib.Pow.{pow-add, pow_pos, shl_lt}
use lib.Ieee.{Float, nan, inf, fin, Format, binary64, prec, emax, low, up, down, size, nearest, odd, units, hid, of_fields, of_bits, to_bits}
use lib.Ieee.Digits.{size-le}
use lib.Ieee.Fits.{down_pos, two, two-le_pos}
use lib.Ieee.Bits.{of_bits-to_bits}
use lib.Ieee.Exact.{HasValue, odd_sign, units_val}
use Rattle.definitions.specs.Root.{radicand, root, root_exact}
use Rattle.laws.proofs.RootSquares.{rest_is, rest_near, rest_nearest, rest_exact}
use Rattle.laws.specs.WholeRoot.{Rest, closer, size_of}
use Rattle.laws.proofs.RootScaled.{digits, size_gt}
use Rattle.laws.proofs.RootLaws.{units_fits, near_most, near_least, some_digits, root_scaled, exact_scaled}

-- ---- a value of prec digits, by its significand q and its exponent k: the pattern is k * hid + q
bits_form : Format → ℕ → ℕ
bits_form f n = 0 + (size n - prec f) * hid f + n / 2 ^ (size n - prec f)

pub value_bits : (f : Format) (v : Float) (q k : ℕ) → HasValue v false (q * 2 ^ k) (2 ^ low f) → 2 ^ (prec f - 1) ≤ q → q < 2 ^ prec f → to_bits f v ≡ k * hid f + q
unfolding to_bits bits_form
value_bits f nan q k h a b = absurd h
value_bits f (inf s) q k h a b = absurd h
value_bits f (fin true m e) q k h a b = absurd (true≢false h.0)
value_bits f (fin false m e) q k h a b =
    let n : m * up e * 2 ^ low f / down e ≡ q * 2 ^ k = ap (λ (x : ℕ). x / down e) h.1 ∙ mul-div_cancel (q * 2 ^ k) (down_pos e) in
    let p = prec f in
    let z : size (q * 2 ^ k) - p ≡ k =
    digits p k (size (q * 2 ^ k)) (two-le_pos p (two f)) (size-le (q * 2 ^ k) (p + k) (shl_lt p k b))
    (size_gt (q * 2 ^ k) (p - 1 + k) (le_trans (le_of_eq (pow-add 2 (p - 1) k)) (mul-le-mul_right (2 ^ k) a))) in
    ap (bits_form f) n
    ∙ ap (λ (x : ℕ). 0 + x * hid f + q * 2 ^ k / 2 ^ x) z
    ∙ ap (λ (x : ℕ). 0 + k * hid f + x) (mul-div_cancel q (pow_pos k))
    ∙ ap (λ (x : ℕ). x + q) (zero-add (k * hid f))

radicand_of : (f : Format) (m : ℕ) (e : ℤ) (w : ℕ) → m * up e * 2 ^ low f ≡ w * down e → radicand f m e ≡ w * 2 ^ low f
radicand_of f m e w h =
    ap (λ (x : ℕ). x / down e) (ap (λ (x : ℕ). m * up e * x) (pow-add 2 (low f) (low f)) ∙ sym (mul_assoc (m * up e) (2 ^ low f) (2 ^ low f)) ∙ ap (λ (x : ℕ). x * 2 ^ low f) h ∙ mul_right_comm w (down e) (2 ^ low f))
    ∙ mul-div_cancel (w * 2 ^ low f) (down_pos e)

no_zero : (e : ℤ) (w c : ℕ) → 0 * up e * c ≡ w * down e → 0 < w → ⊥
no_zero e w c h W = lt_irrefl 0 (subst (λ (x : ℕ). 0 < x) (sym h ∙ ap (λ (x : ℕ). x * c) (zero-mul (up e)) ∙ zero-mul c) (mul-pos W (down_pos e)))

-- x is w of the smallest values, scaled to n by an even power of two; c is the whole root of n, and r what is left over
pub record Found (f : Format) (x : Float) (w n k c r : ℕ) : Type 0 where
  pub value : HasValue x false w (2 ^ low f)
  pub some : 0 < w
  pub scaled : w * 2 ^ low f ≡ n * (2 ^ k * 2 ^ k)
  pub least : 2 ^ (prec f - 1) * 2 ^ (prec f - 1) ≤ n
  pub most : n < 2 ^ prec f * 2 ^ prec f
  pub rest : Rest n c r

-- then the root's pattern is k * hid + q, for the q that r rounds c to
pub root_of_value : (f : Format) (x : Float) (w n k c r : ℕ) → Found f x w n k c r → closer c r < 2 ^ prec f → closer c r * 2 ^ k < 2 ^ (low f + suc (emax f)) → root f x ≡ of_bits f (k * hid f + closer c r)
root_of_value f nan w n k c r F Q O = absurd F.value
root_of_value f (inf s) w n k c r F Q O = absurd F.value
root_of_value f (fin true m d) w n k c r F Q O = absurd (true≢false F.value.0)
root_of_value f (fin false zero d) w n k c r F Q O = absurd (no_zero d w (2 ^ low f) F.value.1 F.some)
root_of_value f (fin false (suc m) d) w n k c r F Q O =
    let q = closer c r in
    let v = units f false q k in
    let N = rest_near n c r (some_digits (prec f) n F.least) F.rest in
    root_scaled f m d n k (radicand_of f (suc m) d w F.value.1 ∙ F.scaled) F.least F.most
    ∙ ap (λ (y : ℕ). units f false y k) (ap (λ (y : ℕ). nearest y (compare (4 * n) ((y + y + 1) * (y + y + 1)))) (sym (rest_is n c r F.rest)) ∙ rest_nearest n c r F.rest)
    ∙ sym (of_bits-to_bits f v (units_fits f false q k (near_most (prec f) n q F.most N)))
    ∙ ap (of_bits f) (value_bits f v q k (units_val f false q k O) (near_least (prec f) n q F.least N) Q)

-- and the root is exact where nothing is left over
pub exact_of_value : (f : Format) (x : Float) (w n k c r : ℕ) → Found f x w n k c r → root_exact f x ≡ eqb r 0
exact_of_value f nan w n k c r F = absurd F.value
exact_of_value f (inf s) w n k c r F = absurd F.value
exact_of_value f (fin true m d) w n k c r F = absurd (true≢false F.value.0)
exact_of_value f (fin false zero d) w n k c r F = absurd (no_zero d w (2 ^ low f) F.value.1 F.some)
exact_of_value f (fin false (suc m) d) w n k c r F =
    exact_scaled f m d n k (radicand_of f (suc m) d w F.value.1 ∙ F.scaled) F.least F.most
    ∙ ap (λ (y : ℕ). eqb (y * y) n) (sym (rest_is n c r F.rest))
    ∙ rest_exact n c r F.rest

-- ---- the pattern of a finite value with the sign clear
pub fields_value : (s : Bool) (x t : ℕ) → x < 2047 → HasValue (of_fields binary64 s x t) s (size_of x t) (2 ^ 1074)
unfolding of_fields
fields_value s zero t h = subst (λ (y : ℕ). HasValue (odd 53 s t 0 1074) s y (2 ^ 1074)) (mul-one t) (odd_sign 53 s t 0 1074)
fields_value s (suc x) t h = go (eqb (suc x) 2047) (eqb→eq (suc x) 2047)
  where
    go : (b : Bool) → (T b → suc x ≡ 2047) → HasValue (cond b (cond (eqb t 0) (inf s) nan) (odd 53 s (4503599627370496 + t) x 1074)) s ((4503599627370496 + t) * 2 ^ x) (2 ^ 1074)
    go true k = absurd (no x (k tt) h)
      where
        no : (y : ℕ) → suc y ≡ 2047 → suc y < 2047 → ⊥
        no y a b = omega arith
    go false k = odd_sign 53 s (4503599627370496 + t) x 1074

pub bits_value : (b : ℕ) → b < 9218868437227405312 → HasValue (of_bits binary64 b) false (size_of (b / 4503599627370496) (b % 4503599627370496)) (2 ^ 1074)
unfolding of_bits
bits_value b h = go (leb 9223372036854775808 b) (leb→le 9223372036854775808 b)
  where
    small : b / 4503599627370496 < 2047
    small = omega arith

    go : (s : Bool) → (T s → 9223372036854775808 ≤ b) → HasValue (of_fields binary64 s (b % 9223372036854775808 / 4503599627370496) (b % 4503599627370496)) false (size_of (b / 4503599627370496) (b % 4503599627370496)) (2 ^ 1074)
    go true k = absurd (no (k tt))
      where
        no : 9223372036854775808 ≤ b → ⊥
        no a = omega arith
    go false k =
        subst (λ (y : ℕ). HasValue (of_fields binary64 false (y / 4503599627370496) (b % 4503599627370496)) false (size_of (b / 4503599627370496) (b % 4503599627370496)) (2 ^ 1074))
        (sym (mod-eq_of_lt below)) (fields_value false (b / 4503599627370496) (b % 4503599627370496) small)
      where
        below : b < 9223372036854775808
        below = omega arith

-- ---- a negative value, and whatever is no number
pub negative_root : (f : Format) (x : Float) (w c : ℕ) → HasValue x true w c → 0 < w → root f x ≡ nan
unfolding root
negative_root f nan w c h W = refl
negative_root f (inf s) w c h W = absurd h
negative_root f (fin false m e) w c h W = absurd (true≢false (sym h.0))
negative_root f (fin true zero e) w c h W = absurd (no_zero e w c h.1 W)
negative_root f (fin true (suc m) e) w c h W = refl

top_fields : (t : ℕ) → root binary64 (of_fields binary64 true 2047 t) ≡ nan
unfolding of_fields root
top_fields t = go (eqb t 0)
  where
    go : (b : Bool) → root binary64 (cond b (inf true) nan) ≡ nan
    go true = refl
    go false = refl

pub negative_bits : (b : ℕ) → 9223372036854775808 < b → b < 18446744073709551616 → root binary64 (of_bits binary64 b) ≡ nan
unfolding of_bits
negative_bits b lo hi = go (leb 9223372036854775808 b) (nleb→lt 9223372036854775808 b) (b % 9223372036854775808 / 4503599627370496) refl
  where
    some : (x y : ℕ) → 9223372036854775808 < x → x < 18446744073709551616 → x % 9223372036854775808 / 4503599627370496 ≡ y → 0 < size_of y (x % 4503599627370496)
    some x zero l h e = omega arith
    some x (suc y) l h e = mul-pos (omega arith) (pow_pos y)

    go : (s : Bool) → (T (not s) → b < 9223372036854775808) → (x : ℕ) → b % 9223372036854775808 / 4503599627370496 ≡ x → root binary64 (of_fields binary64 s (b % 9223372036854775808 / 4503599627370496) (b % 4503599627370496)) ≡ nan
    go false k x e = absurd (no (k tt))
      where
        no : b < 9223372036854775808 → ⊥
        no a = omega arith
    go true k x e = subst (λ (y : ℕ). root binary64 (of_fields binary64 true y (b % 4503599627370496)) ≡ nan) (sym e) (at (leb 2047 x) (leb→le 2047 x) (nleb→lt 2047 x))
      where
        at : (d : Bool) → (T d → 2047 ≤ x) → (T (not d) → x < 2047) → root binary64 (of_fields binary64 true x (b % 4503599627370496)) ≡ nan
        at true p q = subst (λ (y : ℕ). root binary64 (of_fields binary64 true y (b % 4503599627370496)) ≡ nan) (only x (p tt) e) (top_fields (b % 4503599627370496))
          where
            only : (y : ℕ) → 2047 ≤ y → b % 9223372036854775808 / 4503599627370496 ≡ y → 2047 ≡ y
            only y a g = omega arith
        at false p q = negative_root binary64 (of_fields binary64 true x (b % 4503599627370496)) (size_of x (b % 4503599627370496)) (2 ^ 1074) (fields_value true x (b % 4503599627370496) (q tt)) (some b x lo hi e)
