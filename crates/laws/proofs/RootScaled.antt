-- The root's definition in scaled digits. With v = n * 4 ^ k, and n of twice the format's digits, √v lies where √n lies, in units of 2 ^ k. Every value
-- that fits has such an n and k. Assumes nothing.
use mathlib.Core.Path.{◌≡◌, refl, sym, ap, ap₂, ◌∙◌, subst}
use Prim.Native.Nat.{ℕ, suc, ◌+◌, ◌-◌, ◌*◌, ◌/◌, ◌^◌, ◌≤◌, ◌<◌, compare, Ordering}
use native.Mathlib.Nat.{le_refl, le_trans, le_of_eq, lt_of_lt_of_le, lt_of_le_of_lt, not-le_of_lt, lt_of_not-le, le_of_suc-le-suc, zero-lt-suc, one-mul, mul_assoc, mul_right_comm, mul-mul-mul_comm, mul-pos, mul-le-mul, mul-le-mul_right, mul-lt-mul_of_pos_right, le_of_mul-le-mul_right, lt_of_mul-lt-mul_right, eq_of_mul-eq-mul_right, div-lt_iff_lt-mul, div-mul-le_self, mul-div_cancel}
use native.Mathlib.Omega.{arith}
use mathlib.Core.Bool.{Bool, false}
use lib.IntN.{ℤ, pos, negsuc}
use lib.Dec.{T, eqb, lit≤}
use lib.Pow.{pow-add, pow_pos, pow_mono}
use lib.Ieee.{Format, binary32, binary64, prec, emax, low, up, down, size, fits, fin}
use lib.Ieee.Digits.{size-lt, size-le, size_reaches}
use lib.Ieee.Fits.{down_pos, two, two-le_pos}
use Rattle.definitions.specs.Root.{isqrt, Located, locate_root, radicand}
use Rattle.laws.proofs.Format.{pow_less, pow_back, lift, fits_says}
use Rattle.laws.specs.WholeRoot.{IsRoot}
use Rattle.laws.proofs.RootSquares.{sq_lt, root_unique, isqrt_root, cmp_scaled, eqb_iff}

-- ---- digits

pub digits : (p k z : ℕ) → 0 < p → z ≤ p + k → p - 1 + k < z → z - p ≡ k
digits p k z P a b = omega arith

pub size_gt : (n j : ℕ) → 2 ^ j ≤ n → j < size n
size_gt n j h = lt_of_not-le (λ (g : size n ≤ j). not-le_of_lt (lt_of_lt_of_le (size-lt n) (pow_mono g)) h)

-- how many digits the root of n * 4 ^ k drops
dropped : (p n k w : ℕ) → 0 < p → 2 ^ (p - 1) * 2 ^ (p - 1) ≤ n → n < 2 ^ p * 2 ^ p → IsRoot (n * (2 ^ k * 2 ^ k)) w → size w - p ≡ k
dropped p n k w P lo hi r =
    let u = 2 ^ k in
    let A = 2 ^ (p - 1) in
    let a : A * u < suc w = sq_lt (A * u) (suc w) (lt_of_le_of_lt (le_trans (le_of_eq (mul-mul-mul_comm A u A u)) (mul-le-mul_right (u * u) lo)) r.1) in
    let b : w < 2 ^ p * u = sq_lt w (2 ^ p * u) (lt_of_le_of_lt r.0 (lt_of_lt_of_le (mul-lt-mul_of_pos_right hi (mul-pos (pow_pos k) (pow_pos k))) (le_of_eq (sym (mul-mul-mul_comm (2 ^ p) u (2 ^ p) u))))) in
    digits p k (size w) P (size-le w (p + k) (subst (λ (x : ℕ). w < x) (sym (pow-add 2 p k)) b))
    (size_gt w (p - 1 + k) (subst (λ (x : ℕ). x ≤ w) (sym (pow-add 2 (p - 1) k)) (le_of_suc-le-suc a)))

-- the whole root of n * u², cut to multiples of u, is that of n
cut_root : (n u w : ℕ) → 0 < u → IsRoot (n * (u * u)) w → IsRoot n (w / u)
cut_root n u w U r =
    let q = w / u in
    let a : q * u ≤ w = div-mul-le_self w u in
    let b : w < suc q * u = (div-lt_iff_lt-mul U).0 (le_refl (suc q)) in (
      le_of_mul-le-mul_right (le_trans (le_of_eq (sym (mul-mul-mul_comm q u q u))) (le_trans (mul-le-mul a a) r.0)) (mul-pos U U),
      lt_of_mul-lt-mul_right (u * u) (lt_of_lt_of_le r.1 (le_trans (mul-le-mul b b) (le_of_eq (mul-mul-mul_comm (suc q) u (suc q) u)))),
    )

-- ---- where √n lies, in units of 2 ^ k

abbrev pub located : ℕ → ℕ → Located
located n k =
    let c = isqrt n in
    record { kept = c; dropped = k; side = compare (4 * n) ((c + c + 1) * (c + c + 1)); exact = eqb (c * c) n }

-- `locate_root`, from its q and its k on
abbrev from : ℕ → ℕ → ℕ → Located
from v q k = record { kept = q; dropped = k; side = compare (4 * v) ((q + q + 1) * 2 ^ k * ((q + q + 1) * 2 ^ k)); exact = eqb (q * 2 ^ k * (q * 2 ^ k)) v }

root_at_from : (f : Format) (v : ℕ) → locate_root f v ≡ from v (isqrt v / 2 ^ (size (isqrt v) - prec f)) (size (isqrt v) - prec f)
unfolding locate_root
root_at_from f v = refl

from_scaled : (n q k : ℕ) → from (n * (2 ^ k * 2 ^ k)) q k ≡ record { kept = q; dropped = k; side = compare (4 * n) ((q + q + 1) * (q + q + 1)); exact = eqb (q * q) n }
from_scaled n q k =
    let u = 2 ^ k in
    let h = q + q + 1 in
    let U : 0 < u * u = mul-pos (pow_pos k) (pow_pos k) in
    let s : compare (4 * (n * (u * u))) (h * u * (h * u)) ≡ compare (4 * n) (h * h) = ap₂ compare (sym (mul_assoc 4 n (u * u))) (mul-mul-mul_comm h u h u) ∙ cmp_scaled (4 * n) (h * h) (u * u) U in
    let x : eqb (q * u * (q * u)) (n * (u * u)) ≡ eqb (q * q) n =
    ap (λ (y : ℕ). eqb y (n * (u * u))) (mul-mul-mul_comm q u q u) ∙ eqb_iff (q * q * (u * u)) (n * (u * u)) (q * q) n (eq_of_mul-eq-mul_right (u * u) U (q * q) n) (ap (λ (y : ℕ). y * (u * u))) in
    ap₂ (λ (o : Ordering) (b : Bool). record { kept = q; dropped = k; side = o; exact = b }) s x

-- THE law of the definition: scale by an even power of two, and look where √n lies
pub root_at_scaled : (f : Format) (v n k : ℕ) → v ≡ n * (2 ^ k * 2 ^ k) → 2 ^ (prec f - 1) * 2 ^ (prec f - 1) ≤ n → n < 2 ^ prec f * 2 ^ prec f → locate_root f v ≡ located n k
root_at_scaled f v n k e lo hi =
    let w = isqrt v in
    let u = 2 ^ k in
    let r : IsRoot (n * (u * u)) w = subst (λ (x : ℕ). IsRoot x w) e (isqrt_root v) in
    root_at_from f v
    ∙ ap (λ (x : ℕ). from v (w / 2 ^ x) x) (dropped (prec f) n k w (two-le_pos (prec f) (two f)) lo hi r)
    ∙ ap (λ (x : ℕ). from v x k) (root_unique n (w / u) (isqrt n) (cut_root n u w (pow_pos k) r) (isqrt_root n))
    ∙ ap (λ (x : ℕ). from x (isqrt n) k) e
    ∙ from_scaled n (isqrt n) k

-- ---- the n and the k of a value that fits

pub record Scaled (f : Format) (m : ℕ) (e : ℤ) : Type 0 where
  pub n : ℕ
  pub k : ℕ
  -- x in units of the square of the smallest value is whole
  pub whole : radicand f m e * down e ≡ m * up e * 2 ^ (low f + low f)
  pub scaled : radicand f m e ≡ n * (2 ^ k * 2 ^ k)
  pub least : 2 ^ (prec f - 1) * 2 ^ (prec f - 1) ≤ n
  pub most : n < 2 ^ prec f * 2 ^ prec f
  -- far below the largest value
  pub room : prec f + k < low f + suc (emax f)

wide : (f : Format) → prec f + prec f ≤ low f
wide binary32 = lit≤ tt
wide binary64 = lit≤ tt

pow_up : (l j : ℕ) (e : ℤ) → down e ≤ 2 ^ l → up e * 2 ^ (l + l) ≡ 2 ^ j * down e → l ≤ j
pow_up l j e h g =
    pow_back l j (le_of_mul-le-mul_right
    (le_trans (mul-le-mul (le_refl (2 ^ l)) h) (le_trans (le_of_eq (sym (pow-add 2 l l) ∙ sym (one-mul (2 ^ (l + l))))) (le_trans (mul-le-mul_right (2 ^ (l + l)) (up_one e)) (le_of_eq g)))) (down_pos e))
  where
    up_one : (e : ℤ) → 1 ≤ up e
    up_one (pos a) = pow_pos a
    up_one (negsuc a) = le_refl 1

abbrev halve : ℕ → ℕ → ℕ → ℕ
halve p z j = (z + j + 1 - (p + p)) / 2

module _ (p z j : ℕ) (P : 2 ≤ p) (Z : 0 < z) (ZP : z ≤ p) (J : p + p ≤ j) where
  even_part : j - (halve p z j + halve p z j) + (halve p z j + halve p z j) ≡ j
  even_part = omega arith

  enough : p - 1 + (p - 1) ≤ z - 1 + (j - (halve p z j + halve p z j))
  enough = omega arith

  limit : z + (j - (halve p z j + halve p z j)) ≤ p + p
  limit = omega arith

size_pos : (m : ℕ) → 0 < size (suc m)
size_pos m = size_gt (suc m) 0 (zero-lt-suc m)

pred_lt : (z : ℕ) → 0 < z → z - 1 < z
pred_lt z h = omega arith

fine : (f : Format) (k : ℕ) → prec f - 1 + (prec f - 1) + (k + k) < suc (emax f) + (low f + low f) → prec f + k < low f + suc (emax f)
fine binary32 k h = omega arith
fine binary64 k h = omega arith

pub scale : (f : Format) (m : ℕ) (e : ℤ) → T (fits f (fin false (suc m) e)) → Scaled f (suc m) e
scale f m e t =
    let s = fits_says f false m e t in
    let l = low f in
    let p = prec f in
    let v = radicand f (suc m) e in
    let g = lift (l + l) e (le_trans s.1 (pow_mono (twice l))) in
    let j = g.0 in
    let X : suc m * up e * 2 ^ (l + l) ≡ suc m * 2 ^ j * down e = mul_assoc (suc m) (up e) (2 ^ (l + l)) ∙ ap (λ (x : ℕ). suc m * x) g.1 ∙ sym (mul_assoc (suc m) (2 ^ j) (down e)) in
    let W : v ≡ suc m * 2 ^ j = ap (λ (x : ℕ). x / down e) X ∙ mul-div_cancel (suc m * 2 ^ j) (down_pos e) in
    let z = size (suc m) in
    let J : p + p ≤ j = le_trans (wide f) (pow_up l j e s.1 g.1) in
    let ZP : z ≤ p = size-le (suc m) p s.0 in
    let k = halve p z j in
    let d = j - (k + k) in
    let n = suc m * 2 ^ d in
    let S : v ≡ n * (2 ^ k * 2 ^ k) =
    W ∙ ap (λ (x : ℕ). suc m * 2 ^ x) (sym (even_part p z j (two f) (size_pos m) ZP J)) ∙ ap (λ (x : ℕ). suc m * x) (pow-add 2 d (k + k) ∙ ap (λ (x : ℕ). 2 ^ d * x) (pow-add 2 k k)) ∙ sym (mul_assoc (suc m) (2 ^ d) (2 ^ k * 2 ^ k)) in
    let lo : 2 ^ (p - 1) * 2 ^ (p - 1) ≤ n =
    le_trans (le_of_eq (sym (pow-add 2 (p - 1) (p - 1))))
    (le_trans (pow_mono (enough p z j (two f) (size_pos m) ZP J))
    (le_trans (le_of_eq (pow-add 2 (z - 1) d)) (mul-le-mul_right (2 ^ d) (size_reaches (suc m) (z - 1) (pred_lt z (size_pos m)))))) in
    let hi : n < 2 ^ p * 2 ^ p =
    lt_of_lt_of_le (mul-lt-mul_of_pos_right (size-lt (suc m)) (pow_pos d))
    (le_trans (le_of_eq (sym (pow-add 2 z d))) (le_trans (pow_mono (limit p z j (two f) (size_pos m) ZP J)) (le_of_eq (pow-add 2 p p)))) in
    let Y : v * down e ≡ suc m * up e * 2 ^ (l + l) = ap (λ (x : ℕ). x * down e) W ∙ sym X in
    let B : v < 2 ^ (suc (emax f) + (l + l)) =
    lt_of_mul-lt-mul_right (down e) (subst (λ (x : ℕ). x < 2 ^ (suc (emax f) + (l + l)) * down e) (sym Y)
    (lt_of_lt_of_le (mul-lt-mul_of_pos_right s.2 (pow_pos (l + l))) (le_of_eq (mul_right_comm (2 ^ suc (emax f)) (down e) (2 ^ (l + l)) ∙ ap (λ (x : ℕ). x * down e) (sym (pow-add 2 (suc (emax f)) (l + l))))))) in
    let K : p - 1 + (p - 1) + (k + k) < suc (emax f) + (l + l) =
    pow_less (p - 1 + (p - 1) + (k + k)) (suc (emax f) + (l + l))
    (lt_of_le_of_lt (le_trans (le_of_eq (pow-add 2 (p - 1 + (p - 1)) (k + k) ∙ ap₂ (λ (x y : ℕ). x * y) (pow-add 2 (p - 1) (p - 1)) (pow-add 2 k k))) (le_trans (mul-le-mul_right (2 ^ k * 2 ^ k) lo) (le_of_eq (sym S)))) B) in
    record { n = n; k = k; whole = Y; scaled = S; least = lo; most = hi; room = fine f k K }
  where
    twice : (x : ℕ) → x ≤ x + x
    twice x = omega arith
