-- The square root, IEEE 754's: nearest, ties to even; negative gives NaN, -0 gives -0.
-- Let u be the format's smallest value, and x = v · u² with a whole number v: then √x = √v · u. The leading digits of the whole root of v are kept, a comparison
-- of squares tells on which side of the middle √v lies, and one rounding ends it.
use Prim.Native.Nat.{ℕ, zero, suc, ◌+◌, ◌-◌, ◌*◌, ◌/◌, ◌^◌, compare, Ordering}
use Rattle.std.specs.Prelude.{Bool, true, false, cond, leb, eqb, ℤ, Float}
use Rattle.std.specs.Float.{nan, inf, fin, Format}
use Rattle.std.specs.Float.Ieee.{prec, low, up, down, size, nearest, units}

-- ---- the whole root

-- of an n below 4 ^ d, a binary digit at a time: the root of n is twice that of n / 4, or one more
unfoldable pub sqrt_in : ℕ → ℕ → ℕ
sqrt_in zero n = 0
sqrt_in (suc d) n =
    let r = sqrt_in d (n / 4) in
    let c = r + r + 1 in
    cond (leb (c * c) n) c (r + r)

unfoldable pub isqrt : ℕ → ℕ
unfolding size sqrt_in
isqrt n = sqrt_in (size n) n

-- ---- where a number lies, and its rounding

-- between `kept` and kept + 1 units of 2 ^ dropped: on which side of the middle, and whether it is `kept` units exactly
pub record Located : Type 0 where
  pub kept : ℕ
  pub dropped : ℕ
  pub side : Ordering
  pub exact : Bool

-- the last step of every operation, `lib.Ieee`'s own: to the nearer one, at the middle to the even one
unfoldable pub rounded : Format → Bool → Located → Float
unfolding units
rounded f s l = units f s (nearest l.kept l.side) l.dropped

-- √v, whose whole part has `size` digits: the format keeps `prec` of them and drops k. The middle is q and a half, and √v compares with it as
-- 4 * v with the square of (2 * q + 1) * 2 ^ k.
unfoldable pub locate_root : Format → ℕ → Located
unfolding isqrt size
locate_root f v =
    let w = isqrt v in
    let k = size w - prec f in
    let q = w / 2 ^ k in
    let h = (q + q + 1) * 2 ^ k in
    record { kept = q; dropped = k; side = compare (4 * v) (h * h); exact = eqb (q * 2 ^ k * (q * 2 ^ k)) v }

-- ---- the root

-- x = m * 2 ^ e in units of the square of the format's smallest value: a whole number for an x that fits
abbrev pub radicand : Format → ℕ → ℤ → ℕ
radicand f m e = m * up e * 2 ^ (low f + low f) / down e

unfoldable pub root : Format → Float → Float
unfolding locate_root rounded
root f nan = nan
root f (inf false) = inf false
root f (inf true) = nan
root f (fin s zero e) = fin s zero e
root f (fin true (suc m) e) = nan
root f (fin false (suc m) e) = rounded f false (locate_root f (radicand f (suc m) e))

-- whether the root is exact, its square x itself, for a later request. NaN and negative numbers have none.
unfoldable pub root_exact : Format → Float → Bool
unfolding locate_root
root_exact f nan = false
root_exact f (inf false) = true
root_exact f (inf true) = false
root_exact f (fin s zero e) = true
root_exact f (fin true (suc m) e) = false
root_exact f (fin false (suc m) e) = (locate_root f (radicand f (suc m) e)).exact
