-- The exponent as an i32: its differences and its half, by cases on the sign.
use mathlib.Core.Path.{◌≡◌, refl}
use Prim.Native.Nat.{ℕ, suc, ◌+◌, ◌-◌, ◌^◌, ◌≤◌, ◌<◌}
use native.Mathlib.Nat.{lt_of_lt_of_le, lt_irrefl}
use native.Mathlib.Omega.{arith}
use mathlib.Core.Bool.{Bool, true, false, not, cond}
use lib.IntN.{ℤ, pos, negsuc, sub_ℕ}
use lib.Signed.{mag}
use lib.Dec.{T, ltb, ltb→lt, nltb→le, lit≤}
use mir.Syntax.{w32}
use mir.Val.{to_z, of_z}
use mir.Facts.{to_z-of_z}
use Rattle.root.specs.Fields.{raised, half, odd_bit}

-- written to bits and read again
abbrev pub again : ℤ → ℤ
again z = to_z w32 (of_z w32 z)

pub again_is : (z : ℤ) → mag z < 4096 → again z ≡ z
again_is z h = to_z-of_z {w = w32} (record { sfits = lt_of_lt_of_le h (lit≤ {m = 4096} {n = 2 ^ 31} tt) })

-- ---- the difference of two naturals

pub sub_ge : (a b : ℕ) → b ≤ a → sub_ℕ a b ≡ pos (a - b)
sub_ge a b h = go (ltb a b) (ltb→lt a b)
  where
    go : (t : Bool) → (T t → a < b) → cond t (negsuc (b - suc a)) (pos (a - b)) ≡ pos (a - b)
    go true k = absurd (lt_irrefl a (lt_of_lt_of_le (k tt) h))
    go false k = refl

pub sub_lt : (a b : ℕ) → a < b → sub_ℕ a b ≡ negsuc (b - suc a)
sub_lt a b h = go (ltb a b) (nltb→le a b)
  where
    go : (t : Bool) → (T (not t) → b ≤ a) → cond t (negsuc (b - suc a)) (pos (a - b)) ≡ negsuc (b - suc a)
    go true k = refl
    go false k = absurd (lt_irrefl a (lt_of_lt_of_le h (k tt)))

-- ---- e is twice its half and the odd bit, in what is put into the pattern

pub twice_half : (e : ℤ) → mag e < 1100 → raised 2044 e ≡ odd_bit e + (raised 1022 (half e) + raised 1022 (half e))
twice_half (pos n) h = omega arith
twice_half (negsuc n) h = omega arith

pub half_small : (e : ℤ) → mag e < 1100 → mag (half e) < 600
half_small (pos n) h = omega arith
half_small (negsuc n) h = omega arith

pub raised_small : (h : ℤ) → mag h < 600 → raised 1022 h < 2000
raised_small (pos n) l = omega arith
raised_small (negsuc n) l = omega arith

pub odd_small : (e : ℤ) → odd_bit e < 2
odd_small (pos n) = omega arith
odd_small (negsuc n) = omega arith
