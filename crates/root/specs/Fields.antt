-- The steps on the bit pattern: b as m * 2 ^ (e - 52) with an m of 53 digits, and half of e on both sides of zero.
use Rattle.std.specs.Prelude.{◌≡◌, ℕ, suc, ◌+◌, ◌-◌, ◌*◌, ◌/◌, ◌%◌, ◌^◌, ◌≤◌, ◌<◌, ℤ, pos, negsuc}
use Rattle.std.specs.Int.Signed.{mag, shr_z}
use Rattle.laws.specs.WholeRoot.{size_of}

-- e + b, for an e that is not below -b
abbrev pub raised : ℕ → ℤ → ℕ
raised b (pos n) = n + b
raised b (negsuc n) = b - suc n

-- half of e, rounded down: -1 gives -1, as -2 does
abbrev pub half : ℤ → ℤ
half e = shr_z e 2

-- what that leaves: e is twice its half, and this
abbrev pub odd_bit : ℤ → ℕ
odd_bit (pos n) = n % 2
odd_bit (negsuc n) = suc n % 2

-- b's value is m * 2 ^ (e - 52): in units of the square of 2 ^ -1074 it is m * 2 ^ 52 * 2 ^ (e + 2044)
pub record Split (b m : ℕ) (e : ℤ) : Type 0 where
  pub least : 2 ^ 52 ≤ m
  pub most : m < 2 ^ 53
  pub near : mag e < 1100
  pub value : size_of (b / 4503599627370496) (b % 4503599627370496) * 2 ^ 1074 ≡ m * 2 ^ 52 * 2 ^ raised 2044 e
