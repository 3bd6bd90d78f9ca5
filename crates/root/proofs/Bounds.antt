-- How large the numbers on the way to the whole root are.
use Prim.Native.Nat.{ℕ, ◌+◌, ◌*◌, ◌/◌, ◌%◌, ◌^◌, ◌≤◌, ◌<◌}
use native.Mathlib.Nat.{le_refl, lt_of_lt_of_le, mul-le-mul, div-lt_iff_lt-mul}
use native.Mathlib.Omega.{arith}
use lib.Dec.{lit<}

-- a quotient by d or more is at most what d itself would give
quotient : (a d q s : ℕ) → a < q * d → 0 < d → d ≤ s → a / s < q
quotient a d q s h D g = (div-lt_iff_lt-mul (lt_of_lt_of_le D g)).1 (lt_of_lt_of_le h (mul-le-mul (le_refl q) g))

-- ---- Newton's steps: the first in 32 bits, in place, and the second

abbrev pub first : ℕ → ℕ → ℕ
first a t = t * 128 % 4294967296 + a / 8388608 / t

abbrev pub placed : ℕ → ℕ → ℕ
placed a t = first a t * 128 % 18446744073709551616

abbrev pub near : ℕ → ℕ → ℕ
near a t = (placed a t + a / placed a t) / 2

pub quotient_lt : (a t : ℕ) → a < 2 ^ 54 → 2 ^ 11 ≤ t → a / 8388608 / t < 2 ^ 20
quotient_lt a t A l = quotient (a / 8388608) (2 ^ 11) (2 ^ 20) t (omega arith) (lit< tt) l
