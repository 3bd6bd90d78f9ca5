-- What the steps of a root promise: a whole root, what is left over, and the size of a bit pattern.
use Rattle.std.specs.Prelude.{◌≡◌, cond, ℕ, zero, suc, ◌+◌, ◌*◌, ◌^◌, ◌≤◌, ◌<◌, ltb}

-- r is the whole root of n
abbrev pub IsRoot : ℕ → ℕ → Type 0
IsRoot n r = (r * r ≤ n) × (n < suc r * suc r)

-- c is the whole root of n, and r is left over
pub record Rest (n c r : ℕ) : Type 0 where
  pub sum : n ≡ c * c + r
  pub most : r ≤ c + c

-- the whole number nearest to the root: up where more than half is left over
abbrev pub closer : ℕ → ℕ → ℕ
closer c r = cond (ltb c r) (suc c) c

-- the value of a binary64 with exponent field x and fraction t, in units of the smallest
abbrev pub size_of : ℕ → ℕ → ℕ
size_of zero t = t
size_of (suc x) t = (4503599627370496 + t) * 2 ^ x
