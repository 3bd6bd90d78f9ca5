-- A quotient by a product with the divisor's reciprocal, 2^32 / d rounded up.
use mathlib.Core.Path.{◌≡◌, ap, ◌∙◌}
use Prim.Native.Nat.{ℕ, ◌+◌, ◌-◌, ◌*◌, ◌^◌, ◌/◌, ◌%◌, ◌≤◌, ◌<◌}
use native.Mathlib.Nat.{mul_assoc, mul-add, add-mul, one-mul, mul_right_comm, mul-le-mul_left, le_of_mul-le-mul_right, lt_of_mul-lt-mul_right, mod-lt, div-add-mod', div-mul-le_self, div-le_self, le-div_iff_mul-le, div-lt_iff_lt-mul}
use native.Mathlib.Omega.{arith}
use Rattle.adjacency.specs.Collect.{reciprocal_of}

-- ---- sums of products, each product a number of its own

over : (t d b s : ℕ) → t + b ≡ 4294967295 → b < d → s ≡ t + d → s ≡ 4294967296 + (d - 1 - b)
over t d b s e h q = omega arith

under : (y x z u v : ℕ) → u ≡ y * 4294967296 → v ≡ x * 4294967296 + z → y ≤ x → u ≤ v
under y x z u v p q h = omega arith

above : (y x z u v : ℕ) → u ≡ x * 4294967296 + z → v ≡ y * 4294967296 → z < 4294967296 → x < y → u < v
above y x z u v p q h k = omega arith

next : (x q s d t : ℕ) → q + s ≡ x → s < d → t ≡ q + d → x < t
next x q s d t e h p = omega arith

between : (u v : ℕ) → v ≤ u → u < v + 1 → u ≡ v
between u v h k = omega arith

wide : (z q x : ℕ) → z < (q + 1) * 4294967296 → q ≤ x → x < 4294967296 → z < 18446744073709551616
wide z q x h k l = omega arith

pub low_enough : (c size rows : ℕ) → c < rows → size ≤ 8 → rows ≤ 1048576 → c * size < 2 ^ 32
low_enough c size rows h k l = omega (arith, mul-le-mul_left {m = size} {n = 8} c k)

module _ (d x : ℕ) (h : 0 < d) (l : x * d < 4294967296) where
  -- what the rounding adds
  abbrev r : ℕ
  r = d - 1 - 4294967295 % d

  more : (a : ℕ) → (a + 1) * d ≡ a * d + d
  more a = add-mul a 1 d ∙ ap (λ n. a * d + n) (one-mul d)

  m_over : reciprocal_of d * d ≡ 4294967296 + r
  unfolding reciprocal_of
  m_over = over (4294967295 / d * d) d (4294967295 % d) ((4294967295 / d + 1) * d) (div-add-mod' 4294967295 d) (mod-lt 4294967295 h) (more (4294967295 / d))

  product : x * reciprocal_of d * d ≡ x * 4294967296 + x * r
  product = mul_assoc x (reciprocal_of d) d ∙ ap (λ n. x * n) m_over ∙ mul-add x 4294967296 r

  rest : x * r < 4294967296
  rest = omega (arith, mul-le-mul_left {m = r} {n = d} x (omega arith), l)

  lower : x / d * 4294967296 ≤ x * reciprocal_of d
  lower = le_of_mul-le-mul_right {k = d} (under (x / d * d) x (x * r) (x / d * 4294967296 * d) (x * reciprocal_of d * d) (mul_right_comm (x / d) 4294967296 d) product (div-mul-le_self x d)) h

  upper : x * reciprocal_of d < (x / d + 1) * 4294967296
  upper =
      let n : x < (x / d + 1) * d = next x (x / d * d) (x % d) d ((x / d + 1) * d) (div-add-mod' x d) (mod-lt x h) (more (x / d)) in
      lt_of_mul-lt-mul_right d (above ((x / d + 1) * d) x (x * r) (x * reciprocal_of d * d) ((x / d + 1) * 4294967296 * d) product (mul_right_comm (x / d + 1) 4294967296 d) rest n)

  pub by_reciprocal : x * reciprocal_of d / 4294967296 ≡ x / d
  by_reciprocal = between (x * reciprocal_of d / 4294967296) (x / d)
      ((le-div_iff_mul-le {k = 4294967296} {x = x / d} {y = x * reciprocal_of d} (omega arith)).1 lower)
      ((div-lt_iff_lt-mul {k = 4294967296} {x = x * reciprocal_of d} {y = x / d + 1} (omega arith)).1 upper)

  pub dividend_fits : x < 4294967296
  dividend_fits = omega (arith, mul-le-mul_left {m = 1} {n = d} x h, l)

  pub reciprocal_fits : x * reciprocal_of d < 18446744073709551616
  reciprocal_fits = wide (x * reciprocal_of d) (x / d) x upper (div-le_self x d) dividend_fits
