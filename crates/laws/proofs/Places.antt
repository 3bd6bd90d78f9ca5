-- Places in a matrix stored row after row, c to a row: (i, j) stands at i * c + j, and no two stand at one place.
use Prim.Native.Nat.{ℕ, ◌+◌, ◌*◌, ◌<◌}
use mathlib.Core.Path.{◌≡◌, ap}
use native.Mathlib.Omega.{arith}
use native.Mathlib.Nat.{mul-le-mul_right}

pub same_row : (x i y j c : ℕ) → y < c → j < c → x * c + y ≡ i * c + j → x ≡ i
same_row x i y j c hy hj e =
    let a : x < i → ⊥ = λ q. omega (arith, mul-le-mul_right c q) in
    let b : i < x → ⊥ = λ q. omega (arith, mul-le-mul_right c q) in
    omega arith

pub same_col : (x i y j c : ℕ) → y < c → j < c → x * c + y ≡ i * c + j → y ≡ j
same_col x i y j c hy hj e = let q = ap (λ t. t * c) (same_row x i y j c hy hj e) in omega arith

-- i < n rows of c elements: the place of (i, j)
pub place : (i j n c : ℕ) → i < n → j < c → i * c + j < n * c
place i j n c h k = omega (arith, mul-le-mul_right c h)

pub next_row : (j c : ℕ) → (j + 1) * c ≡ j * c + c
next_row j c = omega arith
