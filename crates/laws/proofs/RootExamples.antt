-- Roots and their exactness at the edges, run by antt: one table of what is computed beside what is expected. Columns: x, its root, 1 where the root is exact.
use mathlib.Core.Path.{◌≡◌, refl}
use mathlib.Core.Bool.{cond}
use mathlib.Core.List.{List, [], ◌∷◌, map}
use Prim.Native.Nat.{ℕ}
use lib.Ieee.{binary64, of_bits, to_bits}
use Rattle.definitions.specs.Root.{root, root_exact}

pub record Case : Type 0 where
  pub x : ℕ
  pub root : ℕ
  pub exact : ℕ

abbrev case : ℕ → ℕ → ℕ → Case
case x r e = record { x = x; root = r; exact = e }

pub cases : List Case
cases =
    -- zeros, infinities, -1, a NaN
    case 0x0000000000000000 0x0000000000000000 1
    ∷ case 0x8000000000000000 0x8000000000000000 1
    ∷ case 0x7FF0000000000000 0x7FF0000000000000 1
    ∷ case 0xFFF0000000000000 0x7FF8000000000000 0
    ∷ case 0xBFF0000000000000 0x7FF8000000000000 0
    ∷ case 0x7FF8000000000000 0x7FF8000000000000 0
    -- 2, 9, the neighbours of 1
    ∷ case 0x4000000000000000 0x3FF6A09E667F3BCD 0
    ∷ case 0x4022000000000000 0x4008000000000000 1
    ∷ case 0x3FEFFFFFFFFFFFFF 0x3FEFFFFFFFFFFFFF 0
    ∷ case 0x3FF0000000000001 0x3FF0000000000000 0
    -- subnormals: the least, three times it, the largest; the least normal value; the largest value
    ∷ case 0x0000000000000001 0x1E60000000000000 1
    ∷ case 0x0000000000000003 0x1E6BB67AE8584CAA 0
    ∷ case 0x000FFFFFFFFFFFFF 0x1FFFFFFFFFFFFFFF 0
    ∷ case 0x0010000000000000 0x2000000000000000 1
    ∷ case 0x7FEFFFFFFFFFFFFF 0x5FEFFFFFFFFFFFFF 0
    ∷ []

pub cases_hold : map (λ c. case c.x (to_bits binary64 (root binary64 (of_bits binary64 c.x))) (cond (root_exact binary64 (of_bits binary64 c.x)) 1 0)) cases ≡ cases
unfolding cases to_bits of_bits root root_exact
cases_hold = refl
