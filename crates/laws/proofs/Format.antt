-- A format's values: powers of two compared by their exponents, exponents in units of the smallest value, and what it says that a nonzero value fits.
use mathlib.Core.Path.{◌≡◌, sym, ap, ◌∙◌}
use Prim.Native.Nat.{ℕ, suc, ◌+◌, ◌-◌, ◌*◌, ◌%◌, ◌^◌, ◌≤◌, ◌<◌}
use native.Mathlib.Nat.{le_refl, lt_of_le_of_lt, not-le_of_lt, lt_of_not-le, le_of_suc-le-suc, mul-one, one-mul}
use native.Mathlib.Omega.{arith}
use mathlib.Core.Bool.{Bool, ◌&&◌}
use lib.IntN.{ℤ, pos, negsuc}
use lib.Dec.{T, leb, ltb, eqb, leb→le, ltb→lt}
use lib.Pow.{pow-add, pow_mono, pow-lt}
use lib.Ieee.{Format, prec, emax, low, up, down, fits, fin}
use lib.Ieee.Fits.{and_l, and_r}

pub pow_less : (a b : ℕ) → 2 ^ a < 2 ^ b → a < b
pow_less a b h = lt_of_not-le (λ (g : b ≤ a). not-le_of_lt h (pow_mono g))

pub pow_back : (a b : ℕ) → 2 ^ a ≤ 2 ^ b → a ≤ b
pow_back a b h = le_of_suc-le-suc (pow_less a (suc b) (lt_of_le_of_lt h (pow-lt (le_refl (suc b)))))

-- 2 ^ d in units of 2 ^ -l
pub lift : (l : ℕ) (d : ℤ) → down d ≤ 2 ^ l → (j : ℕ) × (up d * 2 ^ l ≡ 2 ^ j * down d)
lift l (pos a) h = (a + l, sym (pow-add 2 a l) ∙ sym (mul-one (2 ^ (a + l))))
lift l (negsuc k) h = (l - suc k, one-mul (2 ^ l) ∙ ap (λ (x : ℕ). 2 ^ x) (back l (suc k) (pow_back (suc k) l h)) ∙ pow-add 2 (l - suc k) (suc k))
  where
    back : (x y : ℕ) → y ≤ x → x ≡ x - y + y
    back x y g = omega arith

pub fits_says : (f : Format) (s : Bool) (m : ℕ) (e : ℤ) → T (fits f (fin s (suc m) e)) → (suc m < 2 ^ prec f) × (down e ≤ 2 ^ low f) × (suc m * up e < 2 ^ suc (emax f) * down e)
unfolding fits
fits_says f s m e t =
    let a : Bool = eqb (suc m % 2) 1 in
    let b : Bool = ltb (suc m) (2 ^ prec f) in
    let c : Bool = leb (down e) (2 ^ low f) in
    let d : Bool = ltb (suc m * up e) (2 ^ suc (emax f) * down e) in (
      ltb→lt (suc m) (2 ^ prec f) (and_r a b (and_l (a && b) c (and_l (a && b && c) d t))),
      leb→le (down e) (2 ^ low f) (and_r (a && b) c (and_l (a && b && c) d t)),
      ltb→lt (suc m * up e) (2 ^ suc (emax f) * down e) (and_r (a && b && c) d t),
    )
