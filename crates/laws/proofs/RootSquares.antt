-- Whole roots: what `isqrt` finds, what is left over, and the whole number nearest to a root. Assumes nothing.
use mathlib.Core.Path.{◌≡◌, refl, sym, ap, ◌∙◌, subst}
use Prim.Native.Nat.{ℕ, zero, suc, ◌+◌, ◌-◌, ◌*◌, ◌/◌, ◌^◌, ◌≤◌, ◌<◌, compare, Ordering}
use native.Mathlib.Nat.{le_refl, le_trans, le_of_eq, le_antisymm, lt_of_lt_of_le, lt_of_le_of_lt, not-le_of_lt, lt_of_not-le, le_of_suc-le-suc, zero-lt-suc, mul-one, one-mul, mul-add, add-mul, mul-mul-mul_comm, mul-le-mul, lt_of_mul-lt-mul_right, eq_of_mul-eq-mul_right, div-lt_iff_lt-mul, pow-suc}
use native.Mathlib.Omega.{arith}
use mathlib.Core.Bool.{Bool, true, false, not, cond}
use lib.Dec.{T, is_le, compare_is_eq, leb, ltb, eqb, eqb_refl, leb→le, nleb→lt, eqb→eq, ltb→lt, nltb→le}
use lib.Arith.{lt_of_le-ne}
use lib.Pow.{pow_pos}
use lib.Ieee.{size, nearest}
use lib.Ieee.Digits.{size-lt}
use Rattle.definitions.specs.Root.{sqrt_in, isqrt}
use Rattle.laws.specs.WholeRoot.{IsRoot, Rest, closer}

-- ---- squares

pub sq_lt : (a b : ℕ) → a * a < b * b → a < b
sq_lt a b h = lt_of_not-le (λ (g : b ≤ a). not-le_of_lt h (mul-le-mul g g))

pub dbl : (r : ℕ) → (r + r) * (r + r) ≡ 4 * (r * r)
dbl r = simp (add-mul, mul-add) (omega arith)

pub dbl_one : (r : ℕ) → (r + r + 1) * (r + r + 1) ≡ 4 * (r * r) + 4 * r + 1
dbl_one r = simp (add-mul, mul-add, mul-one, one-mul) (omega arith)

pub next : (r : ℕ) → suc r * suc r ≡ r * r + r + r + 1
next r = subst (λ (x : ℕ). x * x ≡ r * r + r + r + 1) (one_more r) (simp (add-mul, mul-add, mul-one, one-mul) (omega arith))
  where
    one_more : (x : ℕ) → x + 1 ≡ suc x
    one_more x = omega arith

pub sq_up : (a b : ℕ) → a < b → a * a < b * b
sq_up a b h = lt_of_lt_of_le (omega (arith, next a)) (mul-le-mul h h)

-- ---- the whole root

pub root_unique : (n r s : ℕ) → IsRoot n r → IsRoot n s → r ≡ s
root_unique n r s p q =
    le_antisymm (le_of_suc-le-suc (sq_lt r (suc s) (lt_of_le_of_lt p.0 q.1))) (le_of_suc-le-suc (sq_lt s (suc r) (lt_of_le_of_lt q.0 p.1)))

sqrt_in_root : (d n : ℕ) → n < 2 ^ d * 2 ^ d → IsRoot n (sqrt_in d n)
unfolding sqrt_in
sqrt_in_root zero n h = (least n, h)
  where
    least : (x : ℕ) → 0 ≤ x
    least x = omega arith
sqrt_in_root (suc d) n h =
    let r = sqrt_in d (n / 4) in
    let c = r + r + 1 in
    go r (sqrt_in_root d (n / 4) ((div-lt_iff_lt-mul (zero-lt-suc 3)).1 (subst (λ (x : ℕ). n < x) (quad d) h))) (leb (c * c) n) (leb→le (c * c) n) (nleb→lt (c * c) n)
  where
    quad : (d : ℕ) → 2 ^ suc d * 2 ^ suc d ≡ 2 ^ d * 2 ^ d * 4
    quad d = ap (λ (x : ℕ). x * x) (pow-suc 2 d) ∙ mul-mul-mul_comm (2 ^ d) 2 (2 ^ d) 2

    go : (r : ℕ) → IsRoot (n / 4) r → (b : Bool) → (T b → (r + r + 1) * (r + r + 1) ≤ n) → (T (not b) → n < (r + r + 1) * (r + r + 1)) → IsRoot n (cond b (r + r + 1) (r + r))
    go r ih true p q = (p tt, omega (arith, ih.0, ih.1, next r, next (r + r + 1), dbl_one r))
    go r ih false p q = (omega (arith, ih.0, dbl r), omega (arith, q tt, next (r + r), dbl r, dbl_one r))

pub isqrt_root : (n : ℕ) → IsRoot n (isqrt n)
unfolding isqrt
isqrt_root n = sqrt_in_root (size n) n (lt_of_lt_of_le (size-lt n) (le_trans (le_of_eq (sym (mul-one (2 ^ size n)))) (mul-le-mul (le_refl (2 ^ size n)) (pow_pos (size n)))))

-- ---- what `compare` says

abbrev pub Cmp : Ordering → ℕ → ℕ → Type 0
Cmp Ordering.lt a b = a < b
Cmp Ordering.eq a b = a ≡ b
Cmp Ordering.gt a b = b < a

pub cmp : (a b : ℕ) → Cmp (compare a b) a b
cmp a b = go (compare a b) (leb→le a b) (nleb→lt a b) (eqb→eq a b) (λ (e : a ≡ b). subst (λ (x : ℕ). T (eqb a x)) e (eqb_refl a))
  where
    go : (o : Ordering) → (T (is_le o) → a ≤ b) → (T (not (is_le o)) → b < a) → (T (compare_is_eq o) → a ≡ b) → (a ≡ b → T (compare_is_eq o)) → Cmp o a b
    go Ordering.lt h k e n = lt_of_le-ne (h tt) n
    go Ordering.eq h k e n = e tt
    go Ordering.gt h k e n = k tt

pub cmp_unique : (o p : Ordering) (a b : ℕ) → Cmp o a b → Cmp p a b → o ≡ p
cmp_unique Ordering.lt Ordering.lt a b h g = refl
cmp_unique Ordering.lt Ordering.eq a b h g = let x : ⊥ = omega arith in absurd x
cmp_unique Ordering.lt Ordering.gt a b h g = let x : ⊥ = omega arith in absurd x
cmp_unique Ordering.eq Ordering.lt a b h g = let x : ⊥ = omega arith in absurd x
cmp_unique Ordering.eq Ordering.eq a b h g = refl
cmp_unique Ordering.eq Ordering.gt a b h g = let x : ⊥ = omega arith in absurd x
cmp_unique Ordering.gt Ordering.lt a b h g = let x : ⊥ = omega arith in absurd x
cmp_unique Ordering.gt Ordering.eq a b h g = let x : ⊥ = omega arith in absurd x
cmp_unique Ordering.gt Ordering.gt a b h g = refl

-- a common factor does not count
pub cmp_scaled : (a b u : ℕ) → 0 < u → compare (a * u) (b * u) ≡ compare a b
cmp_scaled a b u U = cmp_unique (compare (a * u) (b * u)) (compare a b) a b (less (compare (a * u) (b * u)) (cmp (a * u) (b * u))) (cmp a b)
  where
    less : (o : Ordering) → Cmp o (a * u) (b * u) → Cmp o a b
    less Ordering.lt h = lt_of_mul-lt-mul_right u h
    less Ordering.eq h = eq_of_mul-eq-mul_right u U a b h
    less Ordering.gt h = lt_of_mul-lt-mul_right u h

-- a test, by what it says
pub eqb_iff : (a b c d : ℕ) → (a ≡ b → c ≡ d) → (c ≡ d → a ≡ b) → eqb a b ≡ eqb c d
eqb_iff a b c d f g = go (eqb a b) (eqb c d) (eqb→eq a b) (eqb→eq c d) (λ (e : a ≡ b). subst (λ (x : ℕ). T (eqb a x)) e (eqb_refl a)) (λ (e : c ≡ d). subst (λ (x : ℕ). T (eqb c x)) e (eqb_refl c))
  where
    go : (s t : Bool) → (T s → a ≡ b) → (T t → c ≡ d) → (a ≡ b → T s) → (c ≡ d → T t) → s ≡ t
    go true true p q p' q' = refl
    go true false p q p' q' = absurd (q' (f (p tt)))
    go false true p q p' q' = absurd (p' (g (q tt)))
    go false false p q p' q' = refl

-- ---- the whole number nearest to √n: |2 q - √(4 n)| < 1. No tie: the square of 2 q + 1 is odd.

pub record Near (n q : ℕ) : Type 0 where
  pub above : (q + q - 1) * (q + q - 1) < 4 * n
  pub under : 4 * n < (q + q + 1) * (q + q + 1)

pub no_middle : (n w : ℕ) → (4 * n ≡ (w + w + 1) * (w + w + 1)) → ⊥
no_middle n w e = even_odd (w * w) w n (e ∙ dbl_one w)
  where
    even_odd : (s x m : ℕ) → 4 * m ≡ 4 * s + 4 * x + 1 → ⊥
    even_odd s x m h = omega arith

-- the whole root, moved by the side of the middle on which the root lies
pub near_of : (n w : ℕ) (o : Ordering) → 0 < n → IsRoot n w → Cmp o (4 * n) ((w + w + 1) * (w + w + 1)) → Near n (nearest w o)
near_of n zero Ordering.lt N r c = absurd (no n N r.1)
  where
    no : (x : ℕ) → 0 < x → x < 1 → ⊥
    no x a b = omega arith
near_of n (suc w) Ordering.lt N r c =
    record { above = lt_of_lt_of_le (sq_up (suc w + suc w - 1) (suc w + suc w) (less w)) (omega (arith, r.0, dbl (suc w))); under = c }
  where
    less : (x : ℕ) → suc x + suc x - 1 < suc x + suc x
    less x = omega arith
near_of n w Ordering.eq N r c = absurd (no_middle n w c)
near_of n w Ordering.gt N r c =
    record {
      above = subst (λ (x : ℕ). x * x < 4 * n) (sym (back w)) c;
      under = omega (arith, r.1, dbl (suc w), dbl_one (suc w));
    }
  where
    back : (x : ℕ) → suc x + suc x - 1 ≡ x + x + 1
    back x = omega arith

-- ---- a root with what is left over

pub rest_root : (n c r : ℕ) → Rest n c r → IsRoot n c
rest_root n c r h = (omega (arith, h.sum), omega (arith, h.sum, h.most, next c))

pub rest_is : (n c r : ℕ) → Rest n c r → c ≡ isqrt n
rest_is n c r h = root_unique n c (isqrt n) (rest_root n c r h) (isqrt_root n)

pub rest_nearest : (n c r : ℕ) → Rest n c r → nearest c (compare (4 * n) ((c + c + 1) * (c + c + 1))) ≡ closer c r
rest_nearest n c r h = go (compare (4 * n) ((c + c + 1) * (c + c + 1))) (cmp (4 * n) ((c + c + 1) * (c + c + 1))) (ltb c r) (ltb→lt c r) (nltb→le c r)
  where
    go : (o : Ordering) → Cmp o (4 * n) ((c + c + 1) * (c + c + 1)) → (b : Bool) → (T b → c < r) → (T (not b) → r ≤ c) → nearest c o ≡ cond b (suc c) c
    go Ordering.lt a true p q = let x = p tt in omega (arith, h.sum, dbl_one c)
    go Ordering.lt a false p q = refl
    go Ordering.eq a b p q = absurd (no_middle n c a)
    go Ordering.gt a true p q = refl
    go Ordering.gt a false p q = let x = q tt in omega (arith, h.sum, dbl_one c)

pub rest_exact : (n c r : ℕ) → Rest n c r → eqb (c * c) n ≡ eqb r 0
rest_exact n c r h = eqb_iff (c * c) n r 0 (λ (e : c * c ≡ n). omega (arith, h.sum)) (λ (e : r ≡ 0). omega (arith, h.sum))

pub rest_near : (n c r : ℕ) → 0 < n → Rest n c r → Near n (closer c r)
rest_near n c r N h = subst (λ (x : ℕ). Near n x) (rest_nearest n c r h) (near_of n c (compare (4 * n) ((c + c + 1) * (c + c + 1))) N (rest_root n c r h) (cmp (4 * n) ((c + c + 1) * (c + c + 1))))
