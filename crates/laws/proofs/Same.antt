-- Two values of a format that are the same number, +0 and -0 alike, and finite: rounding sees only the exact result, and no exact result but zero depends on a zero's sign.
use mathlib.Core.Path.{◌≡◌, refl, sym, ap, ◌∙◌, subst}
use mathlib.Core.Logic.{◌⊎◌, inl, inr}
use Prim.Native.Nat.{ℕ, zero, suc, ◌+◌, ◌-◌, ◌*◌, ◌%◌, ◌^◌, ◌≤◌, ◌<◌}
use native.Mathlib.Nat.{not-suc-le-zero, lt_irrefl, zero-lt-suc, zero-mul, mul-zero, zero-add, add-zero, sub-zero, mul-one, mul_comm, mul_assoc, mul_left_comm, mul_right_comm, mul-pos, eq_of_mul-eq-mul_right, pow-suc, pow-succ', mul-lt-mul_of_pos_right, lt_of_mul-lt-mul_right}
use native.Mathlib.Omega.{arith}
use mathlib.Core.Bool.{Bool, true, false, not, ◌&&◌, ◌||◌, beq, cond}
use lib.IntN.{ℤ, pos, negsuc}
use lib.Dec.{T, ltb, leb, eqb, eqb→eq, eqb_refl, eqb-suc-zero, T_not, ltb→lt, lt→ltb}
use lib.Pow.{pow-add, pow_pos}
use lib.Ieee.{Float, nan, inf, fin, Format, prec, emax, low, up, down, unlike, round, neg, sum, add, sub, mul, div, eq, fits}
use lib.Ieee.Fits.{and_i, and_l, and_r, up_pos, down_pos, round-fits, neg-fits}
use lib.Ieee.Exact.{HasValue, round_exact}
use lib.Ieee.Scale.{finite, round_same}
use Rattle.laws.proofs.Format.{lift, fits_says}

-- ---- the notions
abbrev pub is_zero : Float → Bool
is_zero nan = false
is_zero (inf s) = false
is_zero (fin s zero e) = true
is_zero (fin s (suc m) e) = false

abbrev pub Zero : Float → Type 0
Zero x = T (is_zero x)

abbrev pub Finite : Float → Type 0
Finite x = T (finite x)

-- the one value itself, or two zeros
abbrev pub Same : Float → Float → Type 0
Same x y = (Finite x × (x ≡ y)) ⊎ (Zero x × Zero y)

pub zero_finite : (x : Float) → Zero x → Finite x
zero_finite nan z = z
zero_finite (inf s) z = z
zero_finite (fin s m e) z = tt

-- ---- an equivalence on the finite values
pub same_refl : (x : Float) → Finite x → Same x x
same_refl x h = inl (h, refl)

pub same_sym : (x y : Float) → Same x y → Same y x
same_sym x y (inl h) = inl (subst (λ (z : Float). Finite z) h.1 h.0, sym h.1)
same_sym x y (inr h) = inr (h.1, h.0)

pub same_trans : (x y z : Float) → Same x y → Same y z → Same x z
same_trans x y z (inl h) (inl k) = inl (h.0, h.1 ∙ k.1)
same_trans x y z (inl h) (inr k) = inr (subst (λ (w : Float). Zero w) (sym h.1) k.0, k.1)
same_trans x y z (inr h) (inl k) = inr (h.0, subst (λ (w : Float). Zero w) k.1 h.1)
same_trans x y z (inr h) (inr k) = inr (h.0, k.1)

pub same_finite : (x y : Float) → Same x y → Finite x
same_finite x y (inl h) = h.0
same_finite x y (inr h) = zero_finite x h.0

pub same_finite_r : (x y : Float) → Same x y → Finite y
same_finite_r x y h = same_finite y x (same_sym x y h)

-- ---- a value that fits is written in one way
even_odd : (m t : ℕ) → m % 2 ≡ 1 → m ≡ 2 * t → ⊥
even_odd m t o h = omega arith

odd_pow : (m n a b : ℕ) → m % 2 ≡ 1 → n % 2 ≡ 1 → m * 2 ^ a ≡ n * 2 ^ b → (m ≡ n) × (a ≡ b)
odd_pow m n zero zero o p h = (sym (mul-one m) ∙ h ∙ mul-one n, refl)
odd_pow m n zero (suc b) o p h = absurd (even_odd m (n * 2 ^ b) o (sym (mul-one m) ∙ h ∙ ap (λ (x : ℕ). n * x) (pow-succ' 2 b) ∙ mul_left_comm n 2 (2 ^ b)))
odd_pow m n (suc a) zero o p h = absurd (even_odd n (m * 2 ^ a) p (sym (mul-one n) ∙ sym h ∙ ap (λ (x : ℕ). m * x) (pow-succ' 2 a) ∙ mul_left_comm m 2 (2 ^ a)))
odd_pow m n (suc a) (suc b) o p h =
    let r = odd_pow m n a b o p (eq_of_mul-eq-mul_right 2 (zero-lt-suc 1) (m * 2 ^ a) (n * 2 ^ b)
    (mul_assoc m (2 ^ a) 2 ∙ ap (λ (x : ℕ). m * x) (sym (pow-suc 2 a)) ∙ h ∙ ap (λ (x : ℕ). n * x) (pow-suc 2 b) ∙ sym (mul_assoc n (2 ^ b) 2))) in
    (r.0, ap suc r.1)

is_odd : (f : Format) (s : Bool) (m : ℕ) (e : ℤ) → T (fits f (fin s (suc m) e)) → suc m % 2 ≡ 1
unfolding fits
is_odd f s m e t =
    eqb→eq (suc m % 2) 1 (and_l (eqb (suc m % 2) 1) (ltb (suc m) (2 ^ prec f)) (and_l (eqb (suc m % 2) 1 && ltb (suc m) (2 ^ prec f)) (leb (down e) (2 ^ low f))
    (and_l (eqb (suc m % 2) 1 && ltb (suc m) (2 ^ prec f) && leb (down e) (2 ^ low f)) (ltb (suc m * up e) (2 ^ suc (emax f) * down e)) t)))

-- m * 2 ^ e = n * 2 ^ d, both odd
odd_unique : (m n : ℕ) (e d : ℤ) → m % 2 ≡ 1 → n % 2 ≡ 1 → m * up e * down d ≡ n * up d * down e → (m ≡ n) × (e ≡ d)
odd_unique m n (pos a) (pos b) o p h =
    let r = odd_pow m n a b o p (sym (mul-one (m * 2 ^ a)) ∙ h ∙ mul-one (n * 2 ^ b)) in (r.0, ap pos r.1)
odd_unique m n (pos a) (negsuc b) o p h =
    let r = odd_pow m n (a + suc b) 0 o p (ap (λ (x : ℕ). m * x) (pow-add 2 a (suc b)) ∙ sym (mul_assoc m (2 ^ a) (2 ^ suc b)) ∙ h ∙ mul-one (n * 1)) in
    absurd (no a b r.1)
  where
    no : (x y : ℕ) → x + suc y ≡ 0 → ⊥
    no x y g = omega arith
odd_unique m n (negsuc a) (pos b) o p h =
    let r = odd_pow m n 0 (b + suc a) o p (sym (mul-one (m * 1)) ∙ h ∙ mul_assoc n (2 ^ b) (2 ^ suc a) ∙ ap (λ (x : ℕ). n * x) (sym (pow-add 2 b (suc a)))) in
    absurd (no b a r.1)
  where
    no : (x y : ℕ) → 0 ≡ x + suc y → ⊥
    no x y g = omega arith
odd_unique m n (negsuc a) (negsuc b) o p h =
    let r = odd_pow m n (suc b) (suc a) o p (ap (λ (x : ℕ). x * 2 ^ suc b) (sym (mul-one m)) ∙ h ∙ ap (λ (x : ℕ). x * 2 ^ suc a) (mul-one n)) in
    (r.0, ap negsuc (inj b a r.1))
  where
    inj : (x y : ℕ) → suc x ≡ suc y → y ≡ x
    inj x y g = omega arith

-- cross products of two values' sizes
pub unique : (f : Format) (s : Bool) (m n : ℕ) (e d : ℤ) → T (fits f (fin s (suc m) e)) → T (fits f (fin s (suc n) d))
    → suc m * up e * down d ≡ suc n * up d * down e → fin s (suc m) e ≡ fin s (suc n) d
unique f s m n e d p q h =
    let r = odd_unique (suc m) (suc n) e d (is_odd f s m e p) (is_odd f s n d q) h in
    λ i. fin s (r.0 i) (r.1 i)

-- ---- `round` where nothing is to be rounded
no_pos : (m c : ℕ) (e d : ℤ) → 0 < c → suc m * up e * c ≡ 0 * down e → ⊥
no_pos m c e d C h = lt_irrefl 0 (subst (λ (x : ℕ). 0 < x) (h ∙ zero-mul (down e)) (mul-pos (mul-pos (zero-lt-suc m) (up_pos e)) C))

zero_of_value : (x : Float) (s : Bool) (c : ℕ) → 0 < c → HasValue x s 0 c → Zero x
zero_of_value nan s c C v = v
zero_of_value (inf t) s c C v = v
zero_of_value (fin t zero e) s c C v = tt
zero_of_value (fin t (suc m) e) s c C v = no_pos m c e e C v.1

pub round_zero : (f : Format) (s : Bool) (c : ℕ) → 0 < c → Zero (round f s 0 c)
round_zero f s c C =
    zero_of_value (round f s 0 c) s c C
    (round_exact f s 0 c 0 0 C (pow_pos (prec f)) (pow_pos (low f + suc (emax f))) (zero-mul (2 ^ low f) ∙ sym (zero-mul c)))

round_zero_at : (f : Format) (s : Bool) (a c : ℕ) → a ≡ 0 → 0 < c → Zero (round f s a c)
round_zero_at f s a c h C = subst (λ (x : ℕ). Zero (round f s x c)) (sym h) (round_zero f s c C)

own_value : (f : Format) (t : Bool) (n : ℕ) (d : ℤ) → n < 2 ^ prec f → down d ≤ 2 ^ low f → n * up d < 2 ^ suc (emax f) * down d
    → HasValue (round f t (n * up d) (down d)) t (n * up d) (down d)
own_value f t n d small dn big =
    let l = low f in
    let j = (lift l d dn).0 in
    let E : n * up d * 2 ^ l ≡ n * 2 ^ j * down d = mul_assoc n (up d) (2 ^ l) ∙ ap (λ (x : ℕ). n * x) (lift l d dn).1 ∙ sym (mul_assoc n (2 ^ j) (down d)) in
    let B : n * 2 ^ j * down d < 2 ^ (l + suc (emax f)) * down d =
    subst (λ (x : ℕ). x < 2 ^ (l + suc (emax f)) * down d) E
    (subst (λ (x : ℕ). n * up d * 2 ^ l < x)
    (mul_right_comm (2 ^ suc (emax f)) (down d) (2 ^ l) ∙ ap (λ (x : ℕ). x * down d) (mul_comm (2 ^ suc (emax f)) (2 ^ l) ∙ sym (pow-add 2 l (suc (emax f)))))
    (mul-lt-mul_of_pos_right big (pow_pos l))) in
    round_exact f t (n * up d) (down d) n j (down_pos d) small (lt_of_mul-lt-mul_right (down d) B) E

unique_of_value : (f : Format) (x : Float) (t : Bool) (n : ℕ) (d : ℤ) → T (fits f x) → T (fits f (fin t (suc n) d)) → HasValue x t (suc n * up d) (down d) → x ≡ fin t (suc n) d
unique_of_value f nan t n d p q v = absurd v
unique_of_value f (inf s) t n d p q v = absurd v
unique_of_value f (fin s zero e) t n d p q v = absurd (lt_irrefl 0 (subst (λ (x : ℕ). 0 < x) (sym v.1 ∙ ap (λ (x : ℕ). x * down d) (zero-mul (up e)) ∙ zero-mul (down d)) (mul-pos (mul-pos (zero-lt-suc n) (up_pos d)) (down_pos e))))
unique_of_value f (fin s (suc m) e) t n d p q v =
    let r = odd_unique (suc m) (suc n) e d (is_odd f s m e p) (is_odd f t n d q) v.1 in
    λ i. fin (v.0 i) (r.0 i) (r.1 i)

-- a fraction that is the size of a value that fits rounds to that value
pub round_fit : (f : Format) (t : Bool) (n : ℕ) (d : ℤ) (a c : ℕ) → T (fits f (fin t (suc n) d)) → 0 < c → a * down d ≡ suc n * up d * c → round f t a c ≡ fin t (suc n) d
round_fit f t n d a c p C h =
    let s = fits_says f t n d p in
    round_same f t a c (suc n * up d) (down d) C (down_pos d) h
    ∙ unique_of_value f (round f t (suc n * up d) (down d)) t n d (round-fits f t (suc n * up d) (down d)) p (own_value f t (suc n) d s.0 s.1 s.2)

-- ---- a sum with a zero
sum_zero_l : (f : Format) (s t : Bool) (b c : ℕ) → 0 < b → sum f s 0 t b c ≡ round f t b c
unfolding sum
sum_zero_l f true true b c h = ap (λ (x : ℕ). round f true x c) (zero-add b)
sum_zero_l f false false b c h = ap (λ (x : ℕ). round f false x c) (zero-add b)
sum_zero_l f true false b c h = go (ltb 0 b) (lt→ltb 0 b h)
  where
    go : (p : Bool) → T p → cond p (round f false (b - 0) c) (round f (true && ltb b 0) (0 - b) c) ≡ round f false b c
    go true u = ap (λ (x : ℕ). round f false x c) (sub-zero b)
    go false u = absurd u
sum_zero_l f false true b c h = go (ltb 0 b) (lt→ltb 0 b h)
  where
    go : (p : Bool) → T p → cond p (round f true (b - 0) c) (round f (false && ltb b 0) (0 - b) c) ≡ round f true b c
    go true u = ap (λ (x : ℕ). round f true x c) (sub-zero b)
    go false u = absurd u

sum_zero_r : (f : Format) (s t : Bool) (a c : ℕ) → 0 < a → sum f s a t 0 c ≡ round f s a c
unfolding sum
sum_zero_r f true true a c h = ap (λ (x : ℕ). round f true x c) (add-zero a)
sum_zero_r f false false a c h = ap (λ (x : ℕ). round f false x c) (add-zero a)
sum_zero_r f true false a c h = go (ltb a 0) (ltb→lt a 0) (ltb 0 a) (lt→ltb 0 a h)
  where
    go : (p : Bool) → (T p → a < 0) → (q : Bool) → T q → cond p (round f false (0 - a) c) (round f (true && q) (a - 0) c) ≡ round f true a c
    go true u q v = absurd (not-suc-le-zero (u tt))
    go false u true v = ap (λ (x : ℕ). round f true x c) (sub-zero a)
    go false u false v = absurd v
sum_zero_r f false true a c h = go (ltb a 0) (ltb→lt a 0) (ltb 0 a) (lt→ltb 0 a h)
  where
    go : (p : Bool) → (T p → a < 0) → (q : Bool) → T q → cond p (round f true (0 - a) c) (round f (false && q) (a - 0) c) ≡ round f false a c
    go true u q v = absurd (not-suc-le-zero (u tt))
    go false u true v = ap (λ (x : ℕ). round f false x c) (sub-zero a)
    go false u false v = absurd v

sum_zeros : (f : Format) (s t : Bool) (c : ℕ) → 0 < c → Zero (sum f s 0 t 0 c)
unfolding sum
sum_zeros f true true c C = round_zero f true c C
sum_zeros f false false c C = round_zero f false c C
sum_zeros f true false c C = round_zero f false c C
sum_zeros f false true c C = round_zero f false c C

pub nil : (u v : ℕ) → 0 * u * v ≡ 0
nil u v = ap (λ (x : ℕ). x * v) (zero-mul u) ∙ zero-mul v

pub add_zeros : (f : Format) (x y : Float) → Zero x → Zero y → Zero (add f x y)
unfolding add
add_zeros f (fin s zero e) (fin t zero d) p q =
    subst (λ (a : ℕ). Zero (sum f s a t (0 * up d * down e) (down e * down d))) (sym (nil (up e) (down d)))
    (subst (λ (b : ℕ). Zero (sum f s 0 t b (down e * down d))) (sym (nil (up d) (down e)))
    (sum_zeros f s t (down e * down d) (mul-pos (down_pos e) (down_pos d))))
add_zeros f nan y p q = elim p [ ]
add_zeros f (inf _) y p q = elim p [ ]
add_zeros f (fin s zero e) nan p q = elim q [ ]
add_zeros f (fin s zero e) (inf _) p q = elim q [ ]
add_zeros f (fin s zero e) (fin t (suc _) d) p q = elim q [ ]
add_zeros f (fin s (suc _) e) y p q = elim p [ ]

add_zero_big_l : (f : Format) (s : Bool) (e : ℤ) (t : Bool) (n : ℕ) (d : ℤ) → T (fits f (fin t (suc n) d)) → add f (fin s zero e) (fin t (suc n) d) ≡ fin t (suc n) d
unfolding add
add_zero_big_l f s e t n d p =
    let b = suc n * up d * down e in
    let c = down e * down d in
    ap (λ (a : ℕ). sum f s a t b c) (nil (up e) (down d))
    ∙ sum_zero_l f s t b c (mul-pos (mul-pos (zero-lt-suc n) (up_pos d)) (down_pos e))
    ∙ round_fit f t n d b c p (mul-pos (down_pos e) (down_pos d)) (mul_assoc (suc n * up d) (down e) (down d))

add_zero_big_r : (f : Format) (s : Bool) (e : ℤ) (t : Bool) (n : ℕ) (d : ℤ) → T (fits f (fin t (suc n) d)) → add f (fin t (suc n) d) (fin s zero e) ≡ fin t (suc n) d
unfolding add
add_zero_big_r f s e t n d p =
    let a = suc n * up d * down e in
    let c = down d * down e in
    ap (λ (b : ℕ). sum f t a s b c) (nil (up e) (down d))
    ∙ sum_zero_r f t s a c (mul-pos (mul-pos (zero-lt-suc n) (up_pos d)) (down_pos e))
    ∙ round_fit f t n d a c p (mul-pos (down_pos d) (down_pos e)) (mul_assoc (suc n * up d) (down e) (down d) ∙ ap (λ (x : ℕ). suc n * up d * x) (mul_comm (down e) (down d)))

-- a zero added to a value that fits leaves that number
pub add_zero_l : (f : Format) (x y : Float) → T (fits f y) → Zero x → Finite y → Same (add f x y) y
add_zero_l f (fin s zero e) (fin t zero d) p z h = inr (add_zeros f (fin s zero e) (fin t zero d) tt tt, tt)
add_zero_l f (fin s zero e) (fin t (suc n) d) p z h =
    let r = add_zero_big_l f s e t n d p in inl (subst (λ (w : Float). Finite w) (sym r) tt, r)
add_zero_l f nan y p z h = elim z [ ]
add_zero_l f (inf _) y p z h = elim z [ ]
add_zero_l f (fin s zero e) nan p z h = elim h [ ]
add_zero_l f (fin s zero e) (inf _) p z h = elim h [ ]
add_zero_l f (fin s (suc _) e) y p z h = elim z [ ]

pub add_zero_r : (f : Format) (x y : Float) → T (fits f x) → Finite x → Zero y → Same (add f x y) x
add_zero_r f (fin t zero d) (fin s zero e) p h z = inr (add_zeros f (fin t zero d) (fin s zero e) tt tt, tt)
add_zero_r f (fin t (suc n) d) (fin s zero e) p h z =
    let r = add_zero_big_r f s e t n d p in inl (subst (λ (w : Float). Finite w) (sym r) tt, r)
add_zero_r f nan y p h z = elim h [ ]
add_zero_r f (inf _) y p h z = elim h [ ]
add_zero_r f (fin t zero d) nan p h z = elim z [ ]
add_zero_r f (fin t zero d) (inf _) p h z = elim z [ ]
add_zero_r f (fin t zero d) (fin s (suc _) e) p h z = elim z [ ]
add_zero_r f (fin t (suc n) d) nan p h z = elim z [ ]
add_zero_r f (fin t (suc n) d) (inf _) p h z = elim z [ ]
add_zero_r f (fin t (suc n) d) (fin s (suc _) e) p h z = elim z [ ]

-- ---- the sum of two pairs alike
pub add_same : (f : Format) (x x' y y' : Float) → T (fits f x) → T (fits f y) → Same x x' → Same y y' → Finite (add f x y) → Same (add f x y) (add f x' y')
add_same f x x' y y' p q (inl h) (inl k) r = inl (r, ap (λ (w : Float). add f w y) h.1 ∙ ap (λ (w : Float). add f x' w) k.1)
add_same f x x' y y' p q (inl h) (inr k) r =
    subst (λ (w : Float). Same (add f x y) (add f w y')) h.1
    (same_trans (add f x y) x (add f x y') (add_zero_r f x y p h.0 k.0) (same_sym (add f x y') x (add_zero_r f x y' p h.0 k.1)))
add_same f x x' y y' p q (inr h) (inl k) r =
    subst (λ (w : Float). Same (add f x y) (add f x' w)) k.1
    (same_trans (add f x y) y (add f x' y) (add_zero_l f x y q h.0 k.0) (same_sym (add f x' y) y (add_zero_l f x' y q h.1 k.0)))
add_same f x x' y y' p q (inr h) (inr k) r = inr (add_zeros f x y h.0 k.0, add_zeros f x' y' h.1 k.1)

-- ---- the difference
pub neg_zero : (x : Float) → Zero x → Zero (neg x)
unfolding neg
neg_zero (fin s zero e) z = tt
neg_zero nan z = elim z [ ]
neg_zero (inf _) z = elim z [ ]
neg_zero (fin s (suc _) e) z = elim z [ ]

pub neg_finite : (x : Float) → Finite x → Finite (neg x)
unfolding neg
neg_finite (fin s m e) z = tt
neg_finite nan z = elim z [ ]
neg_finite (inf _) z = elim z [ ]

pub neg_same : (x y : Float) → Same x y → Same (neg x) (neg y)
neg_same x y (inl h) = inl (neg_finite x h.0, ap neg h.1)
neg_same x y (inr h) = inr (neg_zero x h.0, neg_zero y h.1)

pub sub_same : (f : Format) (x x' y y' : Float) → T (fits f x) → T (fits f y) → Same x x' → Same y y' → Finite (sub f x y) → Same (sub f x y) (sub f x' y')
unfolding sub
sub_same f x x' y y' p q h k r = add_same f x x' (neg y) (neg y') p (neg-fits f y q) h (neg_same y y' k) r

pub sub_zeros : (f : Format) (x y : Float) → Zero x → Zero y → Zero (sub f x y)
unfolding sub
sub_zeros f x y p q = add_zeros f x (neg y) p (neg_zero y q)

pub sub_zero_r : (f : Format) (x y : Float) → T (fits f x) → Finite x → Zero y → Same (sub f x y) x
unfolding sub
sub_zero_r f x y p h z = add_zero_r f x (neg y) p h (neg_zero y z)

-- ---- the product
pub mul_zero_l : (f : Format) (x y : Float) → Zero x → Finite y → Zero (mul f x y)
unfolding mul
mul_zero_l f (fin s zero e) (fin t n d) z h = round_zero_at f (unlike s t) (0 * up e * (n * up d)) (down e * down d) (nil (up e) (n * up d)) (mul-pos (down_pos e) (down_pos d))
mul_zero_l f nan y z h = elim z [ ]
mul_zero_l f (inf _) y z h = elim z [ ]
mul_zero_l f (fin s zero e) nan z h = elim h [ ]
mul_zero_l f (fin s zero e) (inf _) z h = elim h [ ]
mul_zero_l f (fin s (suc _) e) y z h = elim z [ ]

pub mul_zero_r : (f : Format) (x y : Float) → Finite x → Zero y → Zero (mul f x y)
unfolding mul
mul_zero_r f (fin s m e) (fin t zero d) h z =
    round_zero_at f (unlike s t) (m * up e * (0 * up d)) (down e * down d) (ap (λ (x : ℕ). m * up e * x) (zero-mul (up d)) ∙ mul-zero (m * up e)) (mul-pos (down_pos e) (down_pos d))
mul_zero_r f nan y h z = elim h [ ]
mul_zero_r f (inf _) y h z = elim h [ ]
mul_zero_r f (fin s m e) nan h z = elim z [ ]
mul_zero_r f (fin s m e) (inf _) h z = elim z [ ]
mul_zero_r f (fin s m e) (fin t (suc _) d) h z = elim z [ ]

pub mul_same : (f : Format) (x x' y y' : Float) → Same x x' → Same y y' → Finite (mul f x y) → Same (mul f x y) (mul f x' y')
mul_same f x x' y y' (inl h) (inl k) r = inl (r, ap (λ (w : Float). mul f w y) h.1 ∙ ap (λ (w : Float). mul f x' w) k.1)
mul_same f x x' y y' (inl h) (inr k) r =
    inr (mul_zero_r f x y h.0 k.0, mul_zero_r f x' y' (subst (λ (w : Float). Finite w) h.1 h.0) k.1)
mul_same f x x' y y' (inr h) k r = inr (mul_zero_l f x y h.0 (same_finite y y' k), mul_zero_l f x' y' h.1 (same_finite_r y y' k))

-- ---- the quotient
abbrev pub Nonzero : Float → Type 0
Nonzero x = Finite x × T (not (is_zero x))

pub div_zero : (f : Format) (x d : Float) → Zero x → Nonzero d → Zero (div f x d)
unfolding div
div_zero f (fin s zero e) nan z h = absurd h.0
div_zero f (fin s zero e) (inf t) z h = absurd h.0
div_zero f (fin s zero e) (fin t zero d) z h = absurd h.1
div_zero f (fin s zero e) (fin t (suc n) d) z h =
    subst (λ (b : Bool). Zero (cond b (cond (eqb 0 0) nan (inf (unlike s t))) (round f (unlike s t) (0 * up e * down d) (suc n * up d * down e)))) (sym (eqb-suc-zero n))
    (round_zero_at f (unlike s t) (0 * up e * down d) (suc n * up d * down e) (nil (up e) (down d)) (mul-pos (mul-pos (zero-lt-suc n) (up_pos d)) (down_pos e)))
div_zero f nan d z h = elim z [ ]
div_zero f (inf _) d z h = elim z [ ]
div_zero f (fin s (suc _) e) d z h = elim z [ ]

pub div_same : (f : Format) (x x' d d' : Float) → Same x x' → Same d d' → T (not (is_zero d)) → Finite (div f x d) → Same (div f x d) (div f x' d')
div_same f x x' d d' h (inr k) n r = absurd (T_not (is_zero d) n k.0)
div_same f x x' d d' (inl h) (inl k) n r = inl (r, ap (λ (w : Float). div f w d) h.1 ∙ ap (λ (w : Float). div f x' w) k.1)
div_same f x x' d d' (inr h) (inl k) n r =
    inr (div_zero f x d h.0 (k.0, n), subst (λ (w : Float). Zero (div f x' w)) k.1 (div_zero f x' d h.1 (k.0, n)))

-- ---- a finite result has finite operands
pub add_finite : (f : Format) (x y : Float) → Finite (add f x y) → Finite x × Finite y
unfolding add
add_finite f nan y r = absurd r
add_finite f (inf s) nan r = absurd r
add_finite f (inf true) (inf true) r = absurd r
add_finite f (inf true) (inf false) r = absurd r
add_finite f (inf false) (inf true) r = absurd r
add_finite f (inf false) (inf false) r = absurd r
add_finite f (inf s) (fin t n d) r = absurd r
add_finite f (fin s m e) nan r = absurd r
add_finite f (fin s m e) (inf t) r = absurd r
add_finite f (fin s m e) (fin t n d) r = (tt, tt)

unneg_finite : (x : Float) → Finite (neg x) → Finite x
unfolding neg
unneg_finite nan r = r
unneg_finite (inf s) r = r
unneg_finite (fin s m e) r = tt

pub sub_finite : (f : Format) (x y : Float) → Finite (sub f x y) → Finite x × Finite y
unfolding sub
sub_finite f x y r = ((add_finite f x (neg y) r).0, unneg_finite y (add_finite f x (neg y) r).1)

cond_not_finite : (b : Bool) (s : Bool) → Finite (cond b nan (inf s)) → ⊥
cond_not_finite true s r = r
cond_not_finite false s r = r

pub mul_finite : (f : Format) (x y : Float) → Finite (mul f x y) → Finite x × Finite y
unfolding mul
mul_finite f nan y r = absurd r
mul_finite f (inf s) nan r = absurd r
mul_finite f (inf s) (inf t) r = absurd r
mul_finite f (inf s) (fin t n d) r = absurd (cond_not_finite (eqb n 0) (unlike s t) r)
mul_finite f (fin s m e) nan r = absurd r
mul_finite f (fin s m e) (inf t) r = absurd (cond_not_finite (eqb m 0) (unlike s t) r)
mul_finite f (fin s m e) (fin t n d) r = (tt, tt)

-- the divisor may be an infinity: then the quotient is a zero
pub div_finite : (f : Format) (x d : Float) → Finite (div f x d) → Finite x
unfolding div
div_finite f nan d r = absurd r
div_finite f (inf s) nan r = absurd r
div_finite f (inf s) (inf t) r = absurd r
div_finite f (inf s) (fin t n d) r = absurd r
div_finite f (fin s m e) d r = tt

-- a divisor that is finite and gives a finite quotient is not zero
pub div_nonzero : (f : Format) (x d : Float) → Finite d → Finite (div f x d) → T (not (is_zero d))
unfolding div
div_nonzero f nan (fin t n d) h r = absurd r
div_nonzero f (inf s) (fin t n d) h r = absurd r
div_nonzero f (fin s m e) (fin t zero d) h r = absurd (cond_not_finite (eqb m 0) (unlike s t) r)
div_nonzero f (fin s m e) (fin t (suc n) d) h r = tt
div_nonzero f nan nan h r = elim h [ ]
div_nonzero f nan (inf _) h r = elim h [ ]
div_nonzero f (inf s) nan h r = elim h [ ]
div_nonzero f (inf s) (inf _) h r = elim h [ ]
div_nonzero f (fin s m e) nan h r = elim h [ ]
div_nonzero f (fin s m e) (inf _) h r = elim h [ ]

-- ---- IEEE's equality, Rust's `==`, of values that fit and are finite
or_cases : (a b : Bool) → T (a || b) → T a ⊎ T b
or_cases true b t = inl tt
or_cases false b t = inr t

beq_is : (s t : Bool) → T (beq s t) → s ≡ t
beq_is true true h = refl
beq_is true false h = absurd h
beq_is false true h = absurd h
beq_is false false h = refl

beq_self : (s : Bool) → T (beq s s)
beq_self true = tt
beq_self false = tt

pos_not_zero : (m : ℕ) (e d : ℤ) → suc m * up e * down d ≡ 0 → ⊥
pos_not_zero m e d h = lt_irrefl 0 (subst (λ (x : ℕ). 0 < x) h (mul-pos (mul-pos (zero-lt-suc m) (up_pos e)) (down_pos d)))

pub eq→same : (f : Format) (x y : Float) → T (fits f x) → T (fits f y) → Finite x → T (eq x y) → Same x y
unfolding eq
eq→same f (fin s m e) nan p q h t = absurd t
eq→same f (fin s m e) (inf u) p q h t = absurd t
eq→same f (fin s zero e) (fin u zero d) p q h t = inr (tt, tt)
eq→same f (fin s zero e) (fin u (suc n) d) p q h t =
    absurd (pos_not_zero n d e (sym (eqb→eq (0 * up e * down d) (suc n * up d * down e) (and_l (eqb (0 * up e * down d) (suc n * up d * down e)) (beq s u || eqb (0 * up e * down d) 0) t)) ∙ nil (up e) (down d)))
eq→same f (fin s (suc m) e) (fin u zero d) p q h t =
    absurd (pos_not_zero m e d (eqb→eq (suc m * up e * down d) (0 * up d * down e) (and_l (eqb (suc m * up e * down d) (0 * up d * down e)) (beq s u || eqb (suc m * up e * down d) 0) t) ∙ nil (up d) (down e)))
eq→same f (fin s (suc m) e) (fin u (suc n) d) p q h t =
    let a = suc m * up e * down d in
    let b = suc n * up d * down e in
    let r = odd_unique (suc m) (suc n) e d (is_odd f s m e p) (is_odd f u n d q) (eqb→eq a b (and_l (eqb a b) (beq s u || eqb a 0) t)) in
    go (or_cases (beq s u) (eqb a 0) (and_r (eqb a b) (beq s u || eqb a 0) t)) r
  where
    go : T (beq s u) ⊎ T (eqb (suc m * up e * down d) 0) → (suc m ≡ suc n) × (e ≡ d) → Same (fin s (suc m) e) (fin u (suc n) d)
    go (inl g) r = inl (tt, λ i. fin (beq_is s u g i) (r.0 i) (r.1 i))
    go (inr g) r = absurd (pos_not_zero m e d (eqb→eq (suc m * up e * down d) 0 g))
eq→same f nan y p q h t = elim h [ ]
eq→same f (inf _) y p q h t = elim h [ ]

or_left : (a b : Bool) → T a → T (a || b)
or_left true b u = tt
or_left false b u = absurd u

or_true : (c : Bool) → T (c || true)
or_true true = tt
or_true false = tt

level_zero : (s u : Bool) (a b : ℕ) → a ≡ 0 → b ≡ 0 → T (eqb a b && (beq s u || eqb a 0))
level_zero s u a b g k =
    subst (λ (z : ℕ). T (eqb z b && (beq s u || eqb z 0))) (sym g) (subst (λ (z : ℕ). T (eqb 0 z && (beq s u || eqb 0 0))) (sym k) (or_true (beq s u)))

eq_self : (x : Float) → Finite x → T (eq x x)
unfolding eq
eq_self (fin s m e) h =
    let a = m * up e * down e in
    and_i (eqb a a) (beq s s || eqb a 0) (eqb_refl a) (or_left (beq s s) (eqb a 0) (beq_self s))
eq_self nan h = elim h [ ]
eq_self (inf _) h = elim h [ ]

eq_zeros : (x y : Float) → Zero x → Zero y → T (eq x y)
unfolding eq
eq_zeros (fin s zero e) (fin u zero d) p q = level_zero s u (0 * up e * down d) (0 * up d * down e) (nil (up e) (down d)) (nil (up d) (down e))
eq_zeros nan y p q = elim p [ ]
eq_zeros (inf _) y p q = elim p [ ]
eq_zeros (fin s zero e) nan p q = elim q [ ]
eq_zeros (fin s zero e) (inf _) p q = elim q [ ]
eq_zeros (fin s zero e) (fin u (suc _) d) p q = elim q [ ]
eq_zeros (fin s (suc _) e) y p q = elim p [ ]

pub same→eq : (x y : Float) → Same x y → T (eq x y)
same→eq x y (inl h) = subst (λ (z : Float). T (eq x z)) h.1 (eq_self x h.0)
same→eq x y (inr h) = eq_zeros x y h.0 h.1
