-- THE THEOREMS of the root, for both formats: its rounding is the one of every operation, no value is nearer, there is no tie, it is exact where its square is x,
-- and it fits. Assumes nothing.
use mathlib.Core.Path.{◌≡◌, refl, sym, ap, ◌∙◌, subst}
use Prim.Native.Nat.{ℕ, zero, suc, ◌+◌, ◌-◌, ◌*◌, ◌/◌, ◌%◌, ◌^◌, ◌≤◌, ◌<◌, compare, Ordering}
use native.Mathlib.Nat.{le_refl, le_antisymm, add-le-add, le_trans, le_of_eq, lt_of_lt_of_le, lt_of_le_of_lt, zero-mul, mul_assoc, add-mul, mul-mul-mul_comm, mul-pos, mul-le-mul, mul-le-mul_right, mul-lt-mul_of_pos_right, lt_of_mul-lt-mul_right, eq_of_mul-eq-mul_right}
use native.Mathlib.Omega.{arith}
use mathlib.Core.Bool.{Bool, true, false, not, cond}
use lib.IntN.{ℤ}
use lib.Dec.{T, leb, ltb, eqb, eqb→eq, eqb_refl, leb→le, nleb→lt, ltb→lt}
use lib.Pow.{pow-add, pow_pos, pow-lt}
use lib.Ieee.{Float, nan, inf, fin, Format, prec, emax, low, up, down, size, nearest, odd, units, round, fits}
use lib.Ieee.Fits.{odd-fits, down_pos, two, two-le_pos}
use lib.Ieee.Positive.{positive, positive_of_value}
use lib.Ieee.Exact.{HasValue, units_val}
use Rattle.definitions.specs.Root.{isqrt, Located, rounded, locate_root, radicand, root, root_exact}
use Rattle.laws.proofs.RootSquares.{sq_lt, sq_up, dbl, root_unique, isqrt_root, Cmp, cmp, Near, no_middle, near_of}
use Rattle.laws.proofs.Format.{pow_less, lift, fits_says}
use Rattle.laws.proofs.RootScaled.{located, root_at_scaled, Scaled, scale}

-- ---- the rounding is that of `lib.Ieee`, which rounds every operation

-- where the fraction num / den lies
abbrev pub quotient_at : Format → ℕ → ℕ → Located
quotient_at f num den =
    let n = num * 2 ^ low f in
    let k = size (n / den) - prec f in
    let u = den * 2 ^ k in
    record { kept = n / u; dropped = k; side = compare (n % u * 2) u; exact = eqb (n % u) 0 }

pub round_is_rounded : (f : Format) (s : Bool) (num den : ℕ) → round f s num den ≡ rounded f s (quotient_at f num den)
unfolding round rounded
round_is_rounded f s num den = refl

-- ---- the root in scaled digits

abbrev pub closest : ℕ → ℕ
closest n = nearest (isqrt n) (compare (4 * n) ((isqrt n + isqrt n + 1) * (isqrt n + isqrt n + 1)))

pub closest_near : (n : ℕ) → 0 < n → Near n (closest n)
closest_near n N = near_of n (isqrt n) (compare (4 * n) ((isqrt n + isqrt n + 1) * (isqrt n + isqrt n + 1))) N (isqrt_root n) (cmp (4 * n) ((isqrt n + isqrt n + 1) * (isqrt n + isqrt n + 1)))

positive_root : (f : Format) (m : ℕ) (e : ℤ) → root f (fin false (suc m) e) ≡ rounded f false (locate_root f (radicand f (suc m) e))
unfolding root
positive_root f m e = refl

rounded_units : (f : Format) (l : Located) → rounded f false l ≡ units f false (nearest l.kept l.side) l.dropped
unfolding rounded
rounded_units f l = refl

pub root_scaled : (f : Format) (m : ℕ) (e : ℤ) (n k : ℕ) → radicand f (suc m) e ≡ n * (2 ^ k * 2 ^ k) → 2 ^ (prec f - 1) * 2 ^ (prec f - 1) ≤ n → n < 2 ^ prec f * 2 ^ prec f
    → root f (fin false (suc m) e) ≡ units f false (closest n) k
root_scaled f m e n k h lo hi = positive_root f m e ∙ ap (rounded f false) (root_at_scaled f (radicand f (suc m) e) n k h lo hi) ∙ rounded_units f (located n k)

pub exact_scaled : (f : Format) (m : ℕ) (e : ℤ) (n k : ℕ) → radicand f (suc m) e ≡ n * (2 ^ k * 2 ^ k) → 2 ^ (prec f - 1) * 2 ^ (prec f - 1) ≤ n → n < 2 ^ prec f * 2 ^ prec f
    → root_exact f (fin false (suc m) e) ≡ eqb (isqrt n * isqrt n) n
exact_scaled f m e n k h lo hi = by_definition ∙ ap (λ (l : Located). l.exact) (root_at_scaled f (radicand f (suc m) e) n k h lo hi)
  where
    by_definition : root_exact f (fin false (suc m) e) ≡ (locate_root f (radicand f (suc m) e)).exact
    by_definition = unfold root_exact in refl

pub some_digits : (p n : ℕ) → 2 ^ (p - 1) * 2 ^ (p - 1) ≤ n → 0 < n
some_digits p n lo = lt_of_lt_of_le (mul-pos (pow_pos (p - 1)) (pow_pos (p - 1))) lo

pub near_most : (p n q : ℕ) → n < 2 ^ p * 2 ^ p → Near n q → q ≤ 2 ^ p
near_most p n q hi h =
    let a = sq_lt (q + q - 1) (2 ^ p + 2 ^ p) (lt_of_lt_of_le h.above (le_trans (omega arith) (le_of_eq (sym (dbl (2 ^ p)))))) in
    omega arith

pub near_least : (p n q : ℕ) → 2 ^ (p - 1) * 2 ^ (p - 1) ≤ n → Near n q → 2 ^ (p - 1) ≤ q
near_least p n q lo h =
    let A = 2 ^ (p - 1) in
    let a = sq_lt (A + A) (q + q + 1) (lt_of_le_of_lt (le_trans (le_of_eq (dbl A)) (omega arith)) h.under) in
    omega arith

module _ (f : Format) (m : ℕ) (e : ℤ) (S : Scaled f (suc m) e) where
  scaled_root : root f (fin false (suc m) e) ≡ units f false (closest S.n) S.k
  scaled_root = root_scaled f m e S.n S.k S.scaled S.least S.most

  scaled_near : Near S.n (closest S.n)
  scaled_near = closest_near S.n (some_digits (prec f) S.n S.least)

  pub scaled_value : HasValue (root f (fin false (suc m) e)) false (closest S.n * 2 ^ S.k) (2 ^ low f)
  scaled_value =
      subst (λ (x : Float). HasValue x false (closest S.n * 2 ^ S.k) (2 ^ low f)) (sym scaled_root)
      (units_val f false (closest S.n) S.k
      (lt_of_le_of_lt (mul-le-mul_right (2 ^ S.k) (near_most (prec f) S.n (closest S.n) S.most scaled_near)) (subst (λ (x : ℕ). x < 2 ^ (low f + suc (emax f))) (pow-add 2 (prec f) S.k) (pow-lt S.room))))

-- ---- the values of a format, in units of the smallest: few digits, and a power of two

spread : (f : Format) (y : Float) (w : ℕ) → T (fits f y) → HasValue y false w (2 ^ low f) → (j : ℕ) × (c : ℕ) × (w ≡ c * 2 ^ j) × (c < 2 ^ prec f)
spread f nan w t h = absurd h
spread f (inf s) w t h = absurd h
spread f (fin s zero e) w t h =
    (0, 0, eq_of_mul-eq-mul_right (down e) (down_pos e) w (0 * 2 ^ 0) (sym h.1 ∙ none e), pow_pos (prec f))
  where
    none : (d : ℤ) → 0 * up d * 2 ^ low f ≡ 0 * 2 ^ 0 * down d
    none d = ap (λ (x : ℕ). x * 2 ^ low f) (zero-mul (up d)) ∙ zero-mul (2 ^ low f) ∙ sym (zero-mul (down d))
spread f (fin s (suc m) e) w t h =
    let g = fits_says f s m e t in
    let l = lift (low f) e g.1 in (
      l.0,
      suc m,
      eq_of_mul-eq-mul_right (down e) (down_pos e) w (suc m * 2 ^ l.0)
          (sym h.1 ∙ mul_assoc (suc m) (up e) (2 ^ low f) ∙ ap (λ (x : ℕ). suc m * x) l.1 ∙ sym (mul_assoc (suc m) (2 ^ l.0) (down e))),
      g.0,
    )

-- from 2 ^ (p - 1) units of 2 ^ k on they are whole units of 2 ^ k
multiple : (p k c j : ℕ) → 0 < p → c < 2 ^ p → 2 ^ (p - 1) * 2 ^ k ≤ c * 2 ^ j → (i : ℕ) × (c * 2 ^ j ≡ i * 2 ^ k)
multiple p k c j P h g =
    let a : 2 ^ (p - 1 + k) < 2 ^ (p + j) = lt_of_le_of_lt (le_of_eq (pow-add 2 (p - 1) k)) (lt_of_le_of_lt g (lt_of_lt_of_le (mul-lt-mul_of_pos_right h (pow_pos j)) (le_of_eq (sym (pow-add 2 p j))))) in
    let b = pow_less (p - 1 + k) (p + j) a in
    let d : j - k + k ≡ j = omega arith in
    (c * 2 ^ (j - k), ap (λ (x : ℕ). c * 2 ^ x) (sym d) ∙ ap (λ (x : ℕ). c * x) (pow-add 2 (j - k) k) ∙ sym (mul_assoc c (2 ^ (j - k)) (2 ^ k)))

-- ---- the middle between q units of u and a value w beyond the next unit

beyond : (n q u w : ℕ) → 0 < u → Near n q → (q + q + 1) * u ≤ q * u + w → 4 * (n * (u * u)) < (q * u + w) * (q * u + w)
beyond n q u w U N h =
    let c = q + q + 1 in
    lt_of_lt_of_le (lt_of_le_of_lt (le_of_eq (sym (mul_assoc 4 n (u * u)))) (lt_of_lt_of_le (mul-lt-mul_of_pos_right N.under (mul-pos U U)) (le_of_eq (sym (mul-mul-mul_comm c u c u))))) (mul-le-mul h h)

before : (n q u w : ℕ) → 0 < u → Near n q → q * u + w ≤ (q + q - 1) * u → (q * u + w) * (q * u + w) < 4 * (n * (u * u))
before n q u w U N h =
    let c = q + q - 1 in
    lt_of_le_of_lt (le_trans (mul-le-mul h h) (le_of_eq (mul-mul-mul_comm c u c u))) (lt_of_lt_of_le (mul-lt-mul_of_pos_right N.above (mul-pos U U)) (le_of_eq (mul_assoc 4 n (u * u))))

-- below the least q of all: its lower neighbours lie closer together, and √n is not below it
lowest : (n a u w : ℕ) → 0 < u → a * a ≤ n → w < a * u → (a * u + w) * (a * u + w) < 4 * (n * (u * u))
lowest n a u w U h g =
    let x : a * u + w < (a + a) * u = subst (λ (y : ℕ). a * u + w < y) (sym (add-mul a a u)) (omega arith) in
    lt_of_lt_of_le (sq_up (a * u + w) ((a + a) * u) x)
    (le_trans (le_of_eq (mul-mul-mul_comm (a + a) u (a + a) u ∙ ap (λ (y : ℕ). y * (u * u)) (dbl a) ∙ mul_assoc 4 (a * a) (u * u))) (mul-le-mul (le_refl 4) (mul-le-mul_right (u * u) h)))

fewer : (i q u : ℕ) → i < q → q * u + i * u ≤ (q + q - 1) * u
fewer i q u h = le_trans (le_of_eq (sym (add-mul q i u))) (mul-le-mul_right u (less i q h))
  where
    less : (i q : ℕ) → i < q → q + i ≤ q + q - 1
    less i q h = omega arith

above_it : (p n k q c j : ℕ) → 0 < p → c < 2 ^ p → 2 ^ (p - 1) ≤ q → Near n q → q * 2 ^ k < c * 2 ^ j → 4 * (n * (2 ^ k * 2 ^ k)) < (q * 2 ^ k + c * 2 ^ j) * (q * 2 ^ k + c * 2 ^ j)
above_it p n k q c j P C Q N h =
    let u = 2 ^ k in
    let M = multiple p k c j P C (le_trans (mul-le-mul_right u Q) (le_trans (before_suc (q * u)) h)) in
    let i = M.0 in
    let I : q < i = lt_of_mul-lt-mul_right u (subst (λ (x : ℕ). q * u < x) M.1 h) in
    beyond n q u (c * 2 ^ j) (pow_pos k) N
    (subst (λ (x : ℕ). (q + q + 1) * u ≤ q * u + x) (sym M.1) (le_trans (mul-le-mul_right u (more i q I)) (le_of_eq (add-mul q i u))))
  where
    before_suc : (x : ℕ) → x ≤ suc x
    before_suc x = omega arith

    more : (i q : ℕ) → q < i → q + q + 1 ≤ q + i
    more i q g = omega arith

under_it : (p n k q c j : ℕ) → 0 < p → c < 2 ^ p → 2 ^ (p - 1) ≤ q → 2 ^ (p - 1) * 2 ^ (p - 1) ≤ n → Near n q → c * 2 ^ j < q * 2 ^ k → (q * 2 ^ k + c * 2 ^ j) * (q * 2 ^ k + c * 2 ^ j) < 4 * (n * (2 ^ k * 2 ^ k))
under_it p n k q c j P C Q L N h = go (leb (A * u) w) (leb→le (A * u) w) (nleb→lt (A * u) w)
  where
    A : ℕ
    A = 2 ^ (p - 1)

    u : ℕ
    u = 2 ^ k

    w : ℕ
    w = c * 2 ^ j

    small : w < A * u → (b : Bool) → (T b → q ≤ A) → (T (not b) → A < q) → (q * u + w) * (q * u + w) < 4 * (n * (u * u))
    small g true s t =
        let e : A ≡ q = le_antisymm Q (s tt) in
        subst (λ (x : ℕ). (x * u + w) * (x * u + w) < 4 * (n * (u * u))) e (lowest n A u w (pow_pos k) L g)
    small g false s t = before n q u w (pow_pos k) N (le_trans (add-le-add (le_refl (q * u)) (le_trans (before_suc w) g)) (fewer A q u (t tt)))
      where
        before_suc : (x : ℕ) → x ≤ suc x
        before_suc x = omega arith

    go : (b : Bool) → (T b → A * u ≤ w) → (T (not b) → w < A * u) → (q * u + w) * (q * u + w) < 4 * (n * (u * u))
    go true s t =
        let M = multiple p k c j P C (s tt) in
        let i = M.0 in
        let I : i < q = lt_of_mul-lt-mul_right u (subst (λ (x : ℕ). x < q * u) M.1 h) in
        before n q u w (pow_pos k) N (subst (λ (x : ℕ). q * u + x ≤ (q + q - 1) * u) (sym M.1) (fewer i q u I))
    go false s t = small (t tt) (leb q A) (leb→le q A) (nleb→lt q A)

-- ---- 1. no value of the format is nearer to √x: with r, y and x in units of the smallest value and of its square, x lies below the square of the middle of r and
-- each larger y, and above that of the middle of r and each smaller one. So there is no tie either. (A negative y is farther than 0, and 0 is among the smaller ones.)

pub record Nearest (f : Format) (m : ℕ) (e : ℤ) (r : Float) : Type 0 where
  pub units : ℕ
  pub value : HasValue r false units (2 ^ low f)
  pub whole : radicand f m e * down e ≡ m * up e * 2 ^ (low f + low f)
  pub larger : (y : Float) (w : ℕ) → T (fits f y) → HasValue y false w (2 ^ low f) → units < w → 4 * radicand f m e < (units + w) * (units + w)
  pub smaller : (y : Float) (w : ℕ) → T (fits f y) → HasValue y false w (2 ^ low f) → w < units → (units + w) * (units + w) < 4 * radicand f m e

pub root_nearest : (f : Format) (m : ℕ) (e : ℤ) → T (fits f (fin false (suc m) e)) → Nearest f (suc m) e (root f (fin false (suc m) e))
root_nearest f m e t =
    let S = scale f m e t in
    let q = closest S.n in
    let N = scaled_near f m e S in
    let Q = near_least (prec f) S.n q S.least N in
    let P = two-le_pos (prec f) (two f) in
    let u = 2 ^ S.k in
    record {
      units = q * u;
      value = scaled_value f m e S;
      whole = S.whole;
      larger = λ y w h v g.
          let s = spread f y w h v in
          subst (λ (x : ℕ). 4 * radicand f (suc m) e < (q * u + x) * (q * u + x)) (sym s.2)
          (subst (λ (x : ℕ). 4 * x < (q * u + s.1 * 2 ^ s.0) * (q * u + s.1 * 2 ^ s.0)) (sym S.scaled) (above_it (prec f) S.n S.k q s.1 s.0 P s.3 Q N (subst (λ (x : ℕ). q * u < x) s.2 g)));
      smaller = λ y w h v g.
          let s = spread f y w h v in
          subst (λ (x : ℕ). (q * u + x) * (q * u + x) < 4 * radicand f (suc m) e) (sym s.2)
          (subst (λ (x : ℕ). (q * u + s.1 * 2 ^ s.0) * (q * u + s.1 * 2 ^ s.0) < 4 * x) (sym S.scaled) (under_it (prec f) S.n S.k q s.1 s.0 P s.3 Q S.least N (subst (λ (x : ℕ). x < q * u) s.2 g)));
    }

-- ---- 2. no tie

pub root_no_tie : (f : Format) (m : ℕ) (e : ℤ) → T (fits f (fin false (suc m) e)) → (locate_root f (radicand f (suc m) e)).side ≡ Ordering.eq → ⊥
root_no_tie f m e t h =
    let S = scale f m e t in
    let c = isqrt S.n in
    let a : compare (4 * S.n) ((c + c + 1) * (c + c + 1)) ≡ Ordering.eq = ap (λ (l : Located). l.side) (sym (root_at_scaled f (radicand f (suc m) e) S.n S.k S.scaled S.least S.most)) ∙ h in
    no_middle S.n c (subst (λ (o : Ordering). Cmp o (4 * S.n) ((c + c + 1) * (c + c + 1))) a (cmp (4 * S.n) ((c + c + 1) * (c + c + 1))))

-- ---- 3. exact where r * r = x: r in units of the smallest value, both sides in units of its square

square_root : (n q : ℕ) → Near n q → isqrt n * isqrt n ≡ n → q ≡ isqrt n
square_root n q N e =
    let c = isqrt n in
    let a : q + q - 1 < c + c = sq_lt (q + q - 1) (c + c) (lt_of_lt_of_le N.above (le_of_eq (ap (λ (x : ℕ). 4 * x) (sym e) ∙ sym (dbl c)))) in
    let b : c + c < q + q + 1 = sq_lt (c + c) (q + q + 1) (lt_of_le_of_lt (le_of_eq (dbl c ∙ ap (λ (x : ℕ). 4 * x) e)) N.under) in
    omega arith

own_root : (q : ℕ) → isqrt (q * q) ≡ q
own_root q = root_unique (q * q) (isqrt (q * q)) q (isqrt_root (q * q)) (le_refl (q * q), sq_up q (suc q) (le_refl (suc q)))

value_unique : (x : Float) (a b c : ℕ) → HasValue x false a c → HasValue x false b c → a ≡ b
value_unique nan a b c h g = absurd h
value_unique (inf s) a b c h g = absurd h
value_unique (fin s m e) a b c h g = eq_of_mul-eq-mul_right (down e) (down_pos e) a b (sym h.1 ∙ g.1)

pub record Exact (f : Format) (m : ℕ) (e : ℤ) (w : ℕ) : Type 0 where
  pub says : T (root_exact f (fin false m e)) → w * w * down e ≡ m * up e * 2 ^ (low f + low f)
  pub where_square : w * w * down e ≡ m * up e * 2 ^ (low f + low f) → T (root_exact f (fin false m e))

pub root_exact_lem : (f : Format) (m : ℕ) (e : ℤ) (w : ℕ) → T (fits f (fin false (suc m) e)) → HasValue (root f (fin false (suc m) e)) false w (2 ^ low f) → Exact f (suc m) e w
root_exact_lem f m e w t h =
    let S = scale f m e t in
    let n = S.n in
    let u = 2 ^ S.k in
    let q = closest n in
    let U : 0 < u * u = mul-pos (pow_pos S.k) (pow_pos S.k) in
    let W : w * w ≡ q * q * (u * u) = ap (λ (x : ℕ). x * x) (value_unique (root f (fin false (suc m) e)) w (q * u) (2 ^ low f) h (scaled_value f m e S)) ∙ mul-mul-mul_comm q u q u in
    let X : root_exact f (fin false (suc m) e) ≡ eqb (isqrt n * isqrt n) n = exact_scaled f m e n S.k S.scaled S.least S.most in
    record {
      says = λ g.
          let i : isqrt n * isqrt n ≡ n = eqb→eq (isqrt n * isqrt n) n (subst T X g) in
          let j : q * q ≡ n = ap (λ (x : ℕ). x * x) (square_root n q (scaled_near f m e S) i) ∙ i in
          ap (λ (x : ℕ). x * down e) (W ∙ ap (λ (x : ℕ). x * (u * u)) j ∙ sym S.scaled) ∙ S.whole;
      where_square = λ g.
          let i : w * w ≡ radicand f (suc m) e = eq_of_mul-eq-mul_right (down e) (down_pos e) (w * w) (radicand f (suc m) e) (g ∙ sym S.whole) in
          let j : q * q ≡ n = eq_of_mul-eq-mul_right (u * u) U (q * q) n (sym W ∙ i ∙ S.scaled) in
          subst T (sym X) (subst (λ (x : ℕ). T (eqb (isqrt x * isqrt x) x)) j (subst (λ (x : ℕ). T (eqb (x * x) (q * q))) (sym (own_root q)) (eqb_refl (q * q))));
    }

-- ---- 4. the root fits

pub units_fits : (f : Format) (s : Bool) (q k : ℕ) → q ≤ 2 ^ prec f → T (fits f (units f s q k))
unfolding units
units_fits f s q k a = go (ltb (q * 2 ^ k) (2 ^ (low f + suc (emax f)))) (ltb→lt (q * 2 ^ k) (2 ^ (low f + suc (emax f))))
  where
    go : (b : Bool) → (T b → q * 2 ^ k < 2 ^ (low f + suc (emax f))) → T (fits f (cond b (odd (suc (prec f)) s q k (low f)) (inf s)))
    go true h = odd-fits f (suc (prec f)) s q k (lt_of_le_of_lt a (pow-lt (le_refl (suc (prec f))))) a (h tt)
    go false h = unfold fits in tt

pub root_fits : (f : Format) (x : Float) → T (fits f x) → T (fits f (root f x))
unfolding root
root_fits f nan t = unfold fits in tt
root_fits f (inf false) t = unfold fits in tt
root_fits f (inf true) t = unfold fits in tt
root_fits f (fin s zero e) t = t
root_fits f (fin true (suc m) e) t = unfold fits in tt
root_fits f (fin false (suc m) e) t =
    let S = scale f m e t in
    subst (λ (x : Float). T (fits f x)) (sym (scaled_root f m e S)) (units_fits f false (closest S.n) S.k (near_most (prec f) S.n (closest S.n) S.most (scaled_near f m e S)))

-- ---- 5. the root of a value that is finite and above zero is so too

pub root_positive : (f : Format) (x : Float) → T (fits f x) → T (positive x) → T (positive (root f x))
root_positive f nan t p = absurd p
root_positive f (inf s) t p = absurd p
root_positive f (fin true m e) t p = absurd p
root_positive f (fin false zero e) t p = absurd p
root_positive f (fin false (suc m) e) t p =
    let S = scale f m e t in
    let q = closest S.n in
    positive_of_value (root f (fin false (suc m) e)) (q * 2 ^ S.k) (2 ^ low f) (scaled_value f m e S)
    (mul-pos (lt_of_lt_of_le (pow_pos (prec f - 1)) (near_least (prec f) S.n q S.least (scaled_near f m e S))) (pow_pos S.k))
