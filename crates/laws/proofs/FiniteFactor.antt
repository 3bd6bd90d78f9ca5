-- An accepted factor is finite, and its diagonal is above zero. A NaN or an infinity left of the diagonal makes the pivot of its row NaN or an infinity, since a finite
-- difference has finite operands and a finite product finite factors; and the test refuses such a pivot. A pivot that passes is above a tolerance that is a number and has no
-- sign, so it is above zero, and so is its root. Nothing is asked of the matrix, but that its diagonal holds f64s.
use mathlib.Core.Path.{◌≡◌, sym, subst}
use mathlib.Core.Logic.{◌⊎◌, inl, inr}
use mathlib.Core.Bool.{Bool, true, false, not, ◌&&◌, ◌||◌, cond}
use mathlib.Core.List.{List, [], ◌∷◌, foldl}
use Prim.Native.Nat.{ℕ, zero, suc, ◌+◌, ◌-◌, ◌*◌, ◌/◌, ◌%◌, ◌^◌, ◌≤◌, ◌<◌, compare}
use native.Mathlib.Nat.{eq-or-lt_of_le, mul-pos, zero-lt-suc}
use native.Mathlib.Omega.{arith}
use lib.IntN.{ℤ}
use lib.Dec.{T, ltb, eqb, ltb→lt, lt→ltb, nltb→le, eqb-suc-zero}
use lib.Ieee.{Float, nan, inf, fin, Format, binary64, prec, emax, low, up, down, size, nearest, odd, units, round, mul, lt, eq, le, fits, of_bits}
use lib.Ieee.Fits.{and_l, up_pos, add-fits, sub-fits}
use lib.Ieee.Positive.{positive, positive-finite}
use lib.Ieee.Scale.{finite}
use Rattle.definitions.specs.Numbers.{◌+ᶠ◌, ◌-ᶠ◌, ◌*ᶠ◌, zeroᶠ, oneᶠ, pivot_tol, larger, largest, magnitude, total, reduced, above}
use Rattle.definitions.specs.Factor.{entry, products, rest}
use Rattle.laws.proofs.Lists.{Each, none, more, tab_each}
use Rattle.laws.proofs.Same.{Finite, nil, sub_finite, mul_finite}
use Rattle.laws.proofs.Near.{zero_fits}
use Rattle.laws.proofs.RootLaws.{root_positive}
use Rattle.laws.proofs.Factor.{Rows}

-- every entry on and below the diagonal is finite, and every entry on it is above zero
pub record FiniteFactor (place : ℕ → ℕ → ℕ) (n : ℕ) (l : List Float) : Type 0 where
  pub real : (i j : ℕ) → i < n → j ≤ i → Finite (entry place l i j)
  pub positive : (i : ℕ) → i < n → T (lt zeroᶠ (entry place l i i))

-- ---- numbers with no sign: neither NaN, nor below zero, nor -0

abbrev pub unsigned : Float → Bool
unsigned nan = false
unsigned (inf s) = not s
unsigned (fin s m e) = not s

units_unsigned : (f : Format) (q k : ℕ) → T (unsigned (units f false q k))
unfolding units odd
units_unsigned f q k = go (ltb (q * 2 ^ k) (2 ^ (low f + suc (emax f)))) q
  where
    go : (b : Bool) (q : ℕ) → T (unsigned (cond b (odd (suc (prec f)) false q k (low f)) (inf false)))
    go true zero = tt
    go true (suc q) = tt
    go false q = tt

pub round_unsigned : (f : Format) (n d : ℕ) → T (unsigned (round f false n d))
unfolding round
round_unsigned f n d =
    let k = size (n * 2 ^ low f / d) - prec f in
    let u = d * 2 ^ k in
    units_unsigned f (nearest (n * 2 ^ low f / u) (compare (n * 2 ^ low f % u * 2) u)) k

-- what is above such a number is one
lt_unsigned : (x y : Float) → T (unsigned x) → T (lt x y) → T (unsigned y)
unfolding lt
lt_unsigned nan y p h = absurd p
lt_unsigned (inf true) y p h = absurd p
lt_unsigned (inf false) nan p h = absurd h
lt_unsigned (inf false) (inf t) p h = absurd h
lt_unsigned (inf false) (fin t n d) p h = absurd h
lt_unsigned (fin true m e) y p h = absurd p
lt_unsigned (fin false m e) nan p h = absurd h
lt_unsigned (fin false m e) (inf t) p h = h
lt_unsigned (fin false m e) (fin true n d) p h = absurd h
lt_unsigned (fin false m e) (fin false n d) p h = tt

larger_unsigned : (x y : Float) → T (unsigned x) → T (unsigned (larger x y))
unfolding larger
larger_unsigned x y p = go (lt x y) (λ h. lt_unsigned x y p h)
  where
    go : (b : Bool) → (T b → T (unsigned y)) → T (unsigned (cond b y x))
    go true f = f tt
    go false f = p

-- `max` passes over NaN, so the scale is a number
largest_unsigned : (xs : List Float) → T (unsigned (largest xs))
unfolding largest of_bits
largest_unsigned xs = go xs zeroᶠ tt
  where
    go : (xs : List Float) (s : Float) → T (unsigned s) → T (unsigned (foldl (λ s x. larger s (magnitude x)) s xs))
    go [] s p = p
    go (x ∷ xs) s p = go xs (larger s (magnitude x)) (larger_unsigned s (magnitude x) p)

-- and so is the tolerance
times_unsigned : (m : ℕ) (e : ℤ) (y : Float) → T (unsigned y) → T (unsigned (fin false (suc m) e *ᶠ y))
unfolding mul
times_unsigned m e nan p = absurd p
times_unsigned m e (inf true) p = absurd p
times_unsigned m e (inf false) p = subst (λ (b : Bool). T (unsigned (cond b nan (inf false)))) (sym (eqb-suc-zero m)) tt
times_unsigned m e (fin true n d) p = absurd p
times_unsigned m e (fin false n d) p = round_unsigned binary64 (suc m * up e * (n * up d)) (down e * down d)

pub tolerance_unsigned : (xs : List Float) → T (unsigned (pivot_tol *ᶠ larger (largest xs) oneᶠ))
unfolding of_bits
tolerance_unsigned xs = times_unsigned _ _ (larger (largest xs) oneᶠ) (larger_unsigned (largest xs) oneᶠ (largest_unsigned xs))

-- ---- a number that passes the test of a pivot is finite and above zero

under_zero : (a b : ℕ) → T (not (ltb 0 (a + b) || (eqb a b && (false || eqb a 0)))) → ⊥
under_zero a b h = go (ltb 0 (a + b)) (nltb→le 0 (a + b)) h
  where
    left : (x y : ℕ) → x + y ≤ 0 → x ≡ 0
    left x y u = omega arith

    right : (x y : ℕ) → x + y ≤ 0 → y ≡ 0
    right x y u = omega arith

    go : (c : Bool) → (T (not c) → a + b ≤ 0) → T (not (c || (eqb a b && (false || eqb a 0)))) → ⊥
    go true f u = u
    go false f u = subst (λ (x : ℕ). T (not (eqb x 0 && (false || eqb x 0)))) (left a b (f tt)) (subst (λ (y : ℕ). T (not (eqb a y && (false || eqb a 0)))) (right a b (f tt)) u)

at_zero : (a b : ℕ) → a ≡ 0 → T (not (ltb a b || (eqb a b && (true || eqb a 0)))) → ⊥
at_zero a b e h = go (ltb a b) (nltb→le a b) h
  where
    level : (x y : ℕ) → x ≡ 0 → y ≤ x → y ≡ 0
    level x y u v = omega arith

    go : (c : Bool) → (T (not c) → b ≤ a) → T (not (c || (eqb a b && (true || eqb a 0)))) → ⊥
    go true f u = u
    go false f u = subst (λ (x : ℕ). T (not (eqb x 0 && (true || eqb x 0)))) e (subst (λ (y : ℕ). T (not (eqb a y && (true || eqb a 0)))) (level a b e (f tt)) u)

pub above_positive : (tol x : Float) → T (unsigned tol) → T (above tol x) → T (positive x)
unfolding above le lt eq
above_positive tol nan p h = absurd h
above_positive tol (inf s) p h = absurd h
above_positive nan (fin s m e) p h = absurd p
above_positive (inf true) (fin s m e) p h = absurd p
above_positive (inf false) (fin s m e) p h = absurd h
above_positive (fin true n d) (fin s m e) p h = absurd p
above_positive (fin false n d) (fin true m e) p h = absurd (under_zero (m * up e * down d) (n * up d * down e) h)
above_positive (fin false n d) (fin false zero e) p h = absurd (at_zero (0 * up e * down d) (n * up d * down e) (nil (up e) (down d)) h)
above_positive (fin false n d) (fin false (suc m) e) p h = lt→ltb 0 (suc m) (zero-lt-suc m)

pub above_zero : (x : Float) → T (positive x) → T (lt zeroᶠ x)
unfolding lt of_bits
above_zero nan p = absurd p
above_zero (inf s) p = absurd p
above_zero (fin true m e) p = absurd p
above_zero (fin false m e) p =
    lt→ltb (0 * 1 * down e) (m * up e * 1)
    (subst (λ (x : ℕ). x < m * up e * 1) (sym (nil 1 (down e))) (mul-pos (mul-pos (ltb→lt 0 m p) (up_pos e)) (zero-lt-suc 0)))

-- ---- sums and differences

pub reduced_finite : (x : Float) (ys : List Float) → Finite (reduced x ys) → Finite x × Each Finite ys
unfolding reduced
reduced_finite x [] h = (h, none)
reduced_finite x (y ∷ ys) h =
    let r = reduced_finite (x -ᶠ y) ys h in
    let s = sub_finite binary64 x y r.0 in
    (s.0, more s.1 r.1)

pub reduced_fits : (x : Float) (ys : List Float) → T (fits binary64 x) → T (fits binary64 (reduced x ys))
unfolding reduced
reduced_fits x [] p = p
reduced_fits x (y ∷ ys) p = reduced_fits (x -ᶠ y) ys (sub-fits binary64 x y)

pub total_fits : (xs : List Float) → T (fits binary64 (total xs))
unfolding total
total_fits xs = go xs zeroᶠ zero_fits
  where
    go : (xs : List Float) (s : Float) → T (fits binary64 s) → T (fits binary64 (foldl (λ s x. s +ᶠ x) s xs))
    go [] s p = p
    go (x ∷ xs) s p = go xs (s +ᶠ x) (add-fits binary64 s x)

-- ---- THE THEOREM: an accepted factor is finite, with a diagonal above zero

pub finite_factor : (place : ℕ → ℕ → ℕ) (a : ℕ → ℕ → Float) (tol : Float) (n : ℕ) (l : List Float) → T (unsigned tol) → ((i : ℕ) → i < n → T (fits binary64 (a i i)))
    → Rows place a tol n l → FiniteFactor place n l
unfolding above rest products
finite_factor place a tol n l p held r = record { real = λ i j h g. at i j h (eq-or-lt_of_le g); positive = λ i h. above_zero (entry place l i i) (root_is i h) }
  where
    root_is : (i : ℕ) → i < n → T (positive (entry place l i i))
    root_is i h =
        subst (λ (x : Float). T (positive x)) (sym (r.diagonal i h))
        (root_positive binary64 (rest place a l i i) (reduced_fits (a i i) (products place l i i) (held i h)) (above_positive tol (rest place a l i i) p (r.pivot i h)))

    row_finite : (i : ℕ) → i < n → Each Finite (products place l i i)
    row_finite i h = (reduced_finite (a i i) (products place l i i) (and_l (finite (rest place a l i i)) (not (le (rest place a l i i) tol)) (r.pivot i h))).1

    at : (i j : ℕ) → i < n → (j ≡ i) ⊎ (j < i) → Finite (entry place l i j)
    at i j h (inl e) = subst (λ (x : ℕ). Finite (entry place l i x)) (sym e) (positive-finite (entry place l i i) (root_is i h))
    at i j h (inr g) = (mul_finite binary64 (entry place l i j) (entry place l i j) (tab_each (λ k. entry place l i k *ᶠ entry place l i k) i j (row_finite i h) g)).0
