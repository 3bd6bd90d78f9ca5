-- Zeros in sums: their sign shows in no difference from +0 or 1, so that products with +0 at the front of a sum may be left out.
use Prim.Native.Nat.{ℕ, zero, suc, ◌+◌, ◌-◌, ◌*◌, ◌^◌, ◌<◌, ◌≤◌}
use mathlib.Core.Path.{◌≡◌, refl, ap, sym, ◌∙◌}
use mathlib.Core.Logic.{◌⊎◌, inl, inr}
use mathlib.Core.Bool.{true, false}
use mathlib.Core.List.{List, foldl, foldl-append}
use native.Mathlib.Omega.{arith}
use native.Mathlib.Nat.{mul-pos, pow-suc, zero-lt-suc, zero-mul}
use lib.Dec.{T, ltb→lt, eqb→eq, eqb-suc-zero}
use lib.IntN.{pos, negsuc}
use lib.Ieee.{Float, nan, inf, fin, binary64, up, down, round, sum, add, sub, neg, div, lt, fits, of_bits}
use lib.Ieee.Fits.{up_pos, down_pos, round-fits}
use lib.Ieee.Bits.{of_bits-fits}
use Rattle.definitions.specs.Lists.{tab}
use Rattle.definitions.specs.Numbers.{◌+ᶠ◌, ◌-ᶠ◌, ◌/ᶠ◌, zeroᶠ, oneᶠ, minus_zero, summed}
use Rattle.laws.proofs.Lists.{Each, none, more, each_tab, tab_append}
use Rattle.laws.proofs.Same.{Zero, Finite, nil, round_zero, add_zeros, add_zero_l, sub_zero_r}
use Rattle.laws.proofs.Near.{minus_zero_lem}
use Rattle.laws.proofs.FiniteFactor.{unsigned, round_unsigned}

-- ---- +0

odd_end : (k : ℕ) → 2 ^ suc k ≡ 1 → ⊥
odd_end k e = let z : 2 ^ k * 2 ≡ 1 = sym (pow-suc 2 k) ∙ e in omega arith

-- the zero with no sign
plus_of : (x : Float) → T (fits binary64 x) → Zero x → T (unsigned x) → x ≡ zeroᶠ
unfolding fits of_bits
plus_of nan p z u = absurd z
plus_of (inf s) p z u = absurd z
plus_of (fin true zero e) p z u = absurd u
plus_of (fin false zero (pos zero)) p z u = refl
plus_of (fin false zero (pos (suc k))) p z u = absurd (odd_end k (let q = eqb→eq (2 ^ suc k * 1) 1 p in omega arith))
plus_of (fin false zero (negsuc k)) p z u = absurd (odd_end k (let q = eqb→eq (1 * 2 ^ suc k) 1 p in omega arith))
plus_of (fin s (suc m) e) p z u = absurd z

round_plus : (c : ℕ) → 0 < c → round binary64 false 0 c ≡ zeroᶠ
round_plus c h = plus_of (round binary64 false 0 c) (round-fits binary64 false 0 c) (round_zero binary64 false c h) (round_unsigned binary64 0 c)

pub sub_plus : (s : Float) → Zero s → zeroᶠ -ᶠ s ≡ zeroᶠ
unfolding sub add neg sum of_bits
sub_plus (fin true zero e) z = rw (nil (up e) 1, nil 1 (down e)) (round_plus (1 * down e) (mul-pos (zero-lt-suc 0) (down_pos e)))
sub_plus (fin false zero e) z = rw (nil (up e) 1, nil 1 (down e)) (round_plus (1 * down e) (mul-pos (zero-lt-suc 0) (down_pos e)))
sub_plus nan z = elim z [ ]
sub_plus (inf _) z = elim z [ ]
sub_plus (fin false (suc _) e) z = elim z [ ]
sub_plus (fin true (suc _) e) z = elim z [ ]

pub div_plus : (p : Float) → Finite p → T (lt zeroᶠ p) → zeroᶠ /ᶠ p ≡ zeroᶠ
unfolding div lt of_bits
div_plus nan f h = absurd f
div_plus (inf s) f h = absurd f
div_plus (fin true n d) f h = absurd h
div_plus (fin false zero d) f h = absurd (let q = ltb→lt (0 * down d) (0 * up d * 1) h in omega arith)
div_plus (fin false (suc n) d) f h = rw (eqb-suc-zero n, zero-mul (down d)) (round_plus (suc n * up d * 1) (mul-pos (mul-pos (zero-lt-suc n) (up_pos d)) (zero-lt-suc 0)))

-- ---- one number, or two zeros

abbrev pub Alike : Float → Float → Type 0
Alike s t = (s ≡ t) ⊎ (Zero s × Zero t)

-- a zero more
zero_add : (s x : Float) → T (fits binary64 x) → Zero s → (s +ᶠ x ≡ x) ⊎ (Zero (s +ᶠ x) × Zero x)
unfolding add
zero_add (fin s zero e) nan p z = inl refl
zero_add (fin s zero e) (inf t) p z = inl refl
zero_add (fin s zero e) (fin t n d) p z = elim (add_zero_l binary64 (fin s zero e) (fin t n d) p z tt) [ inl h ↦ inl h.1 | inr h ↦ inr h ]
zero_add nan _ p z = elim z [ ]
zero_add (inf _) _ p z = elim z [ ]
zero_add (fin s (suc _) e) _ p z = elim z [ ]

alike_add : (s t x : Float) → T (fits binary64 x) → Alike s t → Alike (s +ᶠ x) (t +ᶠ x)
alike_add s t x p (inl e) = inl (ap (λ u. u +ᶠ x) e)
alike_add s t x p (inr z) = both (zero_add s x p z.0) (zero_add t x p z.1)
  where
    both : (s +ᶠ x ≡ x) ⊎ (Zero (s +ᶠ x) × Zero x) → (t +ᶠ x ≡ x) ⊎ (Zero (t +ᶠ x) × Zero x) → Alike (s +ᶠ x) (t +ᶠ x)
    both (inl a) (inl b) = inl (a ∙ sym b)
    both (inl a) (inr b) = inr (rw a b.1, b.0)
    both (inr a) (inl b) = inr (a.0, rw b a.1)
    both (inr a) (inr b) = inr (a.0, b.0)

alike_sums : {s t : Float} {xs : List Float} → Each (λ x. T (fits binary64 x)) xs → Alike s t → Alike (foldl (λ a x. a +ᶠ x) s xs) (foldl (λ a x. a +ᶠ x) t xs)
alike_sums none a = a
alike_sums {s} {t} (more {x = x} p k) a = alike_sums {s = s +ᶠ x} {t = t +ᶠ x} k (alike_add s t x p a)

zero_sums : (s : Float) {xs : List Float} → Each Zero xs → Zero s → Zero (foldl (λ a x. a +ᶠ x) s xs)
zero_sums s none z = z
zero_sums s (more {x = x} p k) z = zero_sums (s +ᶠ x) k (add_zeros binary64 s x z p)

pub summed_zeros : (f : ℕ → Float) (n : ℕ) → ((k : ℕ) → k < n → Zero (f k)) → Zero (summed (tab f n))
unfolding summed
summed_zeros f n h = zero_sums minus_zero (each_tab f n h) minus_zero_lem

-- zeros at the front of a sum left out
pub summed_after : (f : ℕ → Float) (from i : ℕ) → from ≤ i → ((k : ℕ) → k < from → Zero (f k)) → ((k : ℕ) → T (fits binary64 (f k))) → Alike (summed (tab (λ k. f (from + k)) (i - from))) (summed (tab f i))
unfolding summed
summed_after f from i h z p = let e : from + (i - from) ≡ i = omega arith in rw e at (after (i - from))
  where
    after : (n : ℕ) → Alike (summed (tab (λ k. f (from + k)) n)) (summed (tab f (from + n)))
    after n =
        rw (tab_append f from n, foldl-append (λ a x. a +ᶠ x)) (alike_sums (each_tab (λ k. f (from + k)) n (λ k _. p (from + k))) (inr (minus_zero_lem, summed_zeros f from z)))

-- ---- a difference from +0 or 1

abbrev pub Flag : Float → Type 0
Flag x = (x ≡ zeroᶠ) ⊎ (x ≡ oneᶠ)

one_less : (s : Float) → Zero s → oneᶠ -ᶠ s ≡ oneᶠ
unfolding of_bits
one_less s z = elim (sub_zero_r binary64 oneᶠ s (of_bits-fits binary64 0x3ff0_0000_0000_0000) tt z) [ inl h ↦ h.1 | inr h ↦ absurd h.1 ]

pub flag_less : (x s t : Float) → Flag x → Alike s t → x -ᶠ s ≡ x -ᶠ t
flag_less x s t b (inl e) = ap (λ u. x -ᶠ u) e
flag_less x s t (inl e) (inr z) = rw (e, sub_plus s z.0, sub_plus t z.1)
flag_less x s t (inr e) (inr z) = rw (e, one_less s z.0, one_less t z.1)
