-- The numbers of two runs side by side: `Near` ones are the same wherever both are finite, and a `Vanishing` one is a zero wherever it is finite. Every operation keeps both,
-- with no side condition, because a finite result has finite operands. So nothing has to be known of the numbers on the way, only of the last ones.
use mathlib.Core.Path.{◌≡◌, sym, ap, subst}
use mathlib.Core.Logic.{inl, inr}
use mathlib.Core.List.{List, [], ◌∷◌, ◌++◌, map, flat_map, foldl}
use Prim.Native.Nat.{ℕ, zero, suc, ◌<◌}
use native.Mathlib.Nat.{zero-lt-suc}
use lib.Dec.{T}
use lib.Ieee.{Float, nan, inf, fin, binary64, div, eq, fits, of_bits}
use lib.Ieee.Fits.{neg-fits, add-fits, sub-fits, mul-fits, div-fits}
use lib.Ieee.Bits.{of_bits-fits}
use Rattle.definitions.specs.Lists.{tab}
use Rattle.definitions.specs.Numbers.{◌+ᶠ◌, ◌-ᶠ◌, ◌*ᶠ◌, ◌/ᶠ◌, zeroᶠ, minus_zero, total, summed, reduced}
use Rattle.laws.proofs.Lists.{Each, none, more, up_lt}
use Rattle.laws.proofs.Same.{Zero, Finite, Same, same_refl, add_same, add_zeros, sub_same, sub_zeros, mul_same, mul_zero_l, mul_zero_r, div_zero, neg_zero, add_finite, sub_finite, mul_finite, div_finite, eq→same, same→eq}

-- the same number wherever both are finite; the first is an f64
pub record Near (x y : Float) : Type 0 where
  pub held : T (fits binary64 x)
  pub same : Finite x → Finite y → Same x y

-- a zero wherever it is finite
pub record Vanishing (x : Float) : Type 0 where
  pub gone : Finite x → Zero x

-- ---- where they come from, and where they lead

pub near_refl : (x : Float) → T (fits binary64 x) → Near x x
near_refl x p = record { held = p; same = λ h k. same_refl x h }

pub near_of_eq : (x y : Float) → T (fits binary64 x) → T (fits binary64 y) → T (eq x y) → Near x y
near_of_eq x y p q e = record { held = p; same = λ h k. eq→same binary64 x y p q h e }

pub near_to_eq : (x y : Float) → Near x y → Finite x → Finite y → T (eq x y)
near_to_eq x y n h k = same→eq x y (n.same h k)

-- ---- the operations

module _ (x x' y y' : Float) where
  pub near_add : Near x x' → Near y y' → Near (x +ᶠ y) (x' +ᶠ y')
  near_add p q = record {
    held = add-fits binary64 x y;
    same = λ h k.
        add_same binary64 x x' y y' p.held q.held (p.same (add_finite binary64 x y h).0 (add_finite binary64 x' y' k).0) (q.same (add_finite binary64 x y h).1 (add_finite binary64 x' y' k).1) h;
  }

  pub near_sub : Near x x' → Near y y' → Near (x -ᶠ y) (x' -ᶠ y')
  near_sub p q = record {
    held = sub-fits binary64 x y;
    same = λ h k.
        sub_same binary64 x x' y y' p.held q.held (p.same (sub_finite binary64 x y h).0 (sub_finite binary64 x' y' k).0) (q.same (sub_finite binary64 x y h).1 (sub_finite binary64 x' y' k).1) h;
  }

module _ (w x x' : Float) where
  -- by one factor
  pub near_scale : Near x x' → Near (w *ᶠ x) (w *ᶠ x')
  near_scale p = record {
    held = mul-fits binary64 w x;
    same = λ h k.
        mul_same binary64 w w x x' (same_refl w (mul_finite binary64 w x h).0) (p.same (mul_finite binary64 w x h).1 (mul_finite binary64 w x' k).1) h;
  }

  -- by a zero, whatever the other factors are
  pub near_lost : Vanishing w → Near (w *ᶠ x) (w *ᶠ x')
  near_lost v = record {
    held = mul-fits binary64 w x;
    same = λ h k.
        let a = mul_finite binary64 w x h in
        let b = mul_finite binary64 w x' k in
        inr (mul_zero_l binary64 w x (v.gone a.0) a.1, mul_zero_l binary64 w x' (v.gone b.0) b.1);
  }

-- a zero over anything is a zero, where it is finite
zero_over : (x d : Float) → Zero x → Finite (x /ᶠ d) → Zero (x /ᶠ d)
unfolding div
zero_over (fin s zero e) nan z h = absurd h
zero_over (fin s zero e) (inf t) z h = tt
zero_over (fin s zero e) (fin t zero d) z h = absurd h
zero_over (fin s zero e) (fin t (suc n) d) z h = div_zero binary64 (fin s zero e) (fin t (suc n) d) tt (tt, tt)
zero_over nan d z h = elim z [ ]
zero_over (inf _) d z h = elim z [ ]
zero_over (fin s (suc _) e) d z h = elim z [ ]

-- by one divisor, whatever it is
pub near_div : (x x' d : Float) → Near x x' → Near (x /ᶠ d) (x' /ᶠ d)
near_div x x' d p = record { held = div-fits binary64 x d; same = λ h k. go h k (p.same (div_finite binary64 x d h) (div_finite binary64 x' d k)) }
  where
    go : Finite (x /ᶠ d) → Finite (x' /ᶠ d) → Same x x' → Same (x /ᶠ d) (x' /ᶠ d)
    go h k (inl e) = inl (h, ap (λ (z : Float). z /ᶠ d) e.1)
    go h k (inr z) = inr (zero_over x d z.0 h, zero_over x' d z.1 k)

module _ (x y : Float) where
  pub vanish_add : Vanishing x → Vanishing y → Vanishing (x +ᶠ y)
  vanish_add p q = record { gone = λ h. let a = add_finite binary64 x y h in add_zeros binary64 x y (p.gone a.0) (q.gone a.1) }

  pub vanish_sub : Vanishing x → Vanishing y → Vanishing (x -ᶠ y)
  vanish_sub p q = record { gone = λ h. let a = sub_finite binary64 x y h in sub_zeros binary64 x y (p.gone a.0) (q.gone a.1) }

  pub vanish_mul_l : Vanishing x → Vanishing (x *ᶠ y)
  vanish_mul_l p = record { gone = λ h. let a = mul_finite binary64 x y h in mul_zero_l binary64 x y (p.gone a.0) a.1 }

  pub vanish_mul_r : Vanishing y → Vanishing (x *ᶠ y)
  vanish_mul_r p = record { gone = λ h. let a = mul_finite binary64 x y h in mul_zero_r binary64 x y a.0 (p.gone a.1) }

  pub vanish_div : Vanishing x → Vanishing (x /ᶠ y)
  vanish_div p = record { gone = λ h. zero_over x y (p.gone (div_finite binary64 x y h)) h }

pub vanish_zero : (x : Float) → Zero x → Vanishing x
vanish_zero x z = record { gone = λ h. z }

-- ---- the two zeros

pub zero_zero : Zero zeroᶠ
unfolding of_bits
zero_zero = tt

pub minus_zero_lem : Zero minus_zero
minus_zero_lem = neg_zero zeroᶠ zero_zero

pub zero_fits : T (fits binary64 zeroᶠ)
zero_fits = of_bits-fits binary64 0

pub minus_fits : T (fits binary64 minus_zero)
minus_fits = neg-fits binary64 zeroᶠ zero_fits

-- ---- two lists of numbers, pair by pair

pub data Nears : List Float → List Float → Type 0 where
  both_none : Nears [] []
  both_more : {x y : Float} {xs ys : List Float} → Near x y → Nears xs ys → Nears (x ∷ xs) (y ∷ ys)

pub nears_append : {xs ys us vs : List Float} → Nears xs ys → Nears us vs → Nears (xs ++ us) (ys ++ vs)
nears_append both_none k = k
nears_append (both_more h t) k = both_more h (nears_append t k)

pub nears_tab : (f g : ℕ → Float) (n : ℕ) → ((i : ℕ) → i < n → Near (f i) (g i)) → Nears (tab f n) (tab g n)
unfolding tab
nears_tab f g zero h = both_none
nears_tab f g (suc n) h = both_more (h 0 (zero-lt-suc n)) (nears_tab (λ i. f (suc i)) (λ i. g (suc i)) n (λ i l. h (suc i) (up_lt l)))

module _ {A : Type 0} where
  pub nears_map : (f g : A → Float) {xs : List A} → Each (λ x. Near (f x) (g x)) xs → Nears (map f xs) (map g xs)
  nears_map f g none = both_none
  nears_map f g (more h t) = both_more h (nears_map f g t)

  pub nears_flat_map : (f g : A → List Float) {xs : List A} → Each (λ x. Nears (f x) (g x)) xs → Nears (flat_map f xs) (flat_map g xs)
  unfolding flat_map
  nears_flat_map f g none = both_none
  nears_flat_map f g (more h t) = nears_append h (nears_flat_map f g t)

-- ---- a list of numbers that vanish

pub vanish_sums : {s : Float} {xs : List Float} → Vanishing s → Each Vanishing xs → Vanishing (foldl (λ a x. a +ᶠ x) s xs)
vanish_sums p none = p
vanish_sums {s} p (more {x = x} h k) = vanish_sums {s = s +ᶠ x} (vanish_add s x p h) k

pub vanish_summed : {xs : List Float} → Each Vanishing xs → Vanishing (summed xs)
unfolding summed
vanish_summed h = vanish_sums (vanish_zero minus_zero minus_zero_lem) h

pub vanish_reduced : {s : Float} {xs : List Float} → Vanishing s → Each Vanishing xs → Vanishing (reduced s xs)
unfolding reduced
vanish_reduced p none = p
vanish_reduced {s} p (more {x = x} h k) = vanish_reduced {s = s -ᶠ x} (vanish_sub s x p h) k

-- a sum of no terms
pub total_none : (xs : List Float) → xs ≡ [] → Vanishing (total xs)
unfolding total
total_none xs e = subst (λ (ys : List Float). Vanishing (total ys)) (sym e) (vanish_zero zeroᶠ zero_zero)
