-- Where a factor is regular, the forward solve of a unit vector leaves +0 before its one, and may begin anywhere there.
use Prim.Native.Nat.{ℕ, zero, suc, ◌+◌, ◌-◌, ◌<◌, ◌≤◌}
use mathlib.Core.Path.{◌≡◌, refl, ap, sym, ◌∙◌}
use mathlib.Core.Logic.{inl, inr}
use mathlib.Core.Bool.{Bool, true, false, cond}
use mathlib.Core.List.{List, [], ◌∷◌, ◌++◌}
use native.Mathlib.Omega.{arith}
use native.Mathlib.Nat.{add-zero, add-suc}
use native.Mathlib.Decide.{dec_lt}
use lib.Dec.{T, eqb}
use lib.ListN.{length, get_or, take, drop, replicate, length-replicate, get_or-replicate, take-append-drop, get_or-append}
use lib.Seq.{take-suc, get_or-take}
use lib.Ieee.{Float, nan, binary64, lt}
use lib.Ieee.Fits.{mul-fits}
use borrow.Author.Tests.{ne_eqb}
use Rattle.definitions.specs.Lists.{tab}
use Rattle.definitions.specs.Numbers.{◌-ᶠ◌, ◌*ᶠ◌, ◌/ᶠ◌, zeroᶠ, oneᶠ, summed}
use Rattle.definitions.specs.Coarse.{packed, packed_entry, packed_length, packed_forward, unit}
use Rattle.laws.proofs.Lists.{get_d_tab, length_tab}
use Rattle.laws.proofs.Same.{Zero, Finite, mul_zero_r}
use Rattle.laws.proofs.Near.{zero_zero}
use Rattle.laws.specs.Packed.{ahead}
use Rattle.laws.proofs.Packed.{tri_row, length_forward, forward_at}
use Rattle.coarse_inverse.specs.Lanes.{lane, Starts, LanesStart, Regular, Units}
use Rattle.coarse_inverse.proofs.Zeros.{Flag, sub_plus, div_plus, summed_zeros, summed_after, flag_less}

-- a number once solved stays
forward_prefix : (l b : List Float) (j n k : ℕ) → k < j → get_or (packed_forward l b (j + n)) k nan ≡ get_or (packed_forward l b j) k nan
unfolding packed_forward
forward_prefix l b j zero k h = rw (add-zero j)
forward_prefix l b j (suc n) k h = rw (add-suc j n) (get_or-append (packed_forward l b (j + n)) _ nan k (rw (length_forward l b (j + n)) (omega arith)) ∙ forward_prefix l b j n k h)

module _ (l : List Float) (c first : ℕ) (b : List Float) (n : length b ≡ c) (h : first ≤ c) (long : length l ≡ packed_length c) (ok : 0 < first → Regular c l)
    (zeros : (k : ℕ) → k < first → get_or b k nan ≡ zeroᶠ) (flags : (k : ℕ) → k < c → Flag (get_or b k nan)) where
  entry_finite : (i j : ℕ) → 0 < first → i < c → j ≤ i → Finite (packed_entry l i j)
  entry_finite i j p q r = rw ((ok p).real (packed i j) (omega (arith, tri_row i c q))) tt

  -- a product with a number before `first`
  term_zero : (y : List Float) (i k : ℕ) → i < c → k ≤ i → k < first → get_or y k nan ≡ zeroᶠ → Zero (packed_entry l i k *ᶠ get_or y k nan)
  term_zero y i k q r p e = rw e (mul_zero_r binary64 (packed_entry l i k) zeroᶠ (entry_finite i k (omega arith) q r) zero_zero)

  front : (i : ℕ) → i ≤ first → packed_forward l b i ≡ take i b
  unfolding packed_forward
  front zero q = refl
  front (suc i) q = rw (front i (omega arith), take-suc b i nan (omega arith)) (ap (λ v. take i b ++ (v ∷ [])) value)
    where
      p : T (lt zeroᶠ (packed_entry l i i))
      p = rw ((ok (omega arith)).positive i (omega arith)) tt

      value : (get_or b i nan -ᶠ summed (tab (λ k. packed_entry l i k *ᶠ get_or (take i b) k nan) i)) /ᶠ packed_entry l i i ≡ get_or b i nan
      value =
          rw (
            zeros i q,
            sub_plus (summed (tab (λ k. packed_entry l i k *ᶠ get_or (take i b) k nan) i))
                (summed_zeros (λ k. packed_entry l i k *ᶠ get_or (take i b) k nan) i (λ k r. term_zero (take i b) i k (omega arith) (omega arith) (omega arith) (get_or-take i b k nan r ∙ zeros k (omega arith)))),
          )
          (div_plus (packed_entry l i i) (entry_finite i i (omega arith) (omega arith) (omega arith)) p)

  solved_zero : (i k : ℕ) → first ≤ i → k < first → get_or (ahead l b i) k nan ≡ zeroᶠ
  solved_zero i k p q =
      let e : first + (i - first) ≡ i = omega arith in
      get_or-append (packed_forward l b i) (drop i b) nan k (rw (length_forward l b i) (omega arith))
      ∙ (rw e at (forward_prefix l b first (i - first) k q)) ∙ rw (front first (omega arith)) (get_or-take first b k nan q) ∙ zeros k q

  pub starts : Starts l c first b
  starts =
      record {
        front = rw (front first (omega arith)) (sym (take-append-drop first b));
        less = λ i p q. flag_less (get_or (ahead l b i) i nan) _ _ (rw (forward_at l b (ahead l b i) i (rw n q) refl) (flags i q))
            (summed_after (λ k. packed_entry l i k *ᶠ get_or (ahead l b i) k nan) first i p (λ k r. term_zero (ahead l b i) i k q (omega arith) r (solved_zero i k p r)) (λ k. mul-fits binary64 _ _));
      }

flag_of : (t : Bool) → Flag (cond t oneᶠ zeroᶠ)
flag_of true = inr refl
flag_of false = inl refl

pub units_start : (m c i n : ℕ) (l : List Float) (w : List (List Float)) (first : ℕ) → i ≤ c → length l ≡ packed_length c → first ≤ i → (0 < first → Regular c l) → Units m c i n w → LanesStart m c l first w
unfolding unit
units_start m c i n l w first hi long h ok u r q = step (dec_lt r n)
  where
    at : (j k : ℕ) → k < c → get_or (unit c j) k nan ≡ cond (eqb k j) oneᶠ zeroᶠ
    at j k p = get_d_tab (λ k. cond (eqb k j) oneᶠ zeroᶠ) c k nan p

    step : Dec (r < n) → Starts l c first (lane w r)
    step (yes p) =
        rw (u.made r p) (starts l c first (unit c (i + r)) (length_tab (λ k. cond (eqb k (i + r)) oneᶠ zeroᶠ) c) (omega arith) long ok
        (λ k b. at (i + r) k (omega arith) ∙ rw (ne_eqb k (i + r) (λ e. omega arith))) (λ k b. rw (at (i + r) k b) (flag_of (eqb k (i + r)))))
    step (no p) =
        rw (u.rest r (omega arith) q) (starts l c first (replicate c zeroᶠ) (length-replicate c zeroᶠ) (omega arith) long ok
        (λ k b. get_or-replicate c k zeroᶠ nan (omega arith)) (λ k b. inl (get_or-replicate c k zeroᶠ nan b)))
