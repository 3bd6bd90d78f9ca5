-- The call's answers, from what the code has at each return.
use Rattle.std.specs.Prelude.{Err, Ok, Result}
use Prim.Native.Nat.{ℕ, zero, suc, ◌*◌, ◌<◌, ◌≤◌}
use mathlib.Core.Path.{◌≡◌, refl, ap, sym, ◌∙◌}
use mathlib.Core.Bool.{Bool, true, false, ◌&&◌}
use mathlib.Core.List.{List, ◌++◌}
use mathlib.Core.Logic.{◌⊎◌, ⊎_elim}
use borrow.Author.Tests.{le-leb, lt-leb}
use Rattle.definitions.specs.Setup.{max_coarse}
use native.Mathlib.Omega.{arith}
use lib.ListN.{length, set, take, drop, replicate, length-replicate}
use lib.Seq.{length_front}
use lib.Ieee.{Float}
use lib.Dec.{leb}
use Rattle.definitions.specs.Lists.{padded}
use Rattle.laws.proofs.Squares.{take_zeros, drop_zeros}
use Rattle.definitions.specs.Numbers.{◌*ᶠ◌, zeroᶠ, oneᶠ, pivot_tol, larger, largest, usable, above, rootᶠ}
use Rattle.definitions.specs.Refusal.{Outcome, refused, done, require, ◌>>=◌, result_left, keeps_all, cause_of}
use Rattle.definitions.specs.Factor.{factor_rows, below_diagonal, rest}
use Rattle.definitions.specs.Coarse.{packed, packed_length, entry_in, coarse_factor}
use Rattle.definitions.specs.Answers.{factor_answer}
use Rattle.definitions.specs.declared.Refusal.{Refusal}
use Rattle.definitions.specs.declared.Refusal.TheVariants.{CoarseTooLarge, CoarseListTooShort, CoarsePivot, CoarseScale}
use Rattle.laws.proofs.CoarseChecks.{large, short, fit}
use Rattle.causes.proofs.Left.{left_done, left_cleared}
use Rattle.coarse_factor.specs.Calls.{outcome_of, coarse_factor_call}

-- ---- 23 and 24

pub coarse_on : (c : ℕ) (m : List Float) (s : Float) → s ≡ largest m → usable s ≡ true
    → coarse_factor c m ≡ factor_rows packed (λ i. CoarsePivot i) (entry_in m c) (pivot_tol *ᶠ larger s oneᶠ) c 0 (replicate (packed_length c) zeroᶠ)
unfolding coarse_factor require ◌>>=◌
coarse_on c m s e u = rw (← e, u)

pub coarse_off : (c : ℕ) (m : List Float) (s : Float) → s ≡ largest m → usable s ≡ false → coarse_factor c m ≡ refused CoarseScale
unfolding coarse_factor require ◌>>=◌
coarse_off c m s e u = rw (← e, u)

-- a pivot's cause leaves zeros
pub pivot_keeps : (i : ℕ) → keeps_all (CoarsePivot i) ≡ false
unfolding keeps_all cause_of
pivot_keeps i = refl

refused_same : (r q : Refusal) → ◌≡◌ {A = Outcome (List Float)} (refused q) (refused r) → q ≡ r
refused_same r q e = cc

done_refused : (l : List Float) (r : Refusal) → ◌≡◌ {A = Outcome (List Float)} (done l) (refused r) → ⊥
done_refused l r e = let z : ◌≡◌ {A = ℕ} 0 1 = cc in omega arith

pub pivot_clears : (a : ℕ → ℕ → Float) (tol : Float) (n i : ℕ) (l : List Float) (r : Refusal) → factor_rows packed (λ i. CoarsePivot i) a tol n i l ≡ refused r → keeps_all r ≡ false
unfolding factor_rows
pivot_clears a tol zero i l r e = absurd (done_refused l r e)
pivot_clears a tol (suc n) i l r e = step (above tol (rest packed a (below_diagonal packed a i i l) i i)) refl (λ w. pivot_clears a tol n (suc i) w r)
  where
    step : (b : Bool) → above tol (rest packed a (below_diagonal packed a i i l) i i) ≡ b
        → ((w : List Float) → factor_rows packed (λ i. CoarsePivot i) a tol n (suc i) w ≡ refused r → keeps_all r ≡ false) → keeps_all r ≡ false
    step true q ih = ih (set (below_diagonal packed a i i l) (packed i i) (rootᶠ (rest packed a (below_diagonal packed a i i l) i i))) (rw (q, factor_rows) at e)
    step false q ih = rw (← refused_same r (CoarsePivot i) (rw (q, factor_rows) at e)) (pivot_keeps i)

answer_done : (s : Float) (o : Outcome (List Float)) (l : List Float) → o ≡ done l → Ok s ≡ factor_answer s o
unfolding factor_answer
answer_done s o l e = rw e

answer_refused : (s : Float) (o : Outcome (List Float)) (r : Refusal) → o ≡ refused r → Err r ≡ factor_answer s o
unfolding factor_answer
answer_refused s o r e = rw e

-- a list over zeros, at its front
pub over_zeros : (l z w : List Float) (p : ℕ) → p ≤ length w → z ≡ replicate (length w) zeroᶠ → length l ≡ p → l ++ drop p z ≡ padded zeroᶠ (length w) l
unfolding padded
over_zeros l z w p h ez el = rw (ez, el, drop_zeros p (length w) zeroᶠ h)

module _ (c : ℕ) (m w z l : List Float) (s t : Float) (a : (Result (Unit {0}) Refusal)) (es : s ≡ largest m) (us : usable s ≡ true) (et : t ≡ larger s oneᶠ) (h : packed_length c ≤ length w)
    (ez : z ≡ replicate (length w) zeroᶠ) (el : length l ≡ length (take (packed_length c) z))
    (ef : outcome_of a l ≡ factor_rows packed (λ i. CoarsePivot i) (entry_in m c) (pivot_tol *ᶠ t) c 0 (take (packed_length c) z)) where
  front : take (packed_length c) z ≡ replicate (packed_length c) zeroᶠ
  front = rw ez (take_zeros (packed_length c) (length w) zeroᶠ h)

  outcome : outcome_of a l ≡ coarse_factor c m
  outcome = ef ∙ rw (front, et) (sym (coarse_on c m s es us))

  pub fitting_done : a ≡ (Ok tt) → (Ok s ≡ factor_answer (largest m) (coarse_factor c m)) × (l ++ drop (packed_length c) z ≡ result_left zeroᶠ (coarse_factor c m) w)
  unfolding outcome_of
  fitting_done e =
      let o : coarse_factor c m ≡ done l = sym outcome ∙ rw e in (
        ap Ok es ∙ answer_done (largest m) (coarse_factor c m) l o,
        over_zeros l z w (packed_length c) h ez (el ∙ rw front (length-replicate (packed_length c) zeroᶠ)) ∙ sym (left_done zeroᶠ (coarse_factor c m) w l o),
      )

  pub fitting_pivot : (r : Refusal) (y : List Float) → a ≡ Err r → y ≡ replicate (length (l ++ drop (packed_length c) z)) zeroᶠ
      → (Err r ≡ factor_answer (largest m) (coarse_factor c m)) × (y ≡ result_left zeroᶠ (coarse_factor c m) w)
  unfolding outcome_of
  fitting_pivot r y e ey =
      let ek : length (l ++ drop (packed_length c) z) ≡ length w = length_front z l (packed_length c) el ∙ ap length ez ∙ length-replicate (length w) zeroᶠ in
      let o : coarse_factor c m ≡ refused r = sym outcome ∙ rw e in (
        answer_refused (largest m) (coarse_factor c m) r o,
        ey ∙ rw ek (sym (left_cleared zeroᶠ (coarse_factor c m) w r o (pivot_clears (entry_in m c) (pivot_tol *ᶠ larger s oneᶠ) c 0 (replicate (packed_length c) zeroᶠ) r (sym (coarse_on c m s es us) ∙ o)))),
      )

pub fitting_scale : (c : ℕ) (m w z : List Float) (s : Float) → s ≡ largest m → usable s ≡ false → z ≡ replicate (length w) zeroᶠ
    → (Err CoarseScale ≡ factor_answer (largest m) (coarse_factor c m)) × (z ≡ result_left zeroᶠ (coarse_factor c m) w)
unfolding keeps_all cause_of
fitting_scale c m w z s es us ez =
    let o = coarse_off c m s es us in
    (answer_refused (largest m) (coarse_factor c m) CoarseScale o, ez ∙ sym (left_cleared zeroᶠ (coarse_factor c m) w CoarseScale o refl))

-- ---- the call's checks: 17, 18

module _ (c : ℕ) (m : List Float) (n : ℕ) where
  pub call_large : max_coarse < c → coarse_factor_call c m n ≡ refused (CoarseTooLarge c)
  unfolding coarse_factor_call
  call_large h = large c (leb (c * c) (length m) && leb (packed_length c) n) (coarse_factor c (take (c * c) m)) h

  pub call_short : c ≤ max_coarse → (length m < c * c) ⊎ ((c * c ≤ length m) × (n < packed_length c)) → coarse_factor_call c m n ≡ refused (CoarseListTooShort c)
  unfolding coarse_factor_call
  call_short h = ⊎_elim
      (λ k. short c (leb (c * c) (length m) && leb (packed_length c) n) (coarse_factor c (take (c * c) m)) h (rw (lt-leb (c * c) (length m) k)))
      (λ k. short c (leb (c * c) (length m) && leb (packed_length c) n) (coarse_factor c (take (c * c) m)) h (rw (le-leb (c * c) (length m) k.0, lt-leb (packed_length c) n k.1)))

  pub call_fits : c ≤ max_coarse → c * c ≤ length m → packed_length c ≤ n → coarse_factor_call c m n ≡ coarse_factor c (take (c * c) m)
  unfolding coarse_factor_call
  call_fits h k l = fit c (leb (c * c) (length m) && leb (packed_length c) n) (coarse_factor c (take (c * c) m)) h (rw (le-leb (c * c) (length m) k, le-leb (packed_length c) n l))

pub answer_cleared : (s : Float) (o : Outcome (List Float)) (w z : List Float) (r : Refusal) → o ≡ refused r → keeps_all r ≡ false → z ≡ replicate (length w) zeroᶠ → (Err r ≡ factor_answer s o) × (z ≡ result_left zeroᶠ o w)
answer_cleared s o w z r e k ez = (answer_refused s o r e, ez ∙ sym (left_cleared zeroᶠ o w r e k))
