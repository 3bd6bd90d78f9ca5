-- The calls' own checks, one after the other, and what they leave.
use Rattle.std.specs.Prelude.{Err, Ok, Result}
use Prim.Native.Nat.{ℕ, zero, suc, ◌+◌, ◌-◌, ◌*◌, ◌<◌, ◌≤◌}
use mathlib.Core.Path.{◌≡◌, refl, ap, sym, ◌∙◌}
use mathlib.Core.Bool.{true, false}
use mathlib.Core.List.{List, ◌∷◌, ◌++◌, append-nil}
use native.Mathlib.Omega.{arith}
use native.Mathlib.Nat.{zero-add}
use lib.ListN.{length, take, drop, replicate}
use lib.Seq.{take_at, drop_at}
use lib.Ieee.{Float}
use borrow.Author.Tests.{eq-eqb, ne_eqb, le-leb, lt-leb}
use Rattle.definitions.specs.Lists.{tab, padded}
use Rattle.definitions.specs.Numbers.{◌*ᶠ◌, zeroᶠ, summed}
use Rattle.definitions.specs.Refusal.{refused, done, require, ◌>>=◌, keeps_all, result_left, work_left, cause_of}
use Rattle.definitions.specs.Answers.{answer_of}
use Rattle.definitions.specs.Coarse.{coarse_length, coarse_solve, entry_in}
use Rattle.definitions.specs.Fits.{setup_fits}
use Rattle.definitions.specs.Apply.{applied, apply_call, apply_left, apply_work_left}
use Rattle.definitions.specs.declared.Setup.{Setup}
use Rattle.definitions.specs.declared.Refusal.{Refusal}
use Rattle.definitions.specs.declared.Refusal.TheVariants.{ListTooShort, WrongLength, SetupMisfit}
use Rattle.definitions.specs.declared.TwoLevelCoarseApplyPolicy.{TwoLevelCoarseApplyPolicy}
use Rattle.definitions.specs.declared.TwoLevelCoarseApplyPolicy.TheVariants.{Auto, FactorSolve, ExplicitInverse}
use Rattle.coarse_solve.specs.Calls.{coarse_solve_call}
use Rattle.laws.proofs.Lists.{length_tab}
use Rattle.laws.proofs.Packed.{length_solve}

-- ---- the coarse solve

pub solve_done : (policy : TwoLevelCoarseApplyPolicy) (c : ℕ) (part work : List Float) → c ≤ 2048 → coarse_length policy c ≤ length part → 2 * c ≤ length work
    → coarse_solve_call policy c part work ≡ done (coarse_solve policy c (take (coarse_length policy c) part) (take c work))
unfolding coarse_solve_call require ◌>>=◌
solve_done policy c part work h k l = rw (le-leb c 2048 h, le-leb (coarse_length policy c) (length part) k, le-leb (2 * c) (length work) l)

pub solution_length : (policy : TwoLevelCoarseApplyPolicy) (c : ℕ) (part b : List Float) → length (coarse_solve policy c part b) ≡ c
unfolding coarse_solve
solution_length Auto c part b = length_solve c part b
solution_length FactorSolve c part b = length_solve c part b
solution_length ExplicitInverse c part b = length_tab (λ i. summed (tab (λ j. entry_in part c i j *ᶠ _) c)) c

-- ---- a list with zeros after it

zeros_join : (a b : ℕ) → replicate a zeroᶠ ++ replicate b zeroᶠ ≡ replicate (a + b) zeroᶠ
zeros_join zero b = rw zero-add
zeros_join (suc a) b = let z : suc a + b ≡ suc (a + b) = omega arith in rw z (ap (λ l. zeroᶠ ∷ l) (zeros_join a b))

pub padded_whole : (xs : List Float) (n : ℕ) → length xs ≡ n → padded zeroᶠ n xs ≡ xs
unfolding padded
padded_whole xs n l = let z : n - n ≡ 0 = omega arith in rw (l, z, append-nil)

module _ (n c : ℕ) (sol w : List Float) (l : length sol ≡ c) (h : c ≤ n) (e : w ≡ padded zeroᶠ n sol) where
  pub padded_front : take c w ≡ sol
  unfolding padded
  padded_front = rw e (take_at sol (replicate (n - length sol) zeroᶠ) c l)

  padded_after : drop c w ≡ replicate (n - c) zeroᶠ
  unfolding padded
  padded_after = rw e (drop_at sol (replicate (n - length sol) zeroᶠ) c l ∙ rw l)

  -- its front cleared, too
  pub padded_cleared : replicate (length (take c w)) zeroᶠ ++ drop c w ≡ replicate n zeroᶠ
  padded_cleared = let z : c + (n - c) ≡ n = omega arith in rw (padded_front, l, padded_after) (zeros_join c (n - c) ∙ rw z)

-- ---- the checks of apply, one after the other: the answer, and what the two lists hold

applied_length : (s : Setup) (ints : List ℕ) (floats r : List Float) → length (applied s ints floats r) ≡ s.rows
unfolding applied
applied_length s ints floats r = length_tab _ s.rows

module _ (s : Setup) (ints : List ℕ) (floats r lent work : List Float) where
  abbrev pub Left : Result (Unit {0}) Refusal → List Float → List Float → Type 0
  Left x z w =
      (x ≡ answer_of (apply_call s ints floats r (length lent) (length work))) × (z ≡ apply_left s ints floats r lent (length work)) × (w ≡ apply_work_left s ints floats r (length lent) work)

  -- a refusal that keeps all
  kept : (q : Refusal) → keeps_all q ≡ true → apply_call s ints floats r (length lent) (length work) ≡ refused q → Left (Err q) lent work
  unfolding answer_of apply_left apply_work_left result_left work_left
  kept q k e = (rw e, rw (e, result_left, k), rw (e, work_left, k))

  pub residual_wrong : (length r ≡ s.rows → ⊥) → Left (Err (WrongLength s.rows (length r))) lent work
  unfolding apply_call require ◌>>=◌ keeps_all cause_of
  residual_wrong h = kept (WrongLength s.rows (length r)) refl (rw (ne_eqb (length r) s.rows h))

  module _ (h : length r ≡ s.rows) where
    pub correction_wrong : (length lent ≡ s.rows → ⊥) → Left (Err (WrongLength s.rows (length lent))) lent work
    unfolding apply_call require ◌>>=◌ keeps_all cause_of
    correction_wrong k = kept (WrongLength s.rows (length lent)) refl (rw (eq-eqb (length r) s.rows h, ne_eqb (length lent) s.rows k))

    module _ (k : length lent ≡ s.rows) where
      pub misfit : setup_fits s ints floats ≡ false → Left (Err SetupMisfit) lent work
      unfolding apply_call require ◌>>=◌ keeps_all cause_of
      misfit f = kept SetupMisfit refl (rw (eq-eqb (length r) s.rows h, eq-eqb (length lent) s.rows k, f))

      module _ (f : setup_fits s ints floats ≡ true) where
        pub work_short : length work < 2 * s.coarse → Left (Err ListTooShort) lent work
        unfolding apply_call require ◌>>=◌ keeps_all cause_of
        work_short l = kept ListTooShort refl (rw (eq-eqb (length r) s.rows h, eq-eqb (length lent) s.rows k, f, lt-leb (2 * s.coarse) (length work) l))

        accepted : 2 * s.coarse ≤ length work → apply_call s ints floats r (length lent) (length work) ≡ done (applied s ints floats r)
        unfolding apply_call require ◌>>=◌
        accepted l = rw (eq-eqb (length r) s.rows h, eq-eqb (length lent) s.rows k, f, le-leb (2 * s.coarse) (length work) l)

        pub corrected : 2 * s.coarse ≤ length work → (z w : List Float) → z ≡ applied s ints floats r → w ≡ replicate (length work) zeroᶠ → Left (Ok tt) z w
        unfolding answer_of apply_left apply_work_left result_left work_left
        corrected l z w p q =
            let e = accepted l in
            (rw e, rw (e, result_left) (p ∙ sym (padded_whole (applied s ints floats r) (length lent) (applied_length s ints floats r ∙ sym k))), rw (e, work_left) q)
