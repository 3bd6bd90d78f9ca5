-- The packed factor and the inverse in their place.
use Rattle.std.specs.Prelude.{Err, Ok, Result}
use mathlib.Core.Path.{◌≡◌, refl, ap, sym, ◌∙◌, fun_ext}
use mathlib.Core.Logic.{◌⊎◌, ⊎_elim}
use mathlib.Core.List.{List, [], ◌++◌, flat_map}
use Prim.Native.Nat.{ℕ, zero, suc, ◌+◌, ◌-◌, ◌*◌, ◌/◌, ◌≤◌}
use native.Mathlib.Omega.{arith}
use lib.ListN.{length, take, drop, replicate, length-drop, take-append-drop}
use lib.Ieee.{Float}
use borrow.Author.Tests.{le-leb}
use borrow.Rule.Slice.PartMut.{put_mid}
use Rattle.definitions.specs.Lists.{padded, up_to}
use Rattle.definitions.specs.Numbers.{zeroᶠ, largest}
use Rattle.definitions.specs.Refusal.{Outcome, refused, done, result_left}
use Rattle.definitions.specs.Coarse.{packed_length, coarse_factor, coarse_part, inverse_of, averaged_square, averaged, entry_in, packed_solve, unit}
use Rattle.definitions.specs.declared.Refusal.{Refusal}
use Rattle.definitions.specs.declared.Refusal.TheVariants.{CoarseTooLarge, CoarseListTooShort}
use Rattle.definitions.specs.declared.Setup.{Setup}
use Rattle.definitions.specs.declared.TwoLevelCoarseApplyPolicy.{TwoLevelCoarseApplyPolicy}
use Rattle.definitions.specs.declared.TwoLevelCoarseApplyPolicy.TheVariants.{Auto, FactorSolve, ExplicitInverse}
use Rattle.laws.proofs.Lists.{length_square}
use Rattle.laws.proofs.Factor.{coarse_factor_length}
use Rattle.csr32.specs.Calls.{goes_on, passed}
use Rattle.numbers.specs.Copied.{copied}
use Rattle.definitions.specs.Answers.{factor_answer}
use Rattle.coarse_factor.specs.Calls.{coarse_factor_call}
use Rattle.coarse_inverse.specs.Calls.{coarse_inverse_call}
use Rattle.two_level_grouping.proofs.Kept.{put_tail}
use Rattle.two_level_setup.specs.Stages.{filled}
use Rattle.two_level_setup.specs.Promises.{Inverted, Stored, Factored, factored_answer}
use Rattle.two_level_setup.proofs.Padding.{padded_all, copied_longer, tail_is, tail_put}

half_le : (p s : ℕ) → p ≤ s + s → p / 2 ≤ s
half_le p s h = omega arith

pub packed_fits : (c : ℕ) → packed_length c ≤ c * c
packed_fits zero = omega arith
packed_fits (suc c) = half_le (suc c * (suc c + 1)) (suc c * suc c) (grow c)
  where
    grow : (x : ℕ) → suc x * (suc x + 1) ≤ suc x * suc x + suc x * suc x
    grow x = omega arith

inverse_length : (c : ℕ) (l : List Float) → length (inverse_of c l) ≡ c * c
unfolding inverse_of averaged_square
inverse_length c l = length_square c (averaged (entry_in (flat_map (λ i. packed_solve c l (unit c i)) (up_to c)) c))

-- ---- the inverse

module _ (c start : ℕ) (floats work : List Float) (small : c ≤ 2048) (room : start + c * c ≤ length floats) (space : c * c ≤ length work) where
  pub inverted : (work1 more : List Float) → work1 ≡ result_left zeroᶠ (coarse_inverse_call c (take (length floats - start) (drop start floats)) (length work)) work
      → more ≡ copied (take (c * c) work1) (take (length floats - start) (drop start floats)) → Inverted c start floats (put_mid start (length floats - start) floats more)
  unfolding coarse_inverse_call result_left
  inverted work1 more ew em = record {
    part = λ l e n.
        let t : take (length floats - start) (drop start floats) ≡ padded zeroᶠ (length floats - start) l = tail_is start floats ∙ e in
        let m : length (drop start floats) ≡ length floats - start = length-drop start floats in
        let k : coarse_inverse_call c (take (length floats - start) (drop start floats)) (length work) ≡ done (inverse_of c l)
        = goes_on _ tt _ (passed _ (CoarseTooLarge c) (le-leb c 2048 small))
        ∙ goes_on _ tt _ (passed _ (CoarseListTooShort c) (rw (tail_is start floats, m, le-leb (packed_length c) (length floats - start) (omega (arith, packed_fits c)), le-leb (c * c) (length work) space)))
        ∙ ap (λ x. done (inverse_of c (take (packed_length c) x))) t ∙ ap (λ x. done (inverse_of c x)) (padded_all zeroᶠ (length floats - start) (packed_length c) l n) in
        let w : work1 ≡ padded zeroᶠ (length work) (inverse_of c l) = ew ∙ ap (λ x. result_left zeroᶠ x work) k in
        let p : take (c * c) work1 ≡ inverse_of c l = rw w (padded_all zeroᶠ (length work) (c * c) (inverse_of c l) (inverse_length c l)) in
        let s : more ≡ padded zeroᶠ (length floats - start) (inverse_of c l)
        = rw (em, p, t) (copied_longer zeroᶠ (length floats - start) l (inverse_of c l) (rw (n, inverse_length c l) (packed_fits c)) (rw (inverse_length c l) (omega arith))) in
        put_tail start floats more ∙ ap (λ x. take start floats ++ x) s;
  }

-- ---- what is stored

module _ (policy : TwoLevelCoarseApplyPolicy) (c start : ℕ) (floats work work' : List Float) (w : work' ≡ replicate (length work) zeroᶠ) where
  kept : coarse_part policy c ≡ (λ l. l) → Stored policy c start floats work floats work'
  kept e = record {
    part = λ l d n. sym (take-append-drop start floats) ∙ ap (λ x. take start floats ++ x) d ∙ ap (λ f. take start floats ++ padded zeroᶠ (length floats - start) (f l)) (sym e);
    clear = w;
  }

  pub kept_factor : (policy ≡ Auto) ⊎ (policy ≡ FactorSolve) → Stored policy c start floats work floats work'
  unfolding coarse_part
  kept_factor e = kept (⊎_elim (λ q. fun_ext (λ l. rw q)) (λ q. fun_ext (λ l. rw q)) e)

pub kept_inverse : (policy : TwoLevelCoarseApplyPolicy) (c start : ℕ) (floats work floats' work' : List Float) → policy ≡ ExplicitInverse → Inverted c start floats floats' → work' ≡ replicate (length work) zeroᶠ
    → Stored policy c start floats work floats' work'
unfolding coarse_part
kept_inverse policy c start floats work floats' work' e i w = record { part = λ l d n. rw e (i.part l d n); clear = w }

-- ---- the factor

module _ (s : Setup) (start : ℕ) (floats work : List Float) where
  abbrev dim : ℕ
  dim = s.coarse

  abbrev matrix : List Float
  matrix = take (dim * dim) work

  module _ (small : dim ≤ 2048) (room : start + dim * dim ≤ length floats) (space : dim * dim ≤ length work) where
    tail_long : length (take (length floats - start) (drop start floats)) ≡ length floats - start
    tail_long = ap length (tail_is start floats) ∙ length-drop start floats

    call_is : coarse_factor_call dim work (length (take (length floats - start) (drop start floats))) ≡ coarse_factor dim matrix
    unfolding coarse_factor_call
    call_is =
        goes_on _ tt _ (passed _ (CoarseTooLarge dim) (le-leb dim 2048 small))
        ∙ goes_on _ tt _ (passed _ (CoarseListTooShort dim) (rw (tail_long, le-leb (dim * dim) (length work) space, le-leb (packed_length dim) (length floats - start) (omega (arith, packed_fits dim)))))

    module _ (x : (Result Float Refusal)) (ex : x ≡ factor_answer (largest matrix) (coarse_factor_call dim work (length (take (length floats - start) (drop start floats))))) where
      answered : x ≡ factor_answer (largest matrix) (coarse_factor dim matrix)
      answered = ex ∙ ap (factor_answer (largest matrix)) call_is

      no_factor : (f : Outcome (List Float)) (r : Refusal) → Err r ≡ factor_answer (largest matrix) f → f ≡ refused r
      unfolding factor_answer
      no_factor (done l) r e = cc
      no_factor (refused q) r e = cc

      has_factor : (f : Outcome (List Float)) (s : Float) → Ok s ≡ factor_answer (largest matrix) f → (s ≡ largest matrix) × ((l : List Float) × (f ≡ done l))
      unfolding factor_answer
      has_factor (done l) s e = (cc, (l, refl))
      has_factor (refused q) s e = (cc, ([], cc))

      pub unfactored : (r : Refusal) (floats' work' : List Float) → x ≡ Err r → Factored s start floats work (Err r) floats' work'
      unfolding factored_answer
      unfactored r floats' work' e =
          let f : coarse_factor dim matrix ≡ refused r = no_factor (coarse_factor dim matrix) r (sym e ∙ answered) in
          record { answer = rw f; part = λ l k. never l (sym f ∙ k); clear = λ l k. never l (sym f ∙ k) }
        where
          never : {A : Type 0} (l : List Float) → refused r ≡ done l → A
          never l k = absurd (let q : ◌≡◌ {A = ℕ} 0 1 = cc in omega arith)

      module _ (scale : Float) (e : x ≡ Ok scale) (more : List Float) (em : more ≡ result_left zeroᶠ (coarse_factor_call dim work (length (take (length floats - start) (drop start floats)))) (take (length floats - start) (drop start floats))) where
        abbrev after : List Float
        after = put_mid start (length floats - start) floats more

        pub factored : (t : Setup) (floats' work' : List Float) → length after ≡ length floats → t ≡ filled s s.transfers s.damping scale s.complexity → Stored s.policy dim start after work floats' work'
            → Factored s start floats work (Ok t) floats' work'
        unfolding factored_answer result_left
        factored t floats' work' la et st =
            let h = has_factor (coarse_factor dim matrix) scale (sym e ∙ answered) in
            let f : coarse_factor dim matrix ≡ done h.1.0 = h.1.1 in
            record {
              answer = rw (f, et, h.0);
              part = λ l k.
                  let m : more ≡ padded zeroᶠ (length floats - start) l = em ∙ ap (λ y. result_left zeroᶠ y (take (length floats - start) (drop start floats))) (call_is ∙ k) ∙ rw tail_long in
                  let p = tail_put start floats more (omega arith) in
                  st.part l (p.1 ∙ m ∙ rw la) (coarse_factor_length dim matrix l k) ∙ rw (p.0, la);
              clear = λ l k. st.clear;
            }
