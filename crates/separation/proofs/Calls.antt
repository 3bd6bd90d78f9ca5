-- DEMAND 3, of the calls: what an apply hands out after an accepted setup is the corrected vector, because the setup fits its record and its lists read back as what was stored.
use mathlib.Core.Path.{◌≡◌, refl, sym, ap, ◌∙◌, subst}
use mathlib.Core.List.{List, ◌++◌, append-nil}
use Prim.Native.Nat.{ℕ, ◌-◌, ◌*◌, ◌≤◌}
use native.Mathlib.Omega.{arith}
use lib.Dec.{T, eqb, leb, le→leb, eqb→eq, eqb_refl}
use lib.ListN.{length, replicate}
use lib.Ieee.{Float}
use lib.Ieee.Fits.{eq→eqb}
use Rattle.definitions.specs.Lists.{padded}
use Rattle.definitions.specs.Numbers.{zeroᶠ}
use Rattle.definitions.specs.Refusal.{Outcome, done, ◌>>=◌, result_left}
use Rattle.definitions.specs.Matrix.{Matrix}
use Rattle.definitions.specs.Setup.{Built, Lent, built_from, setup_left, lengths_of}
use Rattle.definitions.specs.Fits.{setup_fits}
use Rattle.definitions.specs.Apply.{applied, apply_call, apply_left, corrected}
use Rattle.definitions.specs.Separation.{agree, is_done, HandsOutCorrected, SeparationOfCalls}
use Rattle.definitions.specs.declared.Options.{Options}
use Rattle.definitions.specs.declared.Setup.{Setup}
use Rattle.definitions.specs.declared.Refusal.TheVariants.{ListTooShort, WrongLength, SetupMisfit}
use Rattle.laws.proofs.Lists.{length_tab}
use Rattle.laws.proofs.Outcomes.{done_inj, test_passed, pass_test}
use Rattle.separation.proofs.Stages.{Stages, built, stages_of}
use Rattle.separation.proofs.ApplyApart.{applied_by}
use Rattle.separation.proofs.Places.{applied_read}
use Rattle.separation.proofs.Fitting.{setup_fits_lem, ample_accepts}
use Rattle.separation.proofs.Theorem.{result_of, corrected_here, vectors_agree}

-- ---- an accepted apply hands out `applied`, which fills the list lent for it

module _ (x : Setup) (ints : List ℕ) (floats r : List Float) where
  pub handed : (room workRoom : ℕ) (z : List Float) → apply_call x ints floats r room workRoom ≡ done z → (room ≡ x.rows) × (applied x ints floats r ≡ z)
  unfolding apply_call
  handed room workRoom z e =
      let s1 = test_passed (eqb (length r) x.rows) (WrongLength x.rows (length r)) _ z e in
      let s2 = test_passed (eqb room x.rows) (WrongLength x.rows room) _ z s1.1 in
      let s3 = test_passed (setup_fits x ints floats) SetupMisfit _ z s2.1 in
      let s4 = test_passed (leb (2 * x.coarse) workRoom) ListTooShort _ z s3.1 in
      (eqb→eq room x.rows s2.0, done_inj s4.1)

  applied_length : length (applied x ints floats r) ≡ x.rows
  unfolding applied
  applied_length = length_tab _ x.rows

  full : (z lent : List Float) → length z ≡ length lent → padded zeroᶠ (length lent) z ≡ z
  unfolding padded
  full z lent e = let none : length lent - length z ≡ 0 = omega (arith, e) in rw (none, append-nil)

  pub handed_list : (lent : List Float) (workRoom : ℕ) → T (is_done (apply_call x ints floats r (length lent) workRoom)) → apply_left x ints floats r lent workRoom ≡ applied x ints floats r
  unfolding apply_left result_left
  handed_list lent workRoom t =
      let y = result_of (apply_call x ints floats r (length lent) workRoom) t in
      let h = handed (length lent) workRoom y.0 y.1 in
      ap (λ (o : Outcome (List Float)). result_left zeroᶠ o lent) (y.1 ∙ ap done (sym h.1))
      ∙ full (applied x ints floats r) lent (applied_length ∙ sym h.0)

-- ---- the lists as setup leaves them: what was built, and zeros

module _ {a : Matrix} {o : Options} (s : Stages a o) (lent : Lent) where
  abbrev ints_after : List ℕ
  ints_after = (setup_left (done (built s)) lent).ints

  abbrev floats_after : List Float
  floats_after = (setup_left (done (built s)) lent).floats

  zeros : List ℕ
  zeros = replicate (length lent.ints - length (built s).ints) 0

  zerosᶠ : List Float
  zerosᶠ = replicate (length lent.floats - length (built s).floats) zeroᶠ

  ints_after_lem : ints_after ≡ (built s).ints ++ zeros
  unfolding setup_left result_left padded ◌>>=◌ zeros
  ints_after_lem = refl

  floats_after_lem : floats_after ≡ (built s).floats ++ zerosᶠ
  unfolding setup_left result_left padded ◌>>=◌ zerosᶠ
  floats_after_lem = refl

  pub applied_after : (r : List Float) → length r ≡ a.rows → applied (built s).setup ints_after floats_after r ≡ applied_by s r
  applied_after r long =
      ap (λ (x : List ℕ). applied (built s).setup x floats_after r) ints_after_lem ∙ ap (λ (x : List Float). applied (built s).setup ((built s).ints ++ zeros) x r) floats_after_lem
      ∙ applied_read s zeros zerosᶠ r long

  fits_after : T (setup_fits (built s).setup ints_after floats_after)
  fits_after =
      subst (λ (x : List ℕ). T (setup_fits (built s).setup x floats_after)) (sym ints_after_lem)
      (subst (λ (x : List Float). T (setup_fits (built s).setup ((built s).ints ++ zeros) x)) (sym floats_after_lem) (setup_fits_lem s zeros zerosᶠ))

  apply_after : (r : List Float) → length r ≡ a.rows → (workRoom : ℕ) → 2 * (built s).setup.coarse ≤ workRoom
      → apply_call (built s).setup ints_after floats_after r a.rows workRoom ≡ done (applied_by s r)
  unfolding apply_call built_from
  apply_after r long workRoom enough =
      let x = (built s).setup in
      let out = done (applied_by s r) in
      pass_test (eqb (length r) a.rows) (WrongLength a.rows (length r)) _ out (eq→eqb long)
      (pass_test (eqb a.rows a.rows) (WrongLength a.rows a.rows) _ out (eqb_refl a.rows)
      (pass_test (setup_fits x ints_after floats_after) SetupMisfit _ out fits_after
      (pass_test (leb (2 * x.coarse) workRoom) ListTooShort _ out (le→leb (2 * x.coarse) workRoom enough) (ap done (applied_after r long)))))

-- ---- the theorems

pub hands_out_corrected : HandsOutCorrected
hands_out_corrected a o lent b e r long workRoom =
    let y = stages_of a o (lengths_of lent) b e in
    let s = y.stages in
    subst (λ (x : Built). 2 * x.setup.coarse ≤ workRoom → apply_call x.setup (setup_left (done x) lent).ints (setup_left (done x) lent).floats r a.rows workRoom ≡ corrected a o r) (sym y.is)
    (λ enough. apply_after s lent r long workRoom enough ∙ sym (corrected_here s (ample_accepts s) r long))

pub separation_of_calls : SeparationOfCalls
separation_of_calls a o part r r' A lent b e z z' workRoom workRoom' c c' =
    let y = stages_of a o (lengths_of lent) b e in
    let s = y.stages in
    subst (λ (u : List Float). T (agree part o.block a.rows u (apply_left b.setup (setup_left (done b) lent).ints (setup_left (done b) lent).floats r' z' workRoom'))) (sym (given s y.is r z workRoom A.long c))
    (subst (λ (u : List Float). T (agree part o.block a.rows (applied_by s r) u)) (sym (given s y.is r' z' workRoom' A.long' c')) (vectors_agree a o part r r' A s))
  where
    given : (s : Stages a o) → b ≡ built s → (x u : List Float) (w : ℕ) → length x ≡ a.rows
        → T (is_done (apply_call b.setup (setup_left (done b) lent).ints (setup_left (done b) lent).floats x (length u) w))
        → apply_left b.setup (setup_left (done b) lent).ints (setup_left (done b) lent).floats x u w ≡ applied_by s x
    given s i x u w long d =
        handed_list b.setup (setup_left (done b) lent).ints (setup_left (done b) lent).floats x u w d
        ∙ ap (λ (k : Built). applied k.setup (setup_left (done k) lent).ints (setup_left (done k) lent).floats x) i
        ∙ applied_after s lent x long
