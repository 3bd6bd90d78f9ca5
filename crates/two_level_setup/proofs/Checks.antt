-- All of setup: its checks, what is built, and the lists cleared after a refusal.
use Rattle.std.specs.Prelude.{Err, Ok, Result}
use mathlib.Core.Path.{◌≡◌, refl, ap, sym, ◌∙◌}
use mathlib.Core.Bool.{true, false}
use lib.ListN.{length}
use Rattle.definitions.specs.Numbers.{zeroᶠ}
use Rattle.definitions.specs.Refusal.{Outcome, refused, done, require, ◌>>=◌, result_left, work_left, keeps_all, cause_of}
use Rattle.definitions.specs.Matrix.{Matrix, valid_of}
use Rattle.definitions.specs.Places.{entry_needs, covers}
use Rattle.definitions.specs.Setup.{Lent, lengths_of, front_of, Built, setup_of, setup_left}
use Rattle.definitions.specs.Answers.{answer_of, setup_answer}
use Rattle.definitions.specs.declared.Options.{Options}
use Rattle.definitions.specs.declared.Setup.{Setup}
use Rattle.definitions.specs.declared.Refusal.{Refusal}
use Rattle.definitions.specs.declared.Refusal.TheVariants.{ListTooShort}
use Rattle.csr32.specs.Calls.{accepted_done, refused_is, goes_on, stops, passed, failed, keeps_refused, result_kept, work_kept}
use Rattle.csr32.specs.Valid.{valid_keeps}
use Rattle.two_level_grouping.specs.Front.{front_splits, front_kept}
use Rattle.two_level_setup.specs.Stages.{built_of, build_of, built_for}
use Rattle.two_level_setup.specs.Promises.{Leaves, Zeroed}
use Rattle.two_level_setup.specs.Asking.{Sized, Judged, judged_for}
use Rattle.two_level_setup.proofs.Composition.{setup_splits}
use Rattle.two_level_setup.proofs.Composition.{refused_is as parts-refused, built_is as parts-built}
use Rattle.laws.proofs.Clearing.{clears_refused}
use Rattle.two_level_setup.proofs.Clearing.{clears_all}
use Rattle.two_level_setup.proofs.Asking.{by_outcome, differ, judged_valid}

-- ---- building, and clearing after a refusal

abbrev pub SameLengths : Lent → Lent → Type 0
SameLengths x y = (length y.ints ≡ length x.ints) × (length y.floats ≡ length x.floats) × (length y.work_ints ≡ length x.work_ints) × (length y.work_floats ≡ length x.work_floats)

module _ (a : Matrix) (o : Options) (x y : Lent) (r : (Result Setup Refusal)) (l : Leaves (build_of a o (lengths_of x)) r y) where
  abbrev built : Outcome Built
  built = built_for a o (lengths_of x)

  cleared_built : (s : Setup) → r ≡ Ok s → SameLengths x y → (Ok s ≡ setup_answer built) × (y ≡ setup_left built x)
  unfolding built_for built_of setup_answer setup_left result_left work_left ◌>>=◌
  cleared_built s e n =
      let q = parts-built (build_of a o (lengths_of x)) s (sym e ∙ l.answer) in
      let h = l.left q.0 q.1 in
      let k : built ≡ done (built_of q.0) = goes_on (build_of a o (lengths_of x)) q.0 (λ p. done (built_of p)) q.1 in
      (rw k (rw q.2), rw k (rw (h.ints, h.floats, h.work_ints, h.work_floats, n.0, n.1, n.2, n.3)))

  stopped_at : (q : Refusal) → r ≡ Err q → build_of a o (lengths_of x) ≡ refused q
  stopped_at q e = parts-refused (build_of a o (lengths_of x)) q (sym e ∙ l.answer)

  refused_clears : (q : Refusal) → r ≡ Err q → keeps_all q ≡ false
  refused_clears q e = clears_refused (build_of a o (lengths_of x)) q (clears_all a o (lengths_of x)) (stopped_at q e)

  cleared_refused : (q : Refusal) (z : Lent) → r ≡ Err q → Zeroed y z → SameLengths x y → (Err q ≡ setup_answer built) × (z ≡ setup_left built x)
  unfolding built_for setup_answer setup_left result_left work_left ◌>>=◌
  cleared_refused q z e c n =
      let k : keeps_all q ≡ false = refused_clears q e in
      let g : built ≡ refused q = stops (build_of a o (lengths_of x)) q (λ p. done (built_of p)) (stopped_at q e) in
      (rw g, rw g (rw (c.ints, c.floats, c.work_ints, c.work_floats, n.0, n.1, n.2, n.3, k, result_left, work_left)))

-- ---- a refusal that keeps all

pub kept : (call : Outcome Built) (x : Lent) (r : Refusal) → keeps_all r ≡ true → call ≡ refused r → (Err r ≡ setup_answer call) × (x ≡ setup_left call x)
unfolding setup_answer setup_left
kept call x r k e = (
  rw e,
  sym (rw (result_kept 0 x.ints r k (call >>= (λ y. done y.ints)) (stops call r _ e), result_kept zeroᶠ x.floats r k (call >>= (λ y. done y.floats)) (stops call r _ e), work_kept 0 x.work_ints r k call e, work_kept zeroᶠ x.work_floats r k call e)),
)

-- ---- building where 1 to 8 are asked on the way

module _ (a : Matrix) (o : Options) (x y : Lent) (r : (Result Setup Refusal)) (j : Judged a (build_of a o (lengths_of x)) x r y) where
  abbrev call : Outcome Built
  call = judged_for a o (lengths_of x)

  passes : valid_of a ≡ done tt → call ≡ built_for a o (lengths_of x)
  unfolding judged_for
  passes v = goes_on (valid_of a) tt _ v

  fails : (q : Refusal) → valid_of a ≡ refused q → call ≡ refused q
  unfolding judged_for
  fails q k = stops (valid_of a) q _ k

  same_cause : (q t : Refusal) → r ≡ Err q → valid_of a ≡ refused t → q ≡ t
  same_cause q t e k = let p = (j.invalid t k).0 in cc

  judged_built : (s : Setup) → r ≡ Ok s → SameLengths x y → (Ok s ≡ setup_answer call) × (y ≡ setup_left call x)
  judged_built s e n = let v = judged_valid a (build_of a o (lengths_of x)) x r y j s e in rw (passes v) (cleared_built a o x y r (j.valid v) s e n)

  judged_kept : (q : Refusal) → r ≡ Err q → keeps_all q ≡ true → (Err q ≡ setup_answer call) × (y ≡ setup_left call x)
  judged_kept q e k = by_outcome (valid_of a)
      (λ v. absurd (differ (keeps_all q) k (refused_clears a o x y r (j.valid v) q e)))
      (λ t w. rw (j.invalid t w).1 (kept call x q k (fails t w ∙ ap (λ u. refused u) (sym (same_cause q t e w)))))

  pub judged_cleared : (q : Refusal) (z : Lent) → r ≡ Err q → keeps_all q ≡ false → Zeroed y z → SameLengths x y → (Err q ≡ setup_answer call) × (z ≡ setup_left call x)
  judged_cleared q z e k c n = by_outcome (valid_of a)
      (λ v. rw (passes v) (cleared_refused a o x y r (j.valid v) q z e c n))
      (λ t w. absurd (differ (keeps_all q) (ap keeps_all (same_cause q t e w) ∙ keeps_refused (valid_of a) t (valid_keeps a) w) k))

  -- what stands then, where no refusal but one that keeps all is left
  pub judged_left : SameLengths x y → ((q : Refusal) → r ≡ Err q → keeps_all q ≡ true) → (r ≡ setup_answer call) × (y ≡ setup_left call x)
  judged_left n k = go r refl
    where
      go : (t : Result Setup Refusal) → r ≡ t → (r ≡ setup_answer call) × (y ≡ setup_left call x)
      go (Ok s) e = rw e (judged_built s e n)
      go (Err q) e = rw e (judged_kept q e (k q e))

-- ---- the checks

module _ (a : Matrix) (o : Options) (x : Lent) where
  abbrev whole : Outcome Built
  whole = setup_of a o (lengths_of x)

  module _ (z : (Result (Unit {0}) Refusal)) (ez : z ≡ answer_of (front_of a o)) where
    pub stopped : (r : Refusal) → z ≡ Err r → (Err r ≡ setup_answer whole) × (x ≡ setup_left whole x)
    stopped r e =
        let f : front_of a o ≡ refused r = refused_is (front_of a o) r (sym ez ∙ e) in
        kept whole x r (front_kept a o r f) (setup_splits a o (lengths_of x) ∙ stops (front_of a o) r _ f)

    pub short : z ≡ (Ok tt) → (front_of a o ≡ done tt → covers (lengths_of x) (entry_needs a o) ≡ false) → (Err ListTooShort ≡ setup_answer whole) × (x ≡ setup_left whole x)
    unfolding keeps_all cause_of
    short e f =
        let d = accepted_done (front_of a o) (sym ez ∙ e) in
        kept whole x ListTooShort refl (setup_splits a o (lengths_of x) ∙ goes_on (front_of a o) tt _ d ∙ stops _ ListTooShort _ (failed (covers (lengths_of x) (entry_needs a o)) ListTooShort (f d)))

  -- where sizes fit, 1 to 8 are all that is left before the stages
  pub whole_is : Sized a o (lengths_of x) → judged_for a o (lengths_of x) ≡ whole
  unfolding judged_for
  whole_is s = sym (setup_splits a o (lengths_of x) ∙ ap (λ f. f >>= next) (front_splits a o) ∙ by_outcome (valid_of a)
      (λ v. goes_on _ tt next (goes_on (valid_of a) tt _ v ∙ s.shape) ∙ goes_on _ tt _ (passed (covers (lengths_of x) (entry_needs a o)) ListTooShort s.long) ∙ sym (goes_on (valid_of a) tt _ v))
      (λ q k. stops _ q next (stops (valid_of a) q _ k) ∙ sym (stops (valid_of a) q _ k)))
    where
      next : Unit {0} → Outcome Built
      next _ = require (covers (lengths_of x) (entry_needs a o)) ListTooShort >>= (λ _. built_for a o (lengths_of x))
