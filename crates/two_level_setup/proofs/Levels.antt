-- The two levels put together: room, transfer and coarse part; then the fine level and these.
use Rattle.std.specs.Prelude.{Err, Ok, Result}
use mathlib.Core.Path.{◌≡◌, ap, sym, ◌∙◌, subst}
use Rattle.definitions.specs.Refusal.{done, ◌>>=◌}
use Rattle.definitions.specs.Matrix.{Matrix, valid_of}
use Rattle.definitions.specs.Places.{Lengths}
use Rattle.definitions.specs.Setup.{Lent}
use Rattle.definitions.specs.Answers.{answer_of}
use Rattle.definitions.specs.declared.Options.{Options}
use Rattle.definitions.specs.declared.Setup.{Setup}
use Rattle.definitions.specs.declared.Refusal.{Refusal}
use Rattle.csr32.specs.Calls.{accepted_done, refused_is, goes_on, stops}
use Rattle.two_level_setup.specs.Stages.{Parts, options_of, fine_of, room_checked, transfer_stage, coarse_stage, coarse_level_of, build_of}
use Rattle.two_level_setup.specs.Fit.{Fit, Counted}
use Rattle.two_level_setup.specs.Promises.{room_in, Leaves, Simulates, Begun, Weighed}
use Rattle.two_level_setup.specs.Asking.{Sized, Judged}
use Rattle.two_level_setup.proofs.Composition.{leaves_refused, leaves_same, stops_there, goes_further}
use Rattle.two_level_setup.proofs.FineParts.{fine_begun, fine_fits}
use Rattle.two_level_setup.proofs.Bases.{transfer_weighed}
use Rattle.two_level_setup.proofs.Asking.{fit_with, judged_as, judged_valid}

-- ---- the coarse level

module _ (a : Matrix) (s : Setup) (room : Lengths) (x : Lent) (z : (Result (Unit {0}) Refusal)) (ez : z ≡ answer_of (room_checked a s room)) where
  abbrev Level : (Result Setup Refusal) → Lent → Type 0
  Level r y = Simulates (Begun a) (coarse_level_of a room) s x r y

  pub room_refused : (r : Refusal) (y : Lent) → z ≡ Err r → Level (Err r) y
  unfolding coarse_level_of
  room_refused r y e p es bg h =
      leaves_refused (coarse_level_of a room p) r y (stops (room_checked a p.setup room) r _ (ap (λ (t : Setup). room_checked a t room) es ∙ refused_is (room_checked a s room) r (sym ez ∙ e)))

  module _ (e : z ≡ (Ok tt)) (r1 : (Result Setup Refusal)) (x1 : Lent) (first : Simulates (Begun a) (transfer_stage a) s x r1 x1) where
    level_is : (p : Parts) → p.setup ≡ s → coarse_level_of a room p ≡ (transfer_stage a p >>= (λ q. coarse_stage a q))
    unfolding coarse_level_of
    level_is p es = goes_on (room_checked a p.setup room) tt _ (ap (λ (t : Setup). room_checked a t room) es ∙ accepted_done (room_checked a s room) (sym ez ∙ e))

    pub level_refused : (r : Refusal) (y : Lent) → r1 ≡ Err r → Level (Err r) y
    level_refused r y q p es bg h = leaves_same _ _ (Err r) y (level_is p es) (stops_there (transfer_stage a p) (λ z. coarse_stage a z) r1 x1 (first p es bg h) r y q)

    pub level_built : (t : Setup) (r : (Result Setup Refusal)) (y : Lent) → r1 ≡ Ok t → Simulates (Weighed a) (coarse_stage a) t x1 r y → Level r y
    level_built t r y q second p es bg h =
        leaves_same _ _ r y (level_is p es) (goes_further (transfer_stage a p) (λ z. coarse_stage a z) r1 x1 (first p es bg h) t r y q (λ v ev et hv. second v et (transfer_weighed a p v bg ev) hv))

-- ---- the fine level, then the coarse one

module _ (a : Matrix) (o : Options) (x : Lent) (sized : Sized a o (room_in x)) (r : (Result Setup Refusal)) (y : Lent) (j : Judged a (fine_of a o) x r y) (same : room_in y ≡ room_in x) where
  abbrev before : Lengths
  before = room_in x

  abbrev after : Lengths
  after = room_in y

  pub built_refused : (q : Refusal) → r ≡ Err q → Judged a (build_of a o before) x (Err q) y
  unfolding build_of
  built_refused q e = record {
    valid = λ v. stops_there (fine_of a o) (λ p. coarse_level_of a before p) r y (j.valid v) q y e;
    invalid = λ t k. let p = j.invalid t k in (sym e ∙ p.0, p.1);
  }

  module _ (s : Setup) (e : r ≡ Ok s) where
    valid : valid_of a ≡ done tt
    valid = judged_valid a (fine_of a o) x r y j s e

    fit : Fit a o before
    fit = fit_with a o before sized valid

    pub level_fits : Fit a (options_of s) after × Counted a s
    level_fits = fine_fits a o fit.front after (subst (λ z. Fit a o z) (sym same) fit) s (sym e ∙ (j.valid valid).answer)

    pub built_whole : (r1 : (Result Setup Refusal)) (z : Lent) → Simulates (Begun a) (coarse_level_of a after) s y r1 z → Judged a (build_of a o before) x r1 z
    unfolding build_of
    built_whole r1 z k = judged_as a (build_of a o before) x r1 z valid
        (goes_further (fine_of a o) (λ p. coarse_level_of a before p) r y (j.valid valid) s r1 z e (λ p ep es h. subst (λ n. Leaves (coarse_level_of a n p) r1 z) same (k p es (fine_begun a o fit.front p ep) h)))
