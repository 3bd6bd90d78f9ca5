-- DEMAND 3, of the exported functions: an accepted setup leaves its record's numbers, which read back as the record, so that an apply with them is the call that `separation_of_calls` speaks of.
use Prim.Native.Nat.{ℕ, ◌*◌, ◌≤◌}
use mathlib.Core.Path.{◌≡◌, sym, ap, ◌∙◌, subst}
use mathlib.Core.Bool.{Bool}
use mathlib.Core.List.{List}
use lib.Dec.{T}
use lib.ListN.{length}
use lib.Ieee.{Float}
use Rattle.definitions.specs.Refusal.{done}
use Rattle.definitions.specs.Matrix.{Matrix}
use Rattle.definitions.specs.Setup.{Lent, Built, setup_of, setup_left, lengths_of}
use Rattle.definitions.specs.Apply.{applied, apply_call, apply_left, corrected}
use Rattle.definitions.specs.Record.{record_numbers, record_of, is_record}
use Rattle.definitions.specs.Separation.{Apart, agree, is_done}
use Rattle.definitions.specs.declared.Options.{Options}
use Rattle.definitions.specs.declared.Setup.{Setup}
use Rattle.laws.proofs.Lists.{length_tab}
use Rattle.yelomawin.specs.Boundary.{received, options_of}
use Rattle.yelomawin.specs.Calls.{Handed, ResultWork, exported_apply}
use Rattle.separation.proofs.Stages.{stages_of}
use Rattle.separation.proofs.ApplyApart.{applied_by}
use Rattle.separation.proofs.Fitting.{ample_accepts}
use Rattle.separation.proofs.Theorem.{corrected_here}
use Rattle.separation.proofs.Calls.{handed, hands_out_corrected, separation_of_calls}
use Rattle.separation_of_exports.specs.Exports.{SeparationOfExports, ExportsHandOutCorrected}
use Rattle.laws.proofs.Record.{setup_record_lem}
use Rattle.separation_of_exports.proofs.Accepted.{accepted_setup, Applied, accepted_run, run_accepted, record_room, received_record, received_is_record}

-- with what setup hands out, an accepted run leaves what the call on the record leaves
module _ (a : Matrix) (o : Options) (lent : Lent) (numbers : List ℕ) (b : Built) (built : setup_of a o (lengths_of lent) ≡ done b) where
  abbrev list : List ℕ
  list = received (record_numbers b.setup) numbers

  abbrev ints : List ℕ
  ints = (setup_left (done b) lent).ints

  abbrev floats : List Float
  floats = (setup_left (done b) lent).floats

  reads : T (is_record list) → record_of list ≡ b.setup
  reads t = received_record b.setup numbers (record_room b.setup numbers t) (setup_record_lem a o (lengths_of lent) b built)

  module _ (r z w : List Float) (u : List ℕ) (e : (exported_apply list ints floats r z w u).number ≡ 0) where
    run : Applied (is_record list) (apply_call (record_of list) ints floats r (length z) (length w)) z (exported_apply list ints floats r z w u).lists.result
    run = accepted_run list ints floats r z w u e

    taken : T (is_done (apply_call b.setup ints floats r (length z) (length w)))
    taken = subst (λ (s : Setup). T (is_done (apply_call s ints floats r (length z) (length w)))) (reads run.is_known) run.accepted

    left : (exported_apply list ints floats r z w u).lists.result ≡ apply_left b.setup ints floats r z (length w)
    unfolding apply_left
    left = run.hands ∙ ap (λ (s : Setup). apply_left s ints floats r z (length w)) (reads run.is_known)

  agreeing : (part : ℕ → Bool) (r r' : List Float) → Apart a o part r r' → (z z' w w' : List Float) (u u' : List ℕ)
      → (exported_apply list ints floats r z w u).number ≡ 0 → (exported_apply list ints floats r' z' w' u').number ≡ 0
      → T (agree part o.block a.rows (exported_apply list ints floats r z w u).lists.result (exported_apply list ints floats r' z' w' u').lists.result)
  agreeing part r r' A z z' w w' u u' e e' =
      rw (left r z w u e, left r' z' w' u' e')
      (separation_of_calls a o part r r' A lent b built z z' (length w) (length w') (taken r z w u e) (taken r' z' w' u' e'))

pub separation_of_exports : SeparationOfExports
unfolding options_of
separation_of_exports a size groupSize aggregation basis policy lent numbers e part r r' A z z' w w' u u' =
    let y = accepted_setup lent numbers a size groupSize aggregation basis policy e in
    subst (λ (h : Handed Lent). (exported_apply h.answer h.lists.ints h.lists.floats r z w u).number ≡ 0 → (exported_apply h.answer h.lists.ints h.lists.floats r' z' w' u').number ≡ 0
    → T (agree part size a.rows (exported_apply h.answer h.lists.ints h.lists.floats r z w u).lists.result (exported_apply h.answer h.lists.ints h.lists.floats r' z' w' u').lists.result))
    (sym y.hands) (agreeing a (options_of size groupSize aggregation basis policy) lent numbers y.built y.is part r r' A z z' w w' u u')

-- ---- such a run is accepted, and the corrected vector has one number a row

corrected_long : (x : Setup) (ints : List ℕ) (floats r y : List Float) (room workRoom : ℕ) → apply_call x ints floats r room workRoom ≡ done y → length y ≡ room
unfolding applied
corrected_long x ints floats r y room workRoom e = let h = handed x ints floats r room workRoom y e in ap length (sym h.1) ∙ length_tab _ x.rows ∙ sym h.0

module _ (a : Matrix) (o : Options) (lent : Lent) (numbers : List ℕ) (b : Built) (built : setup_of a o (lengths_of lent) ≡ done b) (room : 15 ≤ length numbers) where
  abbrev handed_out : List Float → List Float → List Float → List ℕ → Handed (ResultWork Float)
  handed_out r z w u = exported_apply (list a o lent numbers b built) (ints a o lent numbers b built) (floats a o lent numbers b built) r z w u

  hands_out : (r z w : List Float) (u : List ℕ) → length r ≡ a.rows → length z ≡ a.rows → 2 * (record_of (list a o lent numbers b built)).coarse ≤ length w
      → ((handed_out r z w u).number ≡ 0) × (corrected a o r ≡ done (handed_out r z w u).lists.result)
  hands_out r z w u long fits work =
      let s = (stages_of a o (lengths_of lent) b built).stages in
      let c : corrected a o r ≡ done (applied_by s r) = corrected_here s (ample_accepts s) r long in
      let same : record_of (list a o lent numbers b built) ≡ b.setup = received_record b.setup numbers room (setup_record_lem a o (lengths_of lent) b built) in
      let enough : 2 * b.setup.coarse ≤ length w = subst (λ (x : Setup). 2 * x.coarse ≤ length w) same work in
      let m : apply_call b.setup (ints a o lent numbers b built) (floats a o lent numbers b built) r a.rows (length w) ≡ done (applied_by s r) = hands_out_corrected a o lent b built r long (length w) enough ∙ c in
      let h = run_accepted (list a o lent numbers b built) (ints a o lent numbers b built) (floats a o lent numbers b built) r z w u (applied_by s r) (received_is_record b.setup numbers room)
      (rw (same, fits) m) (corrected_long b.setup (ints a o lent numbers b built) (floats a o lent numbers b built) r (applied_by s r) a.rows (length w) m ∙ sym fits) in
      (h.0, c ∙ ap done (sym h.1))

pub exports_hand_out_corrected : ExportsHandOutCorrected
exports_hand_out_corrected a size groupSize aggregation basis policy lent numbers e room r z w u long fits =
    let y = accepted_setup lent numbers a size groupSize aggregation basis policy e in
    subst (λ (h : Handed Lent). 2 * (record_of h.answer).coarse ≤ length w
    → ((exported_apply h.answer h.lists.ints h.lists.floats r z w u).number ≡ 0) × (corrected a (options_of size groupSize aggregation basis policy) r ≡ done (exported_apply h.answer h.lists.ints h.lists.floats r z w u).lists.result))
    (sym y.hands) (hands_out a (options_of size groupSize aggregation basis policy) lent numbers y.built y.is room r z w u long fits)
