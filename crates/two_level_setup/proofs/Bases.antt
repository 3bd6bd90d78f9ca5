-- The transfer by the basis asked for: nothing to do, or damping factor and weights; and what is known behind it.
use Rattle.std.specs.Prelude.{Err, Ok, Result}
use mathlib.Core.Path.{◌≡◌, refl, ap, sym, ◌∙◌, subst}
use mathlib.Core.List.{List, [], ◌++◌, append-nil}
use Prim.Native.Nat.{ℕ, ◌*◌}
use native.Mathlib.Omega.{arith}
use lib.ListN.{length, replicate}
use lib.Ieee.{Float}
use Rattle.definitions.specs.Lists.{padded}
use Rattle.definitions.specs.Numbers.{zeroᶠ}
use Rattle.definitions.specs.Refusal.{Outcome, refused, done, ◌>>=◌}
use Rattle.definitions.specs.Matrix.{Matrix}
use Rattle.definitions.specs.Diagonal.{diagonal_of}
use Rattle.definitions.specs.Estimate.{Estimate, estimate_of}
use Rattle.definitions.specs.Transfer.{transfer_of}
use Rattle.definitions.specs.Places.{Lengths}
use Rattle.definitions.specs.Setup.{Lent, Transfer, transfer_for, transfer_floats, lent_of}
use Rattle.definitions.specs.Answers.{estimate_answer}
use Rattle.definitions.specs.declared.Setup.{Setup}
use Rattle.definitions.specs.declared.Places.{Places}
use Rattle.definitions.specs.declared.TwoLevelBasis.TheVariants.{PiecewiseConstant, JacobiSmoothed}
use Rattle.definitions.specs.declared.Refusal.{Refusal}
use Rattle.laws.proofs.Outcomes.{bind_done, done_inj}
use Rattle.layout.specs.Layout.{layout_of}
use Rattle.layout.proofs.Sizes.{placed, at}
use Rattle.csr32.specs.Calls.{goes_on, stops}
use Rattle.two_level_setup.specs.Stages.{Parts, options_of, filled, transferred, transfer_stage}
use Rattle.two_level_setup.specs.Fit.{Ample, DampingFit, Placed}
use Rattle.two_level_setup.specs.Promises.{Holds, Leaves, Simulates, Begun, Weighted, Weighed, Damped, beside, WeightsStage}
use Rattle.two_level_setup.proofs.Composition.{leaves_refused, leaves_done}
use Rattle.two_level_setup.proofs.FineParts.{bounds, no_weights}
use Rattle.two_level_setup.proofs.Damping.{diagonal_length}
use Rattle.two_level_setup.proofs.Weights.{weighted}
use Rattle.definitions.specs.declared.Estimated.{Estimated}

-- ---- records that fit

pub damping_fits : (a : Matrix) (s : Setup) (room : Lengths) → Ample a s room → (used : ℕ) → used ≡ a.rows * s.block → DampingFit a used room.floats room.work_floats
damping_fits a s room w used e = record { valid = w.front.valid; square = w.front.square; floats = omega (arith, w.floats, e); work = omega (arith, w.work_floats) }

-- the places of the parts are those of the definitions
pub placed_of : (a : Matrix) (s : Setup) (room : Lengths) → Ample a s room → (p : Places) → p ≡ layout_of s → Placed a.rows s p
placed_of a s room w p e =
    let b = bounds a (options_of s) w.front in
    let n = w.counted in
    let k = at s p (e ∙ placed s (omega (arith, b.nodes, b.rows_most, n.nodes)) (omega (arith, b.rows_most, n.rows)) w.front.most (omega (arith, n.transfers, b.rows_most, b.entries_most)) w.small) in
    record { pointers = k.pointers; columns = k.columns ∙ rw n.rows; weights = k.weights ∙ rw n.rows; coarse = k.coarse ∙ rw n.rows }

-- ---- the basis that is constant over a group

pub constant_simulates : (a : Matrix) (s : Setup) (x : Lent) → s.basis ≡ PiecewiseConstant → Simulates (Begun a) (transfer_stage a) s x (Ok s) x
unfolding transfer_stage transfer_for transferred filled ◌>>=◌ transfer_floats
constant_simulates a s x b p es bg h =
    let smooth : p.setup.basis ≡ PiecewiseConstant = ap (λ (t : Setup). t.basis) es ∙ b in
    let none : p.setup.transfers ≡ length (transfer_floats []) = sym bg.sound.transfers ∙ ap (λ l. length (transfer_floats l)) bg.weights in
    let k : transfer_stage a p ≡ done p = rw (smooth, bg.weights, bg.damping, none) in
    subst (λ (t : Setup). Leaves (transfer_stage a p) (Ok t) x) es (leaves_done (transfer_stage a p) p x k h)

-- ---- the smoothed basis

module _ {D E T : Type 0} (diagonal : Outcome D) (estimate : D → Outcome E) (make : D → E → T) where
  abbrev chain : Outcome T
  chain = diagonal >>= (λ d. estimate d >>= (λ e. done (make d e)))

  chain_stops : (r : Refusal) → (diagonal >>= estimate) ≡ refused r → chain ≡ refused r
  unfolding ◌>>=◌
  chain_stops r k = go diagonal k
    where
      go : (o : Outcome D) → (o >>= estimate) ≡ refused r → (o >>= (λ d. estimate d >>= (λ e. done (make d e)))) ≡ refused r
      go (done d) q = stops (estimate d) r (λ e. done (make d e)) q
      go (refused z) q = let w : z ≡ r = cc in ap refused w

  chain_ends : (d : D) (e : E) → diagonal ≡ done d → estimate d ≡ done e → chain ≡ done (make d e)
  chain_ends d e p q = goes_on diagonal d _ p ∙ goes_on (estimate d) e _ q

module _ (a : Matrix) (p : Parts) (smooth : p.setup.basis ≡ JacobiSmoothed) where
  -- the transfer of these parts, for a diagonal and its estimate
  abbrev rows_for : List Float → Estimate → Transfer
  rows_for d e = record { damping = e.damping; weights = transfer_of a d e.damping p.setup.block p.ids p.setup.coarse }

  smoothed_is : transfer_for p.setup.basis a p.setup.block p.ids p.setup.coarse ≡ chain (diagonal_of a) (λ d. estimate_of a d) rows_for
  unfolding transfer_for
  smoothed_is = ap (λ k. transfer_for k a p.setup.block p.ids p.setup.coarse) smooth

  -- what is known behind the transfer
  smoothed_rows : (t : Transfer) → transfer_for p.setup.basis a p.setup.block p.ids p.setup.coarse ≡ done t → Weighted a.rows p.setup.coarse t.weights
  smoothed_rows t e =
      let d = bind_done (diagonal_of a) (λ d. estimate_of a d >>= (λ q. done (rows_for d q))) t (sym smoothed_is ∙ e) in
      let q = bind_done (estimate_of a d.0) (λ q. done (rows_for d.0 q)) t d.2 in
      subst (λ (z : Transfer). Weighted a.rows p.setup.coarse z.weights) (done_inj q.2) (weighted a d.0 q.0.damping p.setup.block p.ids p.setup.coarse)

pub transfer_weighed : (a : Matrix) (p q : Parts) → Begun a p → transfer_stage a p ≡ done q → Weighed a q
unfolding transfer_stage transferred filled
transfer_weighed a p q bg e =
    let t = bind_done (transfer_for p.setup.basis a p.setup.block p.ids p.setup.coarse) (λ t. done (transferred p t)) q e in
    subst (λ z. Weighed a z) (done_inj t.2) (record {
      sound = record { factors = bg.sound.factors; ids = bg.sound.ids; below = bg.sound.below; transfers = refl; coarse = bg.sound.coarse };
      weights = λ smooth. smoothed_rows a p smooth t.0 t.1;
    })

module _ (a : Matrix) (s : Setup) (memory : Lent) (b : s.basis ≡ JacobiSmoothed)
    (x : (Result Estimated Refusal)) (floats1 workFloats1 : List Float) (dm : Damped a (a.rows * s.block) memory.floats memory.work_floats x floats1 workFloats1) where
  abbrev estimated : Outcome Estimate
  estimated = diagonal_of a >>= (λ d. estimate_of a d)

  smooth_too : (p : Parts) → p.setup ≡ s → p.setup.basis ≡ JacobiSmoothed
  smooth_too p es = ap (λ (t : Setup). t.basis) es ∙ b

  no_estimate : (p : Outcome Estimate) (r : Refusal) → Err r ≡ estimate_answer p → p ≡ refused r
  unfolding estimate_answer
  no_estimate (done q) r e = cc
  no_estimate (refused q) r e = cc

  has_estimate : (p : Outcome Estimate) (found : Estimated) → Ok found ≡ estimate_answer p → (q : Estimate) × (p ≡ done q) × (q.damping ≡ found.damping)
  unfolding estimate_answer
  has_estimate (done q) found e = let g : found ≡ record { rho = q.rho; damping = q.damping } = cc in (q, refl, sym (ap (λ (t : Estimated). t.damping) g))
  has_estimate (refused q) found e = cc

  pub estimate_refused : (r : Refusal) (y : Lent) → x ≡ Err r → Simulates (Begun a) (transfer_stage a) s memory (Err r) y
  unfolding transfer_stage
  estimate_refused r y e p es bg h =
      let smooth = smooth_too p es in
      let k : estimated ≡ refused r = no_estimate estimated r (sym e ∙ dm.answer) in
      leaves_refused (transfer_stage a p) r y (stops (transfer_for p.setup.basis a p.setup.block p.ids p.setup.coarse) r (λ t. done (transferred p t))
      (smoothed_is a p smooth ∙ chain_stops (diagonal_of a) (λ d. estimate_of a d) (rows_for a p smooth) r k))

  pub smoothed_built : (found : Estimated) → x ≡ Ok found → length floats1 ≡ length memory.floats → length workFloats1 ≡ length memory.work_floats → (n : ℕ) (y : Lent) → WeightsStage a s found.damping (lent_of memory.ints floats1 memory.work_ints workFloats1) n y
      → (t : Setup) → t ≡ filled s n found.damping s.scale s.complexity → Simulates (Begun a) (transfer_stage a) s memory (Ok t) y
  unfolding transfer_stage transferred
  smoothed_built found e lf lw n y ws t et p es bg h =
      let smooth = smooth_too p es in
      let q = has_estimate estimated found (sym e ∙ dm.answer) in
      let b = bind_done (diagonal_of a) (λ d. estimate_of a d) q.0 q.1 in
      let d = b.0 in
      let before : memory.floats ≡ padded zeroᶠ (length memory.floats) p.factors
      = h.floats ∙ ap (λ l. padded zeroᶠ (length memory.floats) l) (rw (bg.weights, bg.sound.coarse) (no_weights p.factors [] ∙ append-nil p.factors)) in
      let behind : floats1 ≡ padded zeroᶠ (length floats1) (p.factors ++ transfer_floats p.weights ++ d)
      = dm.diagonal d b.1 p.factors (bg.sound.factors ∙ ap (λ (z : Setup). a.rows * z.block) es) before ∙ ap (λ m. padded zeroᶠ m (p.factors ++ d)) (sym lf)
      ∙ ap (λ l. padded zeroᶠ (length floats1) l) (sym (ap (λ l. p.factors ++ transfer_floats l ++ d) bg.weights ∙ no_weights p.factors d)) in
      let hb : Holds (beside p d) (lent_of memory.ints floats1 memory.work_ints workFloats1) = record {
        ints = h.ints;
        floats = behind;
        work_ints = h.work_ints;
        work_floats = dm.clear d q.0 b.1 b.2 h.work_floats ∙ ap (λ m. replicate m zeroᶠ) (sym lw);
      } in
      let r = ws.rows p d es bg (diagonal_length a d b.1) hb in
      let made : Transfer = record { damping = found.damping; weights = transfer_of a d found.damping s.block p.ids s.coarse } in
      let same : rows_for a p smooth d q.0 ≡ made = rw (q.2, es) in
      let k : transfer_stage a p ≡ done (transferred p made) = goes_on (transfer_for p.setup.basis a p.setup.block p.ids p.setup.coarse) (rows_for a p smooth d q.0) (λ z. done (transferred p z))
      (smoothed_is a p smooth ∙ chain_ends (diagonal_of a) (λ z. estimate_of a z) (rows_for a p smooth) d q.0 b.1 b.2) ∙ ap (λ z. done (transferred p z)) same in
      let answer : (transferred p made).setup ≡ t = sym (et ∙ ap (λ z. filled z n found.damping z.scale z.complexity) (sym es) ∙ ap (λ m. filled p.setup m found.damping p.setup.scale p.setup.complexity) r.0) in
      subst (λ (z : Setup). Leaves (transfer_stage a p) (Ok z) y) answer (leaves_done (transfer_stage a p) (transferred p made) y k r.1)
