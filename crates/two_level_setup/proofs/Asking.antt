-- Sizes before entries: what the test of sizes tells, and the fine level, of which the blocks ask 1 to 8.
use Rattle.std.specs.Prelude.{Err, Ok, Result, is_ok, ◌⊎◌}
use Rattle.std.proofs.Common.{inl, inr}
use mathlib.Core.Path.{◌≡◌, refl, ap, sym, ◌∙◌}
use mathlib.Core.Bool.{Bool, true, false}
use mathlib.Core.List.{List}
use Prim.Native.Nat.{◌≤◌, ◌<◌}
use native.Mathlib.Omega.{arith}
use lib.ListN.{length}
use lib.Ieee.{Float}
use Rattle.definitions.specs.Numbers.{zeroᶠ}
use Rattle.definitions.specs.Refusal.{Outcome, refused, done, Checked}
use Rattle.definitions.specs.Matrix.{Matrix, valid_of, max_rows, max_entries}
use Rattle.definitions.specs.Block.{blocks_call, blocks_left}
use Rattle.definitions.specs.Places.{Lengths, entry_needs, covers}
use Rattle.definitions.specs.Setup.{Lent, front_of, lent_of}
use Rattle.definitions.specs.Answers.{answer_of}
use Rattle.definitions.specs.declared.Options.{Options}
use Rattle.definitions.specs.declared.Setup.{Setup}
use Rattle.definitions.specs.declared.Refusal.{Refusal}
use Rattle.laws.proofs.Outcomes.{refused_not_done}
use Rattle.csr32.specs.Calls.{stops, keeps_refused, result_kept}
use Rattle.csr32.specs.Valid.{valid_keeps}
use Rattle.two_level_grouping.specs.Front.{shape_of, shape_of_lem, front_with, front_of_lem, front_parts, front_rows}
use Rattle.two_level_setup.specs.Stages.{Parts, fine_of}
use Rattle.two_level_setup.specs.Fit.{Fit, Bounds}
use Rattle.two_level_setup.specs.Promises.{room_in, Leaves}
use Rattle.two_level_setup.specs.Asking.{Sized, SizesTold, Judged}
use Rattle.two_level_setup.proofs.FineParts.{sized_bounds, blocks_refused}
use Rattle.two_level_setup.proofs.Rooms.{fit_of}

-- a checked outcome is one or the other
pub by_outcome : {C : Type 0} (o : Checked) → (o ≡ done tt → C) → ((q : Refusal) → o ≡ refused q → C) → C
by_outcome (done tt) f g = f refl
by_outcome (refused q) f g = g q refl

pub differ : (b : Bool) → b ≡ true → b ≡ false → ⊥
differ b e f = cc

-- ---- the test of sizes

module _ (a : Matrix) (o : Options) (room : Lengths) where
  misfits : (front_of a o ≡ done tt → covers room (entry_needs a o) ≡ false) → SizesTold a o room false
  misfits k = record { fit = λ e. absurd (cc); misfit = λ _. k }

  pub too_many : (max_rows < a.rows) ⊎ ((a.rows ≤ max_rows) × (max_entries < length a.values)) → SizesTold a o room false
  too_many (inl h) = misfits (λ f. absurd (omega (arith, (front_rows a o (front_of_lem a o f)).few_rows)))
  too_many (inr h) = misfits (λ f. absurd (omega (arith, h.1, (front_rows a o (front_of_lem a o f)).few_entries)))

  module _ (t : Bool) (et : t ≡ is_ok (answer_of (shape_of a.rows a.cols o.block o.group))) where
    pub misshapen : t ≡ false → SizesTold a o room t
    unfolding answer_of
    misshapen e = rw e (misfits (λ f. let k : true ≡ false = ap (λ c. is_ok (answer_of c)) (sym (front_parts a o f).1) ∙ sym et ∙ e in absurd (differ true refl k)))

    module _ (e : t ≡ true) where
      shaped : shape_of a.rows a.cols o.block o.group ≡ done tt
      unfolding answer_of
      shaped = by_outcome (shape_of a.rows a.cols o.block o.group) (λ d. d) (λ q d. absurd (differ false (ap (λ c. is_ok (answer_of c)) (sym d) ∙ sym et ∙ e) refl))

      pub shaped_bounds : a.rows ≤ max_rows → length a.values ≤ max_entries → Bounds a.rows (length a.values) o.block
      shaped_bounds h k = let s = shape_of_lem a o shaped in sized_bounds a.rows (length a.values) o.block h k s.least s.most

      pub roomed : (r : Bool) → r ≡ covers room (entry_needs a o) → SizesTold a o room r
      roomed r er = record { fit = λ f. record { shape = shaped; long = sym er ∙ f }; misfit = λ f _. sym er ∙ f }

pub fit_with : (a : Matrix) (o : Options) (room : Lengths) → Sized a o room → valid_of a ≡ done tt → Fit a o room
fit_with a o room s v = fit_of a o room (front_with a o v (shape_of_lem a o s.shape)) s.long

-- ---- a stage that asks 1 to 8 itself

module _ (a : Matrix) (o : Outcome Parts) (x : Lent) where
  pub judged_as : (r : (Result Setup Refusal)) (y : Lent) → valid_of a ≡ done tt → Leaves o r y → Judged a o x r y
  judged_as r y v l = record { valid = λ _. l; invalid = λ q k. absurd (refused_not_done (sym k ∙ v)) }

  -- it has built: they have passed
  pub judged_valid : (r : (Result Setup Refusal)) (y : Lent) → Judged a o x r y → (s : Setup) → r ≡ Ok s → valid_of a ≡ done tt
  judged_valid r y j s e = by_outcome (valid_of a) (λ v. v) (λ q k. absurd (let p = (j.invalid q k).0 in cc))

-- ---- the blocks

module _ (a : Matrix) (o : Options) (memory : Lent) (s : Sized a o (room_in memory))
    (x : (Result (Unit {0}) Refusal)) (ex : x ≡ answer_of (blocks_call a o.block (length memory.floats))) where
  stopped_first : (q : Refusal) → valid_of a ≡ refused q → blocks_call a o.block (length memory.floats) ≡ refused q
  unfolding blocks_call
  stopped_first q k = stops (valid_of a) q _ k

  pub blocks_judged : (r : Refusal) (floats1 : List Float) → x ≡ Err r → floats1 ≡ blocks_left a o.block memory.floats → Judged a (fine_of a o) memory (Err r) (lent_of memory.ints floats1 memory.work_ints memory.work_floats)
  unfolding answer_of blocks_left
  blocks_judged r floats1 e ef = record {
    valid = λ v. blocks_refused a o memory (fit_with a o (room_in memory) s v) x ex r (lent_of memory.ints floats1 memory.work_ints memory.work_floats) e;
    invalid = λ q k.
        let b = stopped_first q k in
        let t : Err r ≡ Err q = sym e ∙ ex ∙ ap answer_of b in
        let f : floats1 ≡ memory.floats = ef ∙ result_kept zeroᶠ memory.floats q (keeps_refused (valid_of a) q (valid_keeps a) k) (blocks_call a o.block (length memory.floats)) b in
        (cc, rw f);
  }

  pub blocks_valid : x ≡ (Ok tt) → valid_of a ≡ done tt
  unfolding answer_of
  blocks_valid e = by_outcome (valid_of a) (λ v. v) (λ q k. absurd (let t : (Ok tt) ≡ Err q = sym e ∙ ex ∙ ap answer_of (stopped_first q k) in cc))

  pub blocks_fit : x ≡ (Ok tt) → Fit a o (room_in memory)
  blocks_fit e = fit_with a o (room_in memory) s (blocks_valid e)

  pub blocks_as : x ≡ (Ok tt) → (r : (Result Setup Refusal)) (y : Lent) → Leaves (fine_of a o) r y → Judged a (fine_of a o) memory r y
  blocks_as e r y l = judged_as a (fine_of a o) memory r y (blocks_valid e) l
