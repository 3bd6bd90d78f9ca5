-- Lists that are long enough: 13, and 17 with 18 for the coarse part.
use Rattle.std.specs.Prelude.{Err, Ok}
use mathlib.Core.Path.{◌≡◌, refl, ap, sym, ◌∙◌}
use mathlib.Core.Bool.{Bool, true, false, ◌&&◌}
use Prim.Native.Nat.{◌+◌, ◌*◌, ◌≤◌, ◌<◌}
use native.Mathlib.Omega.{arith}
use lib.Dec.{leb}
use borrow.Author.Tests.{le-leb, lt-leb, leb-true}
use Rattle.definitions.specs.Refusal.{Outcome, require}
use Rattle.definitions.specs.Matrix.{Matrix}
use Rattle.definitions.specs.Places.{Lengths, entry_needs, coarse_needs, covers}
use Rattle.definitions.specs.Setup.{max_coarse}
use Rattle.definitions.specs.Answers.{answer_of}
use Rattle.definitions.specs.declared.Options.{Options}
use Rattle.definitions.specs.declared.Setup.{Setup}
use Rattle.definitions.specs.declared.Refusal.TheVariants.{CoarseTooLarge, CoarseListTooShort}
use Rattle.laws.proofs.Outcomes.{test_true, last_true}
use Rattle.csr32.specs.Calls.{accepted_done, goes_on, stops, passed, failed}
use Rattle.two_level_grouping.specs.Front.{Front}
use Rattle.two_level_setup.specs.Stages.{options_of, room_checked}
use Rattle.two_level_setup.specs.Fit.{Fit, Counted, Ample}

-- ---- lists that are long enough

-- 13 is 18 for no coarse dimension
pub coarse_none : (need : Lengths) → coarse_needs 0 need ≡ need
unfolding coarse_needs
coarse_none need =
    let f : need.floats + 0 * 0 ≡ need.floats = omega arith in
    let i : need.work_ints + 4 * 0 ≡ need.work_ints = omega arith in
    let w : need.work_floats + (0 * 0 + 4 * 0) ≡ need.work_floats = omega arith in
    rw (f, i, w)

pub entry_room : (room need : Lengths) (t : Bool) → t ≡ covers room (coarse_needs 0 need) → t ≡ covers room need
entry_room room need t e = e ∙ ap (covers room) (coarse_none need)

four : (b c d e : Bool) → (b && c && d && e) ≡ true → (b ≡ true) × (c ≡ true) × (d ≡ true) × (e ≡ true)
four true true true e p = (refl, refl, refl, p)
four true true false e p = (cc, cc, cc, cc)
four true false d e p = (cc, cc, cc, cc)
four false c d e p = (cc, cc, cc, cc)

covered : (room need : Lengths) → covers room need ≡ true
    → (need.ints ≤ room.ints) × (need.floats ≤ room.floats) × (need.work_ints ≤ room.work_ints) × (need.work_floats ≤ room.work_floats)
unfolding covers
covered room need e = let p = four _ _ _ _ e in (leb-true _ _ p.0, leb-true _ _ p.1, leb-true _ _ p.2, leb-true _ _ p.3)

pub fit_of : (a : Matrix) (o : Options) (room : Lengths) → Front a o → covers room (entry_needs a o) ≡ true → Fit a o room
unfolding entry_needs
fit_of a o room f e = let p = covered room (entry_needs a o) e in record { front = f; ints = p.0; floats = p.1; work_ints = p.2; work_floats = p.3 }

-- ---- 17 and 18

module _ (a : Matrix) (s : Setup) (room : Lengths) where
  abbrev long_checked : Outcome (Unit {0})
  long_checked = require (covers room (coarse_needs s.coarse (entry_needs a (options_of s)))) (CoarseListTooShort s.coarse)

  pub too_large : max_coarse < s.coarse → Err (CoarseTooLarge s.coarse) ≡ answer_of (room_checked a s room)
  unfolding room_checked answer_of
  too_large h = sym (ap answer_of (stops _ (CoarseTooLarge s.coarse) (λ _. long_checked) (failed _ (CoarseTooLarge s.coarse) (lt-leb s.coarse max_coarse h))))

  module _ (h : s.coarse ≤ max_coarse) (t : Bool) (et : t ≡ covers room (coarse_needs s.coarse (entry_needs a (options_of s)))) where
    wide : room_checked a s room ≡ long_checked
    unfolding room_checked
    wide = goes_on _ tt _ (passed _ (CoarseTooLarge s.coarse) (le-leb s.coarse max_coarse h))

    pub no_room : t ≡ false → Err (CoarseListTooShort s.coarse) ≡ answer_of (room_checked a s room)
    unfolding answer_of
    no_room f = sym (ap answer_of (wide ∙ failed _ (CoarseListTooShort s.coarse) (sym et ∙ f)))

    pub has_room_lem : t ≡ true → (Ok tt) ≡ answer_of (room_checked a s room)
    unfolding answer_of
    has_room_lem f = sym (ap answer_of (wide ∙ passed _ (CoarseListTooShort s.coarse) (sym et ∙ f)))

  pub ample_of : Fit a (options_of s) room → Counted a s → (Ok tt) ≡ answer_of (room_checked a s room) → Ample a s room
  unfolding room_checked entry_needs coarse_needs
  ample_of f n e =
      let w = test_true (leb s.coarse max_coarse) (CoarseTooLarge s.coarse) (λ _. long_checked) tt (accepted_done (room_checked a s room) (sym e)) in
      let p = covered room (coarse_needs s.coarse (entry_needs a (options_of s))) (last_true _ (CoarseListTooShort s.coarse) w.1) in
      record { front = f.front; counted = n; small = leb-true _ _ w.0; ints = rw n.nodes p.0; floats = p.1; work_ints = p.2; work_floats = p.3 }
