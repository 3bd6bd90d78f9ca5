-- Setup asks sizes alone first: the limits of 1, 9 to 12, and 13. Where these pass, the blocks ask 1 to 8, so that the entries are read once.
use Rattle.std.specs.Prelude.{◌≡◌, Bool, true, false, Err, Result}
use Rattle.definitions.specs.Refusal.{Outcome, refused, done, ◌>>=◌}
use Rattle.definitions.specs.Matrix.{Matrix, valid_of}
use Rattle.definitions.specs.Places.{Lengths, entry_needs, covers}
use Rattle.definitions.specs.Setup.{Lent, Built, front_of}
use Rattle.definitions.specs.declared.Options.{Options}
use Rattle.definitions.specs.declared.Refusal.{Refusal}
use Rattle.two_level_grouping.specs.Front.{shape_of}
use Rattle.two_level_setup.specs.Stages.{Parts, built_for}
use Rattle.two_level_setup.specs.Promises.{Leaves}
use Rattle.definitions.specs.declared.Setup.{Setup}

-- what sizes that fit leave to the stages: 9 to 12 pass, and 13
pub record Sized (a : Matrix) (o : Options) (room : Lengths) : Type 0 where
  pub shape : shape_of a.rows a.cols o.block o.group ≡ done tt
  pub long : covers room (entry_needs a o) ≡ true

-- whether they fit: where they do not, one of 1 to 13 fails
pub record SizesTold (a : Matrix) (o : Options) (room : Lengths) (r : Bool) : Type 0 where
  pub fit : r ≡ true → Sized a o room
  pub misfit : r ≡ false → front_of a o ≡ done tt → covers room (entry_needs a o) ≡ false

-- a stage that asks 1 to 8 itself: refused by these, it leaves the lists as they were
pub record Judged (a : Matrix) (o : Outcome Parts) (x : Lent) (r : (Result Setup Refusal)) (y : Lent) : Type 0 where
  pub valid : valid_of a ≡ done tt → Leaves o r y
  pub invalid : (q : Refusal) → valid_of a ≡ refused q → (r ≡ Err q) × (y ≡ x)

-- what setup is where its sizes fit
unfoldable pub judged_for : Matrix → Options → Lengths → Outcome Built
judged_for a o room = valid_of a >>= (λ _. built_for a o room)
