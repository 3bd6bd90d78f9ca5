-- What the four lists that setup is lent hold, and how long they are.
use Rattle.std.specs.Prelude.{◌≡◌, length}
use Rattle.definitions.specs.Places.{Lengths}
use Rattle.definitions.specs.Setup.{Lent, lent_of}
use Rattle.two_level_setup.specs.declared.memory.Memory.{Memory}
use Rattle.two_level_setup.specs.declared.memory.Room.{Room}
use Rattle.two_level_setup.specs.Fit.{room_of}

abbrev pub lists : Memory → Lent
lists m = lent_of m.ints.now m.floats.now m.work_ints.now m.work_floats.now

abbrev pub lengths : Room → Lengths
lengths r = room_of r.ints r.floats r.work_ints r.work_floats

abbrev pub room : Memory → Lengths
room m = room_of (length m.ints.now) (length m.floats.now) (length m.work_ints.now) (length m.work_floats.now)

-- the same four lists, as long as before
pub record SameLists (x y : Memory) : Type 0 where
  pub ints : y.ints.ghost_name ≡ x.ints.ghost_name
  pub floats : y.floats.ghost_name ≡ x.floats.ghost_name
  pub work_ints : y.work_ints.ghost_name ≡ x.work_ints.ghost_name
  pub work_floats : y.work_floats.ghost_name ≡ x.work_floats.ghost_name
  pub ints_long : length y.ints.now ≡ length x.ints.now
  pub floats_long : length y.floats.now ≡ length x.floats.now
  pub work_ints_long : length y.work_ints.now ≡ length x.work_ints.now
  pub work_floats_long : length y.work_floats.now ≡ length x.work_floats.now
