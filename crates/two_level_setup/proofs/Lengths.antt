-- The same lists are as long as they were.
use mathlib.Core.Path.{◌≡◌}
use mathlib.Core.List.{List}
use Prim.Native.Nat.{ℕ}
use lib.Ieee.{Float}
use Rattle.definitions.specs.Setup.{Lent, lent_of}
use Rattle.two_level_setup.specs.declared.memory.Memory.{Memory}
use Rattle.two_level_setup.specs.Memory.{lists, SameLists}
use Rattle.two_level_setup.specs.Promises.{room_in}
use Rattle.two_level_setup.proofs.Checks.{SameLengths}

module _ (x y : Memory) (s : SameLists x y) where
  pub same_lengths : SameLengths (lists x) (lists y)
  same_lengths = (s.ints_long, s.floats_long, s.work_ints_long, s.work_floats_long)

  pub same_room : room_in (lists y) ≡ room_in (lists x)
  same_room = rw (s.ints_long, s.floats_long, s.work_ints_long, s.work_floats_long)

-- what comes back to the four lists
pub came_back : (x y : Lent) (ints : List ℕ) (floats : List Float) (work_ints : List ℕ) (work_floats : List Float) → ints ≡ x.ints → floats ≡ x.floats → work_ints ≡ x.work_ints → work_floats ≡ x.work_floats → x ≡ y → lent_of ints floats work_ints work_floats ≡ y
came_back x y ints floats work_ints work_floats p q r t e = rw (p, q, r, t) e
