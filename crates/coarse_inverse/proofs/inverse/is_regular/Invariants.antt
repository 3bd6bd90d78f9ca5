use Prim.Native.Nat.{ℕ, ◌<◌}
use mathlib.Core.Path.{◌≡◌}
use mathlib.Core.Bool.{true}
use lib.ListN.{get_or}
use lib.Ieee.{nan, lt}
use Rattle.std.specs.Float.Ieee.Scale.{finite}
use Rattle.definitions.specs.Numbers.{zeroᶠ}
use Rattle.definitions.specs.Coarse.{packed_entry}
use Rattle.coarse_inverse.proofs.inverse.is_regular.Given as goal

abbrev pub invariant-loop-x : goal.invariant-loop-x
invariant-loop-x l = (k : ℕ) → k < l.x-index → finite (get_or l.factor.l.now k nan) ≡ true

abbrev pub invariant-loop-i : goal.invariant-loop-i
invariant-loop-i l = (k : ℕ) → k < l.i → lt zeroᶠ (packed_entry l.factor.l.now k k) ≡ true
