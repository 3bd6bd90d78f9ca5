-- A list filled by index is a `tab`.
use mathlib.Core.Path.{◌≡◌}
use mathlib.Core.List.{◌++◌}
use lib.ListN.{get_or, drop}
use lib.Ieee.{nan}
use Rattle.definitions.specs.Lists.{tab}
use Rattle.definitions.specs.Numbers.{oneᶠ, rootᶠ, ◌/ᶠ◌}
use Rattle.spectral_radius.proofs.diagonal.inverse_roots.Given as goal

abbrev pub invariant-loop-i : goal.invariant-loop-i
invariant-loop-i l = l.s ≡ tab (λ k. oneᶠ /ᶠ rootᶠ (get_or l.d k nan)) l.i ++ drop l.i l.initial.s
