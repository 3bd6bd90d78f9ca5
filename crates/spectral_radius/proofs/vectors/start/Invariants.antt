-- A list filled by index is a `tab`.
use Prim.Native.Nat.{◌+◌, ◌*◌, ◌%◌}
use mathlib.Core.Path.{◌≡◌}
use mathlib.Core.List.{◌++◌}
use lib.ListN.{drop}
use Rattle.definitions.specs.Lists.{tab}
use Rattle.definitions.specs.Numbers.{◌+ᶠ◌, oneᶠ, ofℕ}
use Rattle.spectral_radius.proofs.vectors.start.Given as goal

abbrev pub invariant-loop-k : goal.invariant-loop-k
invariant-loop-k l = l.x ≡ tab (λ i. oneᶠ +ᶠ ofℕ ((17 * i + 11) % 101)) l.k ++ drop l.k l.initial.x
