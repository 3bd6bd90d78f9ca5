-- Sums and lists by index, one element more.
use Prim.Native.Nat.{ℕ, ◌+◌, ◌-◌, ◌≤◌}
use mathlib.Core.Path.{◌≡◌, refl}
use native.Mathlib.Omega.{arith}
use lib.Ieee.{Float}
use Rattle.definitions.specs.Lists.{tab}
use Rattle.definitions.specs.Numbers.{◌-ᶠ◌, reduced}
use Rattle.laws.proofs.Growing.{reduced_more}

-- a sum over j from `first` on
pub reduced_from : (x : Float) (f : ℕ → Float) (first j : ℕ) (s t : Float) → first ≤ j → s ≡ reduced x (tab f (j - first)) → t ≡ s -ᶠ f (j - first) → t ≡ reduced x (tab f (j + 1 - first))
reduced_from x f first j s t h e q = let z : j + 1 - first ≡ j - first + 1 = omega arith in rw z (reduced_more x f (j - first) s t (f (j - first)) e refl q)
