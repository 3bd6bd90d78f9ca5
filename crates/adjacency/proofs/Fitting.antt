-- The checks one by one, and what they leave.
use mathlib.Core.Path.{◌≡◌, refl}
use mathlib.Core.Bool.{Bool, true, false}
use Prim.Native.Nat.{ℕ, ◌+◌, ◌*◌, ◌≤◌}
use borrow.Author.Tests.{leb-true}
use lib.Dec.{leb}
use Rattle.definitions.specs.Refusal.{refused, Checked, require, ◌>>=◌}
use Rattle.definitions.specs.declared.Refusal.{Refusal}
use Rattle.laws.proofs.Tests.{three_true}
use Rattle.adjacency.specs.Fits.{enough}

pub require_then : (b : Bool) (r : Refusal) (next : Unit {0} → Checked) → (require b r >>= next) ≡ elim b [ true ↦ next tt | false ↦ refused r ]
unfolding require ◌>>=◌
require_then true r next = refl
require_then false r next = refl

pub enough_are : (nodes entries base ints floats : ℕ) → enough nodes entries base ints floats ≡ true → (2 * nodes ≤ base) × ((base + nodes + 1 + entries ≤ ints) × (3 * nodes ≤ floats))
unfolding enough
enough_are nodes entries base ints floats e =
    let z = three_true (leb (2 * nodes) base) (leb (base + nodes + 1 + entries) ints) (leb (3 * nodes) floats) e in
    (leb-true (2 * nodes) base z.0, (leb-true (base + nodes + 1 + entries) ints z.1, leb-true (3 * nodes) floats z.2))
