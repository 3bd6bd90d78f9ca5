-- Causes 20 to 22 leave zeros: an estimate that is refused leaves the work list as one that is not.
use mathlib.Core.Path.{◌≡◌, refl}
use mathlib.Core.List.{List}
use lib.ListN.{length, replicate}
use lib.Ieee.{Float}
use Rattle.definitions.specs.Numbers.{zeroᶠ}
use Rattle.definitions.specs.Refusal.{Outcome, refused, done, work_left}
use Rattle.definitions.specs.Matrix.{Matrix}
use Rattle.definitions.specs.Estimate.{estimate_of}
use Rattle.laws.proofs.Clearing.{Clears, clears_estimate}

zeros : {A : Type 0} (o : Outcome A) (lent : List Float) → Clears o → work_left zeroᶠ o lent ≡ replicate (length lent) zeroᶠ
unfolding Clears work_left
zeros (done x) lent h = refl
zeros (refused r) lent h = rw (h, work_left)

pub estimate_clears : (a : Matrix) (d lent : List Float) → work_left zeroᶠ (estimate_of a d) lent ≡ replicate (length lent) zeroᶠ
estimate_clears a d lent = zeros (estimate_of a d) lent (clears_estimate a d)
