-- What the rounds that are left make of the vector stays what all make of the first.
use mathlib.Core.Path.{◌≡◌}
use Prim.Native.Nat.{◌-◌}
use Rattle.definitions.specs.Estimate.{rounds}
use Rattle.csr32.specs.Seen.{square}
use Rattle.spectral_radius.proofs.power.ScaledCsr.rounds.Given as goal

abbrev pub invariant-loop : goal.invariant-loop
invariant-loop l = rounds (square l.self.a) l.self.s.now (10 - l.counter) l.x ≡ rounds (square l.self.a) l.self.s.now 10 l.initial.x
