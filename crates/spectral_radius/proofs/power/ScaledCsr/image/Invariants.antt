-- The image grows, and with it the sum of its squares.
use mathlib.Core.Path.{◌≡◌}
use mathlib.Core.List.{◌++◌}
use lib.ListN.{drop}
use Rattle.definitions.specs.Lists.{tab}
use Rattle.definitions.specs.Numbers.{◌*ᶠ◌, summed}
use Rattle.csr32.specs.Seen.{square}
use Rattle.spectral_radius.specs.Power.{image_at}
use Rattle.spectral_radius.proofs.power.ScaledCsr.image.Given as goal

abbrev pub invariant-loop-i : goal.invariant-loop-i
invariant-loop-i l = record {
  filled : l.y ≡ tab (image_at (square l.self.a) l.self.s.now l.x) l.i ++ drop l.i l.initial.y;
  squared : l.sum ≡ summed (tab (λ k. image_at (square l.self.a) l.self.s.now l.x k *ᶠ image_at (square l.self.a) l.self.s.now l.x k) l.i);
}
