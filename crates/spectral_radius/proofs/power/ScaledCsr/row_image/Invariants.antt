-- The sum is that of the products passed.
use mathlib.Core.Path.{◌≡◌}
use lib.ListN.{length}
use Rattle.csr32.specs.Parts.{part}
use Rattle.spectral_radius.proofs.Products.{added}
use Rattle.spectral_radius.proofs.power.ScaledCsr.row_image.Given as goal

abbrev pub invariant-loop-column : goal.invariant-loop-column
invariant-loop-column l = let a = l.self.a in l.sum ≡ added (part a.row_ptr.now l.i a.col_idx.now) (part a.row_ptr.now l.i a.values.now) l.self.s.now l.x (length l.yielded)
