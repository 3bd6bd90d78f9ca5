-- What the columns passed put.
use mathlib.Core.Path.{◌≡◌}
use lib.ListN.{take}
use Rattle.laws.specs.Scatter.{scatter}
use Rattle.coarse_matrix.specs.Galerkin.{weight_puts}
use Rattle.coarse_matrix.proofs.galerkin.weigh.Given as goal

abbrev pub invariant-loop-k : goal.invariant-loop-k
invariant-loop-k l = l.coarse ≡ scatter (weight_puts l.sums l.dst l.weight (take l.k-index l.touched)) l.initial.coarse
