use Prim.Native.Nat.{◌*◌}
use mathlib.Core.Path.{◌≡◌}
use mathlib.Core.List.{◌++◌}
use lib.ListN.{drop}
use Rattle.definitions.specs.Lists.{tab}
use Rattle.coarse_solve.specs.RowSums.{row_sum}
use Rattle.coarse_solve.proofs.stored.by_inverse.Given as goal

abbrev pub invariant-loop-g : goal.invariant-loop-g
invariant-loop-g l = l.x ≡ tab (λ i. row_sum l.part l.b l.c (i * l.c)) (8 * l.g) ++ drop (8 * l.g) l.initial.x

abbrev pub invariant-loop-i : goal.invariant-loop-i
invariant-loop-i l = l.x ≡ tab (λ i. row_sum l.part l.b l.c (i * l.c)) l.i ++ drop l.i l.fn.x
