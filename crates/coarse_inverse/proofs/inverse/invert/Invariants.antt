use Prim.Native.Nat.{◌+◌, ◌-◌, ◌*◌, min}
use mathlib.Core.Path.{◌≡◌}
use mathlib.Core.List.{◌++◌}
use lib.ListN.{drop}
use Rattle.coarse_inverse.specs.Rows.{solved_rows}
use Rattle.coarse_inverse.proofs.inverse.invert.Given as goal

abbrev pub invariant-loop-i : goal.invariant-loop-i
invariant-loop-i l = l.inverse ≡ solved_rows l.c l.lower (min l.i l.c) ++ drop (min l.i l.c * l.c) l.initial.inverse

abbrev pub decreases-loop-i : goal.decreases-loop-i
decreases-loop-i l = l.c + 16 - l.i
