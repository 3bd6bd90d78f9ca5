use Prim.Native.Nat.{◌+◌, ◌*◌}
use mathlib.Core.Path.{◌≡◌}
use mathlib.Core.List.{List, ◌++◌}
use lib.ListN.{drop}
use lib.Ieee.{Float}
use Rattle.coarse_inverse.specs.Rows.{solved_rows}
use Rattle.coarse_inverse.proofs.inverse.solve_rows.Given as goal

abbrev pub invariant-loop-r : goal.invariant-loop-r
invariant-loop-r l =
    let c = l.factor.n in
    let rows = solved_rows c l.factor.l.now in
    (u : List Float) → l.initial.inverse ≡ rows l.i ++ drop (l.i * c) u → l.inverse ≡ rows (l.i + l.r) ++ drop ((l.i + l.r) * c) u
