-- Row by row one pair more, apart from those before it.
use Prim.Native.Nat.{◌+◌}
use Rattle.averaging.specs.Averaging.{Tile, Averages}
use Rattle.averaging.proofs.average_column.Given as goal

abbrev pub invariant-loop-i : goal.invariant-loop-i
invariant-loop-i l = Averages l.c (Tile l.from l.i l.j (l.j + 1)) l.initial.m l.m
