-- Strip by strip, until the last ends at row c.
use Prim.Native.Nat.{◌*◌}
use Rattle.averaging.specs.Averaging.{Tile, Averages}
use Rattle.averaging.proofs.average_rows.Given as goal

abbrev pub invariant-loop-strip : goal.invariant-loop-strip
invariant-loop-strip l = Averages l.c (Tile 0 (l.strip * 8) 0 l.c) l.initial.m l.m
