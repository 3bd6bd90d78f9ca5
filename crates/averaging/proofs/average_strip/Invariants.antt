-- Column by column: each column's pairs of the strip begin at the strip's first row, or just below the diagonal.
use Rattle.averaging.specs.Averaging.{Tile, Averages}
use Rattle.averaging.proofs.average_strip.Given as goal

abbrev pub invariant-loop-j : goal.invariant-loop-j
invariant-loop-j l = Averages l.c (Tile l.first l.end 0 l.j) l.initial.m l.m
