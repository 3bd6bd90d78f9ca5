-- The rows left to do give, from the sums so far, what the whole gives.
use mathlib.Core.Path.{◌≡◌}
use Prim.Native.Nat.{◌-◌}
use lib.ListN.{length, take}
use Rattle.csr32.specs.Seen.{square}
use Rattle.definitions.specs.Diagonal.{diagonal_from, diagonal_of}
use Rattle.csr32.proofs.diagonal.fill_diagonal.Given as goal

abbrev pub invariant-loop-i : goal.invariant-loop-i
invariant-loop-i l = (length l.diagonal ≡ length l.initial.diagonal) × (diagonal_from (square l.a) (l.a.rows - l.i) l.i (take l.i l.diagonal) ≡ diagonal_of (square l.a))
