use Prim.Native.Nat.{ℕ, ◌+◌}
use mathlib.Core.Path.{◌≡◌}
use lib.ListN.{length}
use lib.Ieee.{Float}
use Rattle.definitions.specs.Factor.{below_diagonal}
use Rattle.definitions.specs.Coarse.{packed}
use Rattle.coarse_factor.specs.Fronts.{Fronts}
use Rattle.coarse_factor.proofs.factor.put_row.Given as goal

abbrev pub invariant-loop-k : goal.invariant-loop-k
invariant-loop-k l = record {
  long : length l.l ≡ length l.initial.l;
  made : (a : ℕ → ℕ → Float) (n : ℕ) → l.i ≡ n + l.lane → Fronts a l.initial.l l.w n l.i → l.l ≡ below_diagonal packed a l.i l.k l.initial.l;
}
