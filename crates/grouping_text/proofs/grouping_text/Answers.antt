-- `grouping_text`: one piece, fed to a fresh reader.
use Prim.Native.Nat.{ℕ}
use native.Mathlib.Omega.{arith}
use lib.ListN.{length-replicate}
use Rattle.grouping_text.proofs.Program.{text_said}
use Rattle.grouping_text.proofs.grouping_text.Goals as goal

pub returns-clause-value : goal.returns-clause-value
returns-clause-value c =
    rw (← text_said _ _ _ _ _ (omega (arith, length-replicate {A = ℕ} 2307 0)) c.start.ensures c.feed-all.ensures) c.finish.ensures.value

pub returns-clause-out_after : goal.returns-clause-out_after
returns-clause-out_after c =
    rw (← text_said _ _ _ _ _ (omega (arith, length-replicate {A = ℕ} 2307 0)) c.start.ensures c.feed-all.ensures) c.finish.ensures.out_after
