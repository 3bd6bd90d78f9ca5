-- Where the place lies outside the log, nothing is written.
use mathlib.Core.Path.{sym}
use native.Mathlib.Omega.{arith}
use Rattle.aggregates.proofs.joining.Noted.{noted_outside}
use Rattle.aggregates.proofs.joining_log.log_joining.Goals as goal

pub returns-else-place-log-clause-log_after : goal.returns-else-place-log-clause-log_after
returns-else-place-log-clause-log_after c = sym (noted_outside _ _ _ (omega arith))
