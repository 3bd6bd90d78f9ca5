-- The answer of a grouping call with a log, and what it leaves.
use Rattle.std.specs.Prelude.{Err, Ok, Result}
use mathlib.Core.Path.{◌≡◌, refl, ap, ◌∙◌}
use mathlib.Core.List.{List}
use Prim.Native.Nat.{ℕ, ◌*◌, ◌≤◌, ◌<◌}
use borrow.Author.Tests.{le-leb, lt-leb}
use lib.ListN.{length, replicate}
use Rattle.definitions.specs.Refusal.{Outcome, refused, done, require, ◌>>=◌, result_left, work_left}
use Rattle.definitions.specs.Groups.{Grouping, grouping_call, grouping_left, grouping_work_left, listed, no_anchor}
use Rattle.definitions.specs.JoiningLog.{Logged, with_log, grouping_log_call, grouping_in, log_left}
use Rattle.definitions.specs.Answers.{grouping_log_answer}
use Rattle.definitions.specs.declared.Refusal.{Refusal}
use Rattle.definitions.specs.declared.Refusal.TheVariants.{LogTooShort}
use Rattle.aggregates.specs.Log.{noted}
use Rattle.aggregates.specs.Settled.{LoggedInto}
use Rattle.aggregates.proofs.joining.Noted.{noted_zeros}
use Rattle.definitions.specs.declared.GroupCounts.{GroupCounts}

-- the answer r and the lists after a call
abbrev pub Answered : Outcome Logged → (Result GroupCounts Refusal) → List ℕ → List ℕ → List ℕ → List ℕ → List ℕ → List ℕ → Type 0
Answered call r ids₀ ids log₀ log work₀ work =
    (r ≡ grouping_log_answer call) × ((ids ≡ grouping_left (grouping_in call) ids₀) × ((log ≡ log_left call log₀) × (work ≡ grouping_work_left (grouping_in call) work₀)))

all_left : (call : Outcome Logged) (r : Refusal) (ids log work : List ℕ) → call ≡ refused r → Answered call (Err r) ids ids log log work work
unfolding grouping_log_answer grouping_left grouping_in ◌>>=◌ log_left grouping_work_left
all_left call r ids log work e = rw e (refl, (refl, (refl, refl)))

module _ (nodes size : ℕ) (offsets neighbours ids log work : List ℕ) where
  abbrev call : Outcome Logged
  call = grouping_log_call nodes size offsets neighbours (length ids) (length log) (length work)

  abbrev plain : Outcome Grouping
  plain = grouping_call nodes size offsets neighbours (length ids) (length work)

  -- a cause that grouping alone finds
  pub log_refused : (r : Refusal) → plain ≡ refused r → Answered call (Err r) ids ids log log work work
  unfolding grouping_log_call ◌>>=◌
  log_refused r e = all_left call r ids log work (rw e refl)

  module _ (g : Grouping) (accepted : plain ≡ done g) where
    -- cause 29
    pub log_short : length log < 3 * nodes → Answered call (Err LogTooShort) ids ids log log work work
    unfolding grouping_log_call ◌>>=◌ require
    log_short h = all_left call LogTooShort ids log work (rw (accepted, lt-leb (3 * nodes) (length log) h) refl)

    abbrev logged : Logged
    logged = with_log (listed offsets neighbours) no_anchor nodes size g

    call_logged : 3 * nodes ≤ length log → call ≡ done logged
    unfolding grouping_log_call ◌>>=◌ require
    call_logged h = rw (accepted, le-leb (3 * nodes) (length log) h) refl

    pub log_accepted : 3 * nodes ≤ length log → (cleared ids' log' work' : List ℕ) (count joinings : ℕ) → cleared ≡ replicate (length log) 0 → length logged.log ≤ length log → LoggedInto logged ids ids' cleared log' count joinings → work' ≡ replicate (length work) 0 → Answered call (Ok (record { groups = count; joinings = joinings })) ids ids' log log' work work'
    unfolding grouping_log_answer grouping_left grouping_in ◌>>=◌ log_left grouping_work_left result_left work_left
    log_accepted h cleared ids' log' work' count joinings z fits l e = rw (call_logged h) (rw (l.number, l.joined) refl, (l.groups, (l.written ∙ ap (noted 0 logged.log) z ∙ noted_zeros (length log) logged.log fits, e)))
