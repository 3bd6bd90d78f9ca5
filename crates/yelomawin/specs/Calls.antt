-- What each exported function returns and leaves, from its arguments: its number, the lists lent for writing, and the list that receives what is returned with the number.
use Rattle.std.specs.Prelude.{ℕ, List, [], length, Float}
use Rattle.definitions.specs.Numbers.{zeroᶠ}
use Rattle.definitions.specs.Refusal.{Outcome, refused, result_left, work_left}
use Rattle.definitions.specs.Matrix.{Matrix}
use Rattle.definitions.specs.Diagonal.{diagonal_call, diagonal_left}
use Rattle.definitions.specs.Block.{blocks_call, blocks_left, block_apply_call, block_apply_left}
use Rattle.definitions.specs.Groups.{grouping_call, grouping_left, grouping_work_left}
use Rattle.definitions.specs.JoiningLog.{grouping_log_call, grouping_in, log_left}
use Rattle.definitions.specs.Estimate.{estimate_call, estimate_work_left}
use Rattle.definitions.specs.Setup.{Lent, setup_of, setup_left, lengths_of}
use Rattle.definitions.specs.Apply.{apply_call}
use Rattle.definitions.specs.Answers.{answer_of, answer_number, answer_values, grouping_answer, grouping_values, grouping_log_answer, grouping_log_values, estimate_answer, estimate_values, setup_answer, setup_values}
use Rattle.definitions.specs.Record.{are_policies, record_of, is_record}
use Rattle.definitions.specs.declared.Refusal.TheVariants.{SetupMisfit}
use Rattle.yelomawin.specs.Boundary.{received, options_of, whether, no_policy}

pub record Handed (L : Type 0) : Type 0 where
  pub number : ℕ
  pub lists : L
  pub answer : List ℕ

abbrev pub handed : {L : Type 0} → ℕ → L → List ℕ → Handed L
handed number lists answer = record { number = number; lists = lists; answer = answer }

-- a result list and a work list
pub record ResultWork (A : Type 0) : Type 0 where
  pub result : List A
  pub work : List A

abbrev pub result_work : {A : Type 0} → List A → List A → ResultWork A
result_work result work = record { result = result; work = work }

-- the lists that grouping with a log is lent for writing
pub record LogLists : Type 0 where
  pub ids : List ℕ
  pub log : List ℕ
  pub work : List ℕ

abbrev pub log_lists : List ℕ → List ℕ → List ℕ → LogLists
log_lists ids log work = record { ids = ids; log = log; work = work }

-- a call that returns nothing where it is accepted
unfoldable pub exported : {A L : Type 0} → Outcome A → L → List ℕ → Handed L
exported o lists answer = handed (answer_number (answer_of o)) lists (received (answer_values (answer_of o)) answer)

unfoldable pub exported_diagonal : Matrix → List Float → List ℕ → Handed (List Float)
exported_diagonal a diagonal answer = exported (diagonal_call a (length diagonal)) (diagonal_left a diagonal) answer

unfoldable pub exported_blocks : Matrix → ℕ → List Float → List ℕ → Handed (List Float)
exported_blocks a size factors answer = exported (blocks_call a size (length factors)) (blocks_left a size factors) answer

unfoldable pub exported_block_apply : ℕ → ℕ → List Float → List Float → List Float → List ℕ → Handed (List Float)
exported_block_apply rows size factors r correction answer = exported (block_apply_call rows size factors r (length correction)) (block_apply_left rows size factors r correction) answer

unfoldable pub exported_group : ℕ → ℕ → List ℕ → List ℕ → List ℕ → List ℕ → List ℕ → Handed (ResultWork ℕ)
exported_group nodes size offsets neighbours ids work answer =
    let g = grouping_call nodes size offsets neighbours (length ids) (length work) in
    handed (answer_number (grouping_answer g)) (result_work (grouping_left g ids) (grouping_work_left g work)) (received (grouping_values (grouping_answer g)) answer)

unfoldable pub exported_group_log : ℕ → ℕ → List ℕ → List ℕ → LogLists → List ℕ → Handed LogLists
exported_group_log nodes size offsets neighbours lent answer =
    let g = grouping_log_call nodes size offsets neighbours (length lent.ids) (length lent.log) (length lent.work) in
    handed
    (answer_number (grouping_log_answer g))
    (log_lists (grouping_left (grouping_in g) lent.ids) (log_left g lent.log) (grouping_work_left (grouping_in g) lent.work))
    (received (grouping_log_values (grouping_log_answer g)) answer)

unfoldable pub exported_estimate : Matrix → List Float → List Float → List ℕ → Handed (List Float)
exported_estimate a d work answer =
    let e = estimate_call a d (length work) in
    handed (answer_number (estimate_answer e)) (estimate_work_left a d work) (received (estimate_values (estimate_answer e)) answer)

-- the list that receives the record; a number that is no policy keeps the four lists, and the record receives zeros
unfoldable pub exported_setup : Matrix → ℕ → ℕ → ℕ → ℕ → ℕ → Lent → List ℕ → Handed Lent
exported_setup a size groupSize aggregation basis policy lent «record» =
    let s = setup_of a (options_of size groupSize aggregation basis policy) (lengths_of lent) in
    whether (are_policies aggregation basis policy)
    (handed (answer_number (setup_answer s)) (setup_left s lent) (received (setup_values (setup_answer s)) «record»))
    (handed no_policy lent (received [] «record»))

-- a list that is no record is 26, before all else
unfoldable pub exported_apply : List ℕ → List ℕ → List Float → List Float → List Float → List Float → List ℕ → Handed (ResultWork Float)
exported_apply «record» ints floats r correction work answer =
    let o = whether (is_record «record») (apply_call (record_of «record») ints floats r (length correction) (length work)) (refused SetupMisfit) in
    exported o (result_work (result_left zeroᶠ o correction) (work_left zeroᶠ o work)) answer
