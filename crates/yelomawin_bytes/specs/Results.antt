-- What setup and apply on byte lists return, and leave in the bytes of their results. `fits` says that every byte list is of whole numbers and has its room.
use Rattle.std.specs.Prelude.{ℕ, ◌≡◌, Bool, cond, ◌&&◌, List, []}
use Rattle.byte_lists.specs.Bytes.{ints_of, numbers_of, floats_of, bytes_of_ints, bytes_of_floats}
use Rattle.definitions.specs.Numbers.{zeroᶠ}
use Rattle.definitions.specs.Refusal.{Outcome, work_left}
use Rattle.definitions.specs.Matrix.{Matrix}
use Rattle.definitions.specs.Setup.{Lent, Built, setup_of, lengths_of}
use Rattle.definitions.specs.Apply.{apply_call}
use Rattle.definitions.specs.Answers.{answer_of, answer_number, setup_answer, setup_values}
use Rattle.definitions.specs.Record.{are_policies, record_of, is_record}
use Rattle.yelomawin.specs.Boundary.{options_of, whether, no_policy}
use Rattle.yelomawin_bytes.specs.Calls.{misfit, after, bytes_left, answer_left}

pub record SetupBytes : Type 0 where
  pub number : ℕ
  pub ints : List ℕ
  pub floats : List ℕ
  pub numbers : List ℕ

-- `lent` are the rooms of the setup lists and the work lists, `room` that of the record
abbrev pub bytes_setup : Bool → Matrix → ℕ → ℕ → ℕ → ℕ → ℕ → Lent → List ℕ → List ℕ → List ℕ → List ℕ → SetupBytes
bytes_setup fits a size groupSize aggregation basis policy lent room ints floats numbers =
    let known = are_policies aggregation basis policy in
    let s = setup_of a (options_of size groupSize aggregation basis policy) (lengths_of lent) in
    record {
      number = cond fits (whether known (answer_number (setup_answer s)) no_policy) misfit;
      ints = after (fits && known) (bytes_left (λ (b : Built). bytes_of_ints b.ints) s) ints;
      floats = after (fits && known) (bytes_left (λ (b : Built). bytes_of_floats b.floats) s) floats;
      numbers = after fits (answer_left (whether known (setup_values (setup_answer s)) []) room) numbers;
    }

pub record ApplyBytes : Type 0 where
  pub number : ℕ
  pub correction : List ℕ

-- `room` is the length of the correction's room, `workRoom` that of the work list
abbrev pub bytes_apply : Bool → List ℕ → List ℕ → List ℕ → List ℕ → ℕ → ℕ → List ℕ → ApplyBytes
bytes_apply fits numbers ints floats residual room workRoom correction =
    let n = numbers_of numbers in
    let known = is_record n in
    let o = apply_call (record_of n) (ints_of ints) (floats_of floats) (floats_of residual) room workRoom in
    record {
      number = cond fits (whether known (answer_number (answer_of o)) 26) misfit;
      correction = after (fits && known) (bytes_left bytes_of_floats o) correction;
    }

-- the rooms of the setup lists, and the work lists, are all work lists of the call
pub record LentLeft (made : Bool) (s : Outcome Built) (lent left : Lent) : Type 0 where
  pub ints : left.ints ≡ after made (work_left 0 s) lent.ints
  pub floats : left.floats ≡ after made (work_left zeroᶠ s) lent.floats
  pub work_ints : left.work_ints ≡ after made (work_left 0 s) lent.work_ints
  pub work_floats : left.work_floats ≡ after made (work_left zeroᶠ s) lent.work_floats
