-- What it tells of a call that its number is 0, which no cause has; and that the record list which setup leaves reads back as its record.
use Prim.Native.Nat.{ℕ, ◌-◌, ◌≤◌}
use mathlib.Core.Path.{◌≡◌, refl}
use mathlib.Core.Bool.{Bool, true, false}
use mathlib.Core.List.{List, [], ◌++◌, append-nil}
use native.Mathlib.Nat.{le_trans}
use native.Mathlib.Omega.{arith}
use lib.Dec.{T, leb, leb→le}
use lib.ListN.{length, get_or, replicate, length-append, length-replicate, length-take}
use lib.Seq.{take_all}
use lib.Ieee.{Float}
use lib.Ieee.Fits.{and_l}
use Rattle.definitions.specs.Lists.{padded}
use Rattle.definitions.specs.Numbers.{zeroᶠ}
use Rattle.definitions.specs.Refusal.{Outcome, refused, done, result_left}
use Rattle.definitions.specs.Matrix.{Matrix}
use Rattle.definitions.specs.Setup.{Lent, Built, setup_of, setup_left, lengths_of}
use Rattle.definitions.specs.Apply.{apply_call}
use Rattle.definitions.specs.Answers.{answer_of, answer_number, setup_answer, setup_values, values_with}
use Rattle.definitions.specs.Record.{are_policies, record_numbers, record_of, is_record}
use Rattle.definitions.specs.Separation.{is_done}
use Rattle.definitions.specs.declared.Setup.{Setup}
use Rattle.definitions.specs.declared.Refusal.TheVariants.{SetupMisfit}
use Rattle.yelomawin.specs.Boundary.{received, options_of, whether, no_policy}
use Rattle.yelomawin.specs.Calls.{Handed, handed, exported, exported_setup, exported_apply}
use Rattle.laws.proofs.Causes.{no_cause}
use Rattle.laws.proofs.Record.{HoldsF64s, record_behind, is_record_behind}

-- ---- setup

module _ (lent : Lent) (numbers : List ℕ) where
  pub record Accepted (s : Outcome Built) (h : Handed Lent) : Type 0 where
    pub built : Built
    pub is : s ≡ done built
    pub hands : h ≡ handed 0 (setup_left (done built) lent) (received (record_numbers built.setup) numbers)

  taken : (known : Bool) (s : Outcome Built)
      → (whether known (handed (answer_number (setup_answer s)) (setup_left s lent) (received (setup_values (setup_answer s)) numbers)) (handed no_policy lent (received [] numbers))).number ≡ 0
      → Accepted s (whether known (handed (answer_number (setup_answer s)) (setup_left s lent) (received (setup_values (setup_answer s)) numbers)) (handed no_policy lent (received [] numbers)))
  unfolding whether answer_number setup_answer setup_values values_with
  taken true (done b) e = record { built = b; is = refl; hands = refl }
  taken true (refused r) e = absurd (no_cause r e)
  taken false s e = absurd (omega (arith, e))

  pub accepted_setup : (a : Matrix) (size groupSize aggregation basis policy : ℕ) → (exported_setup a size groupSize aggregation basis policy lent numbers).number ≡ 0
      → Accepted (setup_of a (options_of size groupSize aggregation basis policy) (lengths_of lent)) (exported_setup a size groupSize aggregation basis policy lent numbers)
  unfolding exported_setup
  accepted_setup a size groupSize aggregation basis policy e = taken (are_policies aggregation basis policy) (setup_of a (options_of size groupSize aggregation basis policy) (lengths_of lent)) e

-- ---- apply

pub record Applied (known : Bool) (o : Outcome (List Float)) (z left : List Float) : Type 0 where
  pub is_known : T known
  pub accepted : T (is_done o)
  pub hands : left ≡ result_left zeroᶠ o z

run_taken : (known : Bool) (o : Outcome (List Float)) (z : List Float) → answer_number (answer_of (whether known o (refused SetupMisfit))) ≡ 0
    → Applied known o z (result_left zeroᶠ (whether known o (refused SetupMisfit)) z)
unfolding whether answer_of answer_number is_done
run_taken true (done x) z e = record { is_known = tt; accepted = tt; hands = refl }
run_taken true (refused r) z e = absurd (no_cause r e)
run_taken false o z e = absurd (no_cause SetupMisfit e)

module _ (numbers ints : List ℕ) (floats r z w : List Float) (u : List ℕ) where
  pub accepted_run : (exported_apply numbers ints floats r z w u).number ≡ 0
      → Applied (is_record numbers) (apply_call (record_of numbers) ints floats r (length z) (length w)) z (exported_apply numbers ints floats r z w u).lists.result
  unfolding exported_apply exported
  accepted_run e = run_taken (is_record numbers) (apply_call (record_of numbers) ints floats r (length z) (length w)) z e

  -- and the other way round
  pub run_accepted : (y : List Float) → T (is_record numbers) → apply_call (record_of numbers) ints floats r (length z) (length w) ≡ done y → length y ≡ length z
      → ((exported_apply numbers ints floats r z w u).number ≡ 0) × ((exported_apply numbers ints floats r z w u).lists.result ≡ y)
  unfolding exported_apply exported whether answer_of answer_number result_left padded
  run_accepted y t e long = go (is_record numbers) (apply_call (record_of numbers) ints floats r (length z) (length w)) t e
    where
      full : padded zeroᶠ (length z) y ≡ y
      full = let none : length z - length y ≡ 0 = omega (arith, long) in rw (none, append-nil)

      go : (known : Bool) (o : Outcome (List Float)) → T known → o ≡ done y
          → (answer_number (answer_of (whether known o (refused SetupMisfit))) ≡ 0) × (result_left zeroᶠ (whether known o (refused SetupMisfit)) z ≡ y)
      go true o h d = rw d (refl, full)
      go false o h d = absurd h

-- ---- the record list that setup leaves is a record exactly where it is long enough, and reads back as setup's record

module _ (s : Setup) (numbers : List ℕ) where
  length_received : length (received (record_numbers s) numbers) ≤ length numbers
  unfolding received
  length_received = rw (length-take (length numbers) (padded 0 (length numbers) (record_numbers s))) (omega arith)

  pub record_room : T (is_record (received (record_numbers s) numbers)) → 15 ≤ length numbers
  unfolding is_record
  record_room t =
      let l = received (record_numbers s) numbers in
      let h = leb→le 15 (length l) (and_l (leb 15 (length l)) (are_policies (get_or l 8 0) (get_or l 9 0) (get_or l 10 0)) t) in
      le_trans h length_received

  module _ (room : 15 ≤ length numbers) where
    abbrev behind : List ℕ
    behind = replicate (length numbers - length (record_numbers s)) 0

    pub all_received : received (record_numbers s) numbers ≡ record_numbers s ++ behind
    unfolding received padded record_numbers
    all_received = take_all (length numbers) (record_numbers s ++ behind) (rw (length-append (record_numbers s) behind, length-replicate {A = ℕ} (length numbers - 15) 0) (omega arith))

    pub received_record : HoldsF64s s → record_of (received (record_numbers s) numbers) ≡ s
    received_record h = rw all_received (record_behind s behind h)

    pub received_is_record : T (is_record (received (record_numbers s) numbers))
    received_is_record = rw all_received (is_record_behind s behind)
