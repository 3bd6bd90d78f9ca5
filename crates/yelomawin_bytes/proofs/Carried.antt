-- What setup and apply tell of lists that are parts of their room is told of the lists that were read.
use Prim.Native.Nat.{ℕ}
use mathlib.Core.Path.{◌≡◌}
use mathlib.Core.Bool.{Bool, true, false}
use mathlib.Core.List.{List, []}
use lib.Ieee.{Float}
use lib.ListN.{length}
use Rattle.definitions.specs.Numbers.{zeroᶠ}
use Rattle.definitions.specs.Refusal.{Outcome, refused, number_of, values_of, cause_of, result_left, work_left, keeps_all}
use Rattle.definitions.specs.declared.Refusal.TheVariants.{SetupMisfit}
use Rattle.definitions.specs.Matrix.{csr}
use Rattle.definitions.specs.Setup.{Lent, Built, setup_of, setup_left, lengths_of}
use Rattle.definitions.specs.Apply.{apply_call, apply_left, apply_work_left}
use Rattle.definitions.specs.Answers.{answer_of, answer_number, setup_answer, answer_values, setup_values, values_with}
use Rattle.definitions.specs.Record.{are_policies, record_of, is_record}
use Rattle.yelomawin.specs.Boundary.{received, options_of, whether, no_policy}
use Rattle.yelomawin.specs.Calls.{handed, result_work, exported, exported_setup, exported_apply}
use Rattle.yelomawin.proofs.Handing.{parts, two_parts}

abbrev pub ApplyTold : List ℕ → List ℕ → List Float → List Float → List Float → List Float → List ℕ → ℕ → List Float → List Float → List ℕ → Type 0
ApplyTold n i f x z w a r z₂ w₂ a₂ =
    (r ≡ whether (is_record n) (answer_number (answer_of (apply_call (record_of n) i f x (length z) (length w)))) 26)
    × ((z₂ ≡ whether (is_record n) (apply_left (record_of n) i f x z (length w)) z)
    × ((w₂ ≡ whether (is_record n) (apply_work_left (record_of n) i f x (length z) w) w)
    × (a₂ ≡ received (whether (is_record n) (answer_values (answer_of (apply_call (record_of n) i f x (length z) (length w)))) []) a)))

pub apply_carried : {n n₂ i i₂ : List ℕ} {f f₂ x x₂ : List Float} (z w : List Float) (a : List ℕ) (r : ℕ) (z₂ w₂ : List Float) (a₂ : List ℕ) → n ≡ n₂ → i ≡ i₂ → f ≡ f₂ → x ≡ x₂
    → handed r (result_work z₂ w₂) a₂ ≡ exported_apply n i f x z w a → ApplyTold n₂ i₂ f₂ x₂ z w a r z₂ w₂ a₂
unfolding exported_apply exported apply_left apply_work_left whether answer_of answer_number answer_values number_of values_of cause_of result_left work_left keeps_all values_with
apply_carried {n} {n₂} {i} {i₂} {f} {f₂} {x} {x₂} z w a r z₂ w₂ a₂ p q s u t = rw (← p, ← q, ← s, ← u) (by (is_record n) (apply_call (record_of n) i f x (length z) (length w)) (two_parts t))
  where
    by : (known : Bool) (o : Outcome (List Float))
        → (r ≡ answer_number (answer_of (whether known o (refused SetupMisfit)))) × ((z₂ ≡ result_left zeroᶠ (whether known o (refused SetupMisfit)) z)
        × ((w₂ ≡ work_left zeroᶠ (whether known o (refused SetupMisfit)) w) × (a₂ ≡ received (answer_values (answer_of (whether known o (refused SetupMisfit)))) a)))
        → (r ≡ whether known (answer_number (answer_of o)) 26) × ((z₂ ≡ whether known (result_left zeroᶠ o z) z)
        × ((w₂ ≡ whether known (work_left zeroᶠ o w) w) × (a₂ ≡ received (whether known (answer_values (answer_of o)) []) a)))
    by true o h = h
    by false o h = h

abbrev pub SetupTold : ℕ → ℕ → List ℕ → List ℕ → List Float → ℕ → ℕ → ℕ → ℕ → ℕ → Lent → List ℕ → ℕ → Lent → List ℕ → Type 0
SetupTold rows cols p i v block group aggregation basis policy lent a r left a₂ =
    (r ≡ whether (are_policies aggregation basis policy) (answer_number (setup_answer (setup_of (csr rows cols p i v) (options_of block group aggregation basis policy) (lengths_of lent)))) no_policy)
    × ((left ≡ whether (are_policies aggregation basis policy) (setup_left (setup_of (csr rows cols p i v) (options_of block group aggregation basis policy) (lengths_of lent)) lent) lent)
    × (a₂ ≡ received (whether (are_policies aggregation basis policy) (setup_values (setup_answer (setup_of (csr rows cols p i v) (options_of block group aggregation basis policy) (lengths_of lent)))) []) a))

pub setup_carried : {p p₂ i i₂ : List ℕ} {v v₂ : List Float} (rows cols block group aggregation basis policy : ℕ) (lent : Lent) (a : List ℕ) (r : ℕ) (left : Lent) (a₂ : List ℕ) → p ≡ p₂ → i ≡ i₂ → v ≡ v₂
    → handed r left a₂ ≡ exported_setup (csr rows cols p i v) block group aggregation basis policy lent a → SetupTold rows cols p₂ i₂ v₂ block group aggregation basis policy lent a r left a₂
unfolding exported_setup whether
setup_carried {p} {p₂} {i} {i₂} {v} {v₂} rows cols block group aggregation basis policy lent a r left a₂ e f g t =
    rw (← e, ← f, ← g) (by (are_policies aggregation basis policy) (setup_of (csr rows cols p i v) (options_of block group aggregation basis policy) (lengths_of lent)) t)
  where
    by : (known : Bool) (s : Outcome Built) → handed r left a₂ ≡ whether known (handed (answer_number (setup_answer s)) (setup_left s lent) (received (setup_values (setup_answer s)) a)) (handed no_policy lent (received [] a))
        → (r ≡ whether known (answer_number (setup_answer s)) no_policy) × ((left ≡ whether known (setup_left s lent) lent) × (a₂ ≡ received (whether known (setup_values (setup_answer s)) []) a))
    by true s h = parts h
    by false s h = parts h
