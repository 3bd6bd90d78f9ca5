-- The premises can be met: diag(16,4) under Graph, group size 1, with the first node as the part and the residuals (16,4) and (16,40); every list as long as its cause asks, no longer.
use Prim.Native.Nat.{ℕ}
use mathlib.Core.Path.{◌≡◌, refl}
use mathlib.Core.Bool.{Bool, true}
use mathlib.Core.List.{List, [], ◌∷◌, flat_map}
use native.Mathlib.Nat.{le_refl}
use lib.Dec.{T, eqb}
use lib.ListN.{replicate}
use lib.Ieee.{Float}
use Rattle.byte_lists.specs.Bytes.{spelled, word_at, words_of, floats_of, byte_of, bytes_of, bytes_of_ints, bytes_of_floats}
use Rattle.definitions.specs.Lists.{pointers_from}
use Rattle.definitions.specs.Numbers.{zeroᶠ, ofℕ}
use Rattle.definitions.specs.Matrix.{Matrix}
use Rattle.definitions.specs.Setup.{Lent}
use Rattle.definitions.specs.Answers.{setup_values, values_with}
use Rattle.definitions.specs.Record.{aggregation_of, basis_of, policy_of, aggregation_number, basis_number, policy_number, are_policies, record_numbers, record_of, is_record}
use Rattle.definitions.specs.Separation.{Apart, agree}
use Rattle.definitions.proofs.Opened.{all_open}
use Rattle.definitions.proofs.Examples.{proved_hold}
use Rattle.yelomawin.specs.Boundary.{received, options_of, whether}
use Rattle.yelomawin.specs.Calls.{Handed, ResultWork, exported, exported_setup, exported_apply}
use Rattle.yelomawin_bytes.specs.Calls.{matrix_of, bytes_left, answer_left}
use Rattle.yelomawin_bytes.specs.Results.{SetupBytes, bytes_setup, ApplyBytes, bytes_apply}
use Rattle.separation_of_exports.proofs.Exports.{separation_of_exports}
use Rattle.separation_of_exports.proofs.ByteExports.{separation_of_byte_exports}

abbrev diagonal : Matrix
diagonal = record { rows = 2; cols = 2; row_ptr = 0 ∷ 1 ∷ 2 ∷ []; col_idx = 0 ∷ 1 ∷ []; values = ofℕ 16 ∷ ofℕ 4 ∷ [] }

abbrev lent : Lent
lent = record { ints = replicate 9 0; floats = replicate 10 zeroᶠ; work_ints = replicate 48 0; work_floats = replicate 32 zeroᶠ }

-- block size 1, group size 1, Graph, PiecewiseConstant, Auto
abbrev setup : Handed Lent
setup = exported_setup diagonal 1 1 1 0 0 lent (replicate 15 0)

abbrev first_node : ℕ → Bool
first_node v = eqb v 0

abbrev load : ℕ → List Float
load y = ofℕ 16 ∷ ofℕ y ∷ []

abbrev run : ℕ → Handed (ResultWork Float)
run y = exported_apply setup.answer setup.lists.ints setup.lists.floats (load y) (replicate 2 zeroᶠ) (replicate 4 zeroᶠ) []

premises : Apart diagonal (options_of 1 1 1 0 0) first_node (load 4) (load 40)
unfolding pointers_from flat_map options_of aggregation_of basis_of policy_of
premises = proved_hold.1

-- the definitions of the boundary, to compute with
unfoldable boundary_open : ℕ
unfolding exported_setup exported_apply exported received options_of whether aggregation_of basis_of policy_of aggregation_number basis_number policy_number are_policies record_numbers record_of is_record setup_values values_with
boundary_open = 0

accepted : (setup.number ≡ 0) × ((run 4).number ≡ 0) × ((run 40).number ≡ 0)
unfolding all_open boundary_open
accepted = (refl, refl, refl)

-- so the two correction lists agree on the first row, whatever computing them would show
pub exports_apart : T (agree first_node 1 2 (run 4).lists.result (run 40).lists.result)
exports_apart =
    let z = replicate 2 zeroᶠ in
    let w = replicate 4 zeroᶠ in
    separation_of_exports diagonal 1 1 1 0 0 lent (replicate 15 0) accepted.0 first_node (load 4) (load 40) premises z z w w [] [] accepted.1 accepted.2

-- ---- through the functions on byte lists

abbrev setup_bytes : SetupBytes
setup_bytes =
    bytes_setup true (matrix_of 2 2 (bytes_of_ints (0 ∷ 1 ∷ 2 ∷ [])) (bytes_of_ints (0 ∷ 1 ∷ [])) (bytes_of_floats (ofℕ 16 ∷ ofℕ 4 ∷ []))) 1 1 1 0 0 lent (replicate 15 0) (replicate 36 0) (replicate 80 0) (replicate 120 0)

abbrev run_bytes : ℕ → ApplyBytes
run_bytes y = bytes_apply true setup_bytes.numbers setup_bytes.ints setup_bytes.floats (bytes_of_floats (load y)) 2 4 (replicate 16 0)

unfoldable bytes_open : ℕ
unfolding spelled word_at words_of floats_of byte_of bytes_of bytes_of_floats bytes_left answer_left
bytes_open = 0

bytes_premises : Apart (matrix_of 2 2 (bytes_of_ints (0 ∷ 1 ∷ 2 ∷ [])) (bytes_of_ints (0 ∷ 1 ∷ [])) (bytes_of_floats (ofℕ 16 ∷ ofℕ 4 ∷ []))) (options_of 1 1 1 0 0) first_node (floats_of (bytes_of_floats (load 4))) (floats_of (bytes_of_floats (load 40)))
unfolding all_open boundary_open bytes_open
bytes_premises = proved_hold.1

bytes_accepted : (setup_bytes.number ≡ 0) × ((run_bytes 4).number ≡ 0) × ((run_bytes 40).number ≡ 0)
unfolding all_open boundary_open bytes_open
bytes_accepted = (refl, refl, refl)

pub byte_exports_apart : T (agree first_node 1 2 (floats_of (run_bytes 4).correction) (floats_of (run_bytes 40).correction))
byte_exports_apart =
    let z : List ℕ = replicate 16 0 in
    separation_of_byte_exports 2 2 (bytes_of_ints (0 ∷ 1 ∷ 2 ∷ [])) (bytes_of_ints (0 ∷ 1 ∷ [])) (bytes_of_floats (ofℕ 16 ∷ ofℕ 4 ∷ [])) 1 1 1 0 0 lent (replicate 15 0) (replicate 36 0) (replicate 80 0) (replicate 120 0) true
    bytes_accepted.0 (le_refl 15) first_node (bytes_of_floats (load 4)) (bytes_of_floats (load 40)) bytes_premises z z 2 2 4 4 true true bytes_accepted.1 bytes_accepted.2
