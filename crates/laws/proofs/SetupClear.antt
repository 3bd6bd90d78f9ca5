-- Setup never answers 19, 20 or 21: neither does any of its stages (SetupCauses; here the estimate and the transfer).
use mathlib.Core.Path.{◌≡◌, subst}
use mathlib.Core.Bool.{not}
use mathlib.Core.List.{List, []}
use Prim.Native.Nat.{ℕ, zero, suc, ◌+◌, ◌*◌, ◌≤◌, ◌<◌}
use native.Mathlib.Omega.{arith}
use lib.Dec.{T, leb, leb→le}
use lib.Ieee.{Float}
use lib.Ieee.Fits.{and_l, and_r}
use Rattle.definitions.specs.Numbers.{total}
use Rattle.definitions.specs.Refusal.{Outcome, refused, done, number_of, cause_of}
use Rattle.definitions.specs.Matrix.{Matrix, stored_at, valid_of}
use Rattle.definitions.specs.Block.{max_block, block_count, factors_of}
use Rattle.definitions.specs.Diagonal.{diagonal_of}
use Rattle.definitions.specs.Estimate.{usable_from, normalised, rounds, image, start_of, inverse_roots, rho_of, estimate_of}
use Rattle.definitions.specs.Coarse.{averaged_square, coarse_factor}
use Rattle.definitions.specs.Places.{Lengths}
use Rattle.definitions.specs.Setup.{front_of, grouping_of, transfer_for, coarse_matrix, Built, setup_of}
use Rattle.definitions.specs.declared.Options.{Options}
use Rattle.definitions.specs.declared.Refusal.{Refusal}
use Rattle.definitions.specs.declared.Refusal.TheVariants.{NotSquare, BlockSize, ListTooShort, CoarseTooLarge, CoarseListTooShort, EstimateFailed}
use Rattle.definitions.specs.declared.TwoLevelBasis.{TwoLevelBasis}
use Rattle.definitions.specs.declared.TwoLevelBasis.TheVariants.{PiecewiseConstant, JacobiSmoothed}
use Rattle.laws.proofs.Lists.{Each, none}
use Rattle.laws.proofs.Outcomes.{bind_done, test_passed}
use Rattle.laws.proofs.Diagonals.{sum_positive}
use Rattle.laws.proofs.SetupCauses.{from_diagonal, Clear, clear_bind, clear_test, front_clear, factors_clear, coarse_clear, grouping_clear, Positive, diagonal_clear, diagonal_sums, usable_clear}

-- ---- the estimate and the transfer

normalised_clear : (stage : ℕ) (x : List Float) → Clear (normalised stage x)
unfolding normalised number_of cause_of
normalised_clear stage x = clear_test _ (EstimateFailed stage) _ tt (λ _. tt)

rounds_clear : (a : Matrix) (s : List Float) (k : ℕ) (x : List Float) → Clear (rounds a s k x)
unfolding rounds
rounds_clear a s zero x = tt
rounds_clear a s (suc k) x = clear_bind (normalised 2 (image a s x)) _ (normalised_clear 2 (image a s x)) (λ y _. rounds_clear a s k y)

estimate_clear : (a : Matrix) (d : List Float) → Each Positive d → Clear (estimate_of a d)
unfolding estimate_of number_of cause_of
estimate_clear a d k =
    clear_bind (usable_from 0 d) _ (usable_clear 0 d k) (λ _ _.
    clear_bind (normalised 1 (start_of a.rows)) _ (normalised_clear 1 (start_of a.rows)) (λ x _.
    clear_bind (rounds a (inverse_roots d) 10 x) _ (rounds_clear a (inverse_roots d) 10 x) (λ y _.
    clear_bind (done (rho_of a (inverse_roots d) y)) _ tt (λ rho _.
    clear_test _ (EstimateFailed 3) _ tt (λ _.
    clear_test _ (EstimateFailed 4) _ tt (λ _. tt))))))

transfer_clear : (basis : TwoLevelBasis) (a : Matrix) (size : ℕ) (ids : List ℕ) (c : ℕ) → ((r : ℕ) → r < a.rows → Positive (total (stored_at a r r))) → Clear (transfer_for basis a size ids c)
unfolding transfer_for diagonal_of
transfer_clear PiecewiseConstant a size ids c P = tt
transfer_clear JacobiSmoothed a size ids c P =
    clear_bind (diagonal_of a) _ (diagonal_clear a a.rows 0 [] all_rows) (λ d e.
    clear_bind (estimate_of a d) _ (estimate_clear a d (diagonal_sums a a.rows 0 [] d all_rows none e)) (λ _ _. tt))
  where
    plain : (x y : ℕ) → x < 0 + y → x < y
    plain x y l = omega arith

    all_rows : (r : ℕ) → 0 ≤ r → r < 0 + a.rows → Positive (total (stored_at a r r))
    all_rows r h l = P r (plain r a.rows l)

-- ---- setup

block_sizes : (a : Matrix) (o : Options) → front_of a o ≡ done tt → (1 ≤ o.block) × (o.block ≤ max_block)
unfolding front_of
block_sizes a o e =
    let v = bind_done (valid_of a) _ tt e in
    let f1 = test_passed _ NotSquare _ tt v.2 in
    let f2 = test_passed _ BlockSize _ tt f1.1 in
    (leb→le 1 o.block (and_l (leb 1 o.block) (leb o.block max_block) f2.0), leb→le o.block max_block (and_r (leb 1 o.block) (leb o.block max_block) f2.0))

setup_clear : (a : Matrix) (o : Options) (room : Lengths) → Clear (setup_of a o room)
unfolding setup_of number_of cause_of factors_of
setup_clear a o room =
    clear_bind (front_of a o) _ (front_clear a o) (λ _ front.
    clear_test _ ListTooShort _ tt (λ _.
    clear_bind (factors_of a o.block) _ (factors_clear a o.block (block_count a.rows o.block) 0 []) (λ factors factored.
    clear_bind (grouping_of o.aggregation a o) _ (grouping_clear o.aggregation a o) (λ g _.
    clear_bind (done (g.count * o.block)) _ tt (λ c _.
    clear_test _ (CoarseTooLarge c) _ tt (λ _.
    clear_test _ (CoarseListTooShort c) _ tt (λ _.
    clear_bind (transfer_for o.basis a o.block g.ids c) _
    (transfer_clear o.basis a o.block g.ids c (λ r l. let b = block_sizes a o front in sum_positive a o.block b.0 factors factored r l)) (λ t _.
    clear_bind (done (averaged_square c (coarse_matrix a o g t))) _ tt (λ m _.
    clear_bind (coarse_factor c m) _ (coarse_clear c m) (λ _ _. tt))))))))))

-- THE THEOREM
pub setup_causes : (a : Matrix) (o : Options) (room : Lengths) (r : Refusal) → setup_of a o room ≡ refused r → T (not (from_diagonal r))
setup_causes a o room r e = subst (λ (x : Outcome Built). Clear x) e (setup_clear a o room)
