-- The lists of a setup: the block factors are as long as their place, and the transfer's rows read back, whatever stands before and behind them.
use mathlib.Core.Path.{◌≡◌, sym, ap, ◌∙◌, subst}
use mathlib.Core.List.{List, [], ◌++◌, append_assoc}
use Prim.Native.Nat.{ℕ, zero, suc, ◌+◌, ◌-◌, ◌*◌, ◌/◌, ◌≤◌, ◌<◌, min}
use native.Mathlib.Nat.{mul_assoc, mul-add-div_right, div-eq_of_lt, add-zero, le_trans, mul-le-mul_right}
use native.Mathlib.Omega.{arith}
use lib.ListN.{length, length-append}
use lib.Ieee.{Float}
use Rattle.definitions.specs.Lists.{between, pointers_from}
use Rattle.definitions.specs.Refusal.{done}
use Rattle.definitions.specs.Matrix.{Matrix, Entry}
use Rattle.definitions.specs.Block.{block_count, width_of, block_factor, factors_from, factors_of}
use Rattle.definitions.specs.Setup.{transfer_ints, transfer_floats}
use Rattle.definitions.specs.declared.TwoLevelBasis.TheVariants.{JacobiSmoothed}
use Rattle.laws.proofs.Lists.{part_mid}
use Rattle.laws.proofs.Csr.{pointers_length, columns_of, numbers_of, columns_length, values_length}
use Rattle.laws.proofs.Outcomes.{done_inj, bind_done}
use Rattle.laws.proofs.BlockFactors.{block_factor_length}

-- ---- blocks, where their size divides the rows

pub blocks_are_nodes : (rows size : ℕ) → 1 ≤ size → rows / size * size ≡ rows → block_count rows size ≡ rows / size
unfolding block_count
blocks_are_nodes rows size p w =
    ap (λ (x : ℕ). (x + (size - 1)) / size) (sym w) ∙ mul-add-div_right p (rows / size) (size - 1) ∙ ap (λ (x : ℕ). rows / size + x) (div-eq_of_lt (low size p)) ∙ add-zero (rows / size)
  where
    low : (x : ℕ) → 1 ≤ x → x - 1 < x
    low x h = omega arith

pub width_is_size : (rows size k : ℕ) → rows / size * size ≡ rows → k < rows / size → width_of rows size k ≡ size
unfolding width_of
width_is_size rows size k w h = narrow rows size (k * size) (le_trans (step k size) (subst (λ (x : ℕ). suc k * size ≤ x) w (mul-le-mul_right size h)))
  where
    step : (x y : ℕ) → x * y + y ≤ suc x * y
    step x y = omega arith

    narrow : (n x y : ℕ) → y + x ≤ n → min x (n - y) ≡ x
    narrow n x y g = omega arith

-- ---- lengths: the block factors

factors_from_length : (a : Matrix) (size left k : ℕ) → ((j : ℕ) → j < k + left → width_of a.rows size j ≡ size) → (done-so-far out : List Float)
    → factors_from a size left k done-so-far ≡ done out → length out ≡ length done-so-far + left * (size * size)
unfolding factors_from
factors_from_length a size zero k W fs out e = ap length (sym (done_inj e)) ∙ flat (length fs) (size * size)
  where
    flat : (x y : ℕ) → x ≡ x + 0 * y
    flat x y = omega arith
factors_from_length a size (suc left) k W fs out e =
    let r = bind_done (block_factor a (k * size) (width_of a.rows size k)) _ out e in
    let w : width_of a.rows size k ≡ size = W k (here k left) in
    let one : length r.0 ≡ size * size = block_factor_length a (k * size) (width_of a.rows size k) r.0 r.1 ∙ ap (λ (x : ℕ). x * x) w in
    factors_from_length a size left (suc k) (λ j l. W j (shift j k left l)) (fs ++ r.0) out r.2
    ∙ ap (λ (x : ℕ). x + left * (size * size)) (length-append fs r.0 ∙ ap (λ (x : ℕ). length fs + x) one) ∙ sum (length fs) (size * size) left
  where
    here : (x y : ℕ) → x < x + suc y
    here x y = omega arith

    shift : (j x y : ℕ) → j < suc x + y → j < x + suc y
    shift j x y l = omega arith

    sum : (x y z : ℕ) → x + y + z * y ≡ x + suc z * y
    sum x y z = omega arith

pub factors_length : (a : Matrix) (size : ℕ) (factors : List Float) → 1 ≤ size → a.rows / size * size ≡ a.rows → factors_of a size ≡ done factors
    → length factors ≡ a.rows * size
unfolding factors_of
factors_length a size factors p w e =
    factors_from_length a size (block_count a.rows size) 0
    (λ j l. width_is_size a.rows size j w (subst (λ (x : ℕ). j < x) (plain (block_count a.rows size) ∙ blocks_are_nodes a.rows size p w) l)) [] factors e
    ∙ plain (block_count a.rows size * (size * size)) ∙ ap (λ (x : ℕ). x * (size * size)) (blocks_are_nodes a.rows size p w)
    ∙ sym (mul_assoc (a.rows / size) size size) ∙ ap (λ (x : ℕ). x * size) w
  where
    plain : (x : ℕ) → 0 + x ≡ x
    plain x = omega arith

-- ---- the transfer's rows

module _ (ids zs : List ℕ) (ws : List (List Entry)) (nodes rows : ℕ) (p : length ids ≡ nodes) (q : length ws ≡ rows) where
  stored : (ids ++ transfer_ints JacobiSmoothed ws) ++ zs ≡ ids ++ (pointers_from 0 ws ++ (columns_of ws ++ zs))
  unfolding transfer_ints
  stored = append_assoc ids (pointers_from 0 ws ++ columns_of ws) zs ∙ ap (λ (l : List ℕ). ids ++ l) (append_assoc (pointers_from 0 ws) (columns_of ws) zs)

  many : length (pointers_from 0 ws) ≡ suc rows
  many = pointers_length 0 ws ∙ ap suc q

  pub pointers_read : between nodes (nodes + rows + 1) ((ids ++ transfer_ints JacobiSmoothed ws) ++ zs) ≡ pointers_from 0 ws
  pointers_read =
      ap (λ (l : List ℕ). between nodes (nodes + rows + 1) l) stored
      ∙ part_mid ids (pointers_from 0 ws) (columns_of ws ++ zs) nodes (nodes + rows + 1) p (ap (λ (x : ℕ). nodes + x) many ∙ next nodes rows)
    where
      next : (x y : ℕ) → x + suc y ≡ x + y + 1
      next x y = omega arith

  pub columns_read : between (nodes + rows + 1) (nodes + rows + 1 + length (transfer_floats ws)) ((ids ++ transfer_ints JacobiSmoothed ws) ++ zs) ≡ columns_of ws
  unfolding transfer_floats
  columns_read =
      ap (λ (l : List ℕ). between (nodes + rows + 1) (nodes + rows + 1 + length (numbers_of ws)) l) (stored ∙ sym (append_assoc ids (pointers_from 0 ws) (columns_of ws ++ zs)))
      ∙ part_mid (ids ++ pointers_from 0 ws) (columns_of ws) zs (nodes + rows + 1) (nodes + rows + 1 + length (numbers_of ws))
      (length-append ids (pointers_from 0 ws) ∙ ap (λ (x : ℕ). x + length (pointers_from 0 ws)) p ∙ ap (λ (x : ℕ). nodes + x) many ∙ next nodes rows)
      (ap (λ (x : ℕ). nodes + rows + 1 + x) (columns_length ws ∙ sym (values_length ws)))
    where
      next : (x y : ℕ) → x + suc y ≡ x + y + 1
      next x y = omega arith
