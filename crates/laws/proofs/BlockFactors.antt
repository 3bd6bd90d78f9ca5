-- The factors of the blocks: what the entries of one are, where block k stands among them all, and that it depends on its own rows alone.
use mathlib.Core.Path.{◌≡◌, sym, ap, ◌∙◌, subst}
use mathlib.Core.Bool.{Bool, true, false}
use mathlib.Core.List.{List, [], ◌++◌, append-nil, append_assoc}
use Prim.Native.Nat.{ℕ, zero, suc, ◌+◌, ◌-◌, ◌*◌, ◌≤◌, ◌<◌, min}
use native.Mathlib.Nat.{zero-add, le_refl, le_trans, le_of_lt, lt_of_lt_of_le, lt_of_le_of_lt, lt_irrefl, eq-or-lt_of_le, zero-lt-suc, mul-le-mul_right, le-div_iff_mul-le}
use native.Mathlib.Omega.{arith}
use mathlib.Core.Logic.{◌⊎◌, inl, inr}
use lib.Dec.{leb, eqb, leb→le}
use lib.ListN.{length, get_or, replicate, length-append, length-replicate, get_or-replicate}
use lib.Ieee.{Float, nan}
use lib.Ieee.Fits.{and_l, and_r}
use Rattle.definitions.specs.Numbers.{◌*ᶠ◌, zeroᶠ, symmetry_tol, pivot_tol, total}
use Rattle.definitions.specs.Refusal.{Outcome, refused, done}
use Rattle.definitions.specs.Matrix.{Matrix, stored_at, entries_of, values_where, valid_of}
use Rattle.definitions.specs.Factor.{entry, factor_rows}
use Rattle.definitions.specs.Block.{max_block, block_count, width_of, block_entry, block_of, in_block, top_of, skewed, block_factor, factors_from, factors_of, blocks_call, block_part}
use Rattle.definitions.specs.declared.Refusal.TheVariants.{NotSquare, BlockSize, ListTooShort, BlockNotSymmetric, BlockPivot}
use Rattle.laws.proofs.Lists.{get_d_square, square_cong, part_mid}
use Rattle.laws.proofs.Outcomes.{done_inj, refused_not_done, bind_done, test_passed}
use Rattle.laws.proofs.Factor.{Placing, Rows, starts_apart, factor_rows_lem, factor_length, factor_outside, rows_same}

-- ---- the places of a block

digits : (w i j k m : ℕ) → j < w → m < w → in_block w i j ≡ in_block w k m → (i ≡ k) × (j ≡ m)
digits (suc w) i j k m h g e = starts_apart (λ x. x * suc w) (λ x. w) (λ x y l. le_trans (step x w) (mul-le-mul_right (suc w) l)) i j k m (low j w h) (low m w g) e
  where
    step : (x y : ℕ) → x * suc y + suc y ≤ suc x * suc y
    step x y = omega arith

    low : (x y : ℕ) → x < suc y → x ≤ y
    low x y l = omega arith
digits zero i j k m h g e = absurd (none j h)
  where
    none : (x : ℕ) → x < 0 → ⊥
    none x l = omega arith

in_block_lem : (w i j : ℕ) → i < w → j < w → in_block w i j < w * w
in_block_lem w i j h g = lt_of_lt_of_le (step (i * w) j w g) (le_trans (up i w) (mul-le-mul_right w h))
  where
    step : (x y z : ℕ) → y < z → x + y < x + z
    step x y z l = omega arith

    up : (x y : ℕ) → x * y + y ≤ suc x * y
    up x y = omega arith

pub block_placing : (w size : ℕ) → w * w ≤ size → Placing (in_block w) w size
block_placing w size h = record {
  apart = λ i j k m p q r s e. digits w i j k m (lt_of_le_of_lt p q) (lt_of_le_of_lt r s) e;
  inside = λ i j p q. lt_of_lt_of_le (in_block_lem w i j q (lt_of_le_of_lt p q)) h;
}

-- ---- one block that is accepted

-- the tolerance of its pivots
abbrev pub block_tol : Matrix → ℕ → ℕ → Float
block_tol a start w = pivot_tol *ᶠ top_of (block_of a start w)

module _ (a : Matrix) (start w : ℕ) where
  -- its numbers, row by row
  numbers : ℕ → ℕ → Float
  numbers i j = get_or (block_of a start w) (in_block w i j) nan

  opened : (l : List Float) → block_factor a start w ≡ done l → factor_rows (in_block w) (λ i. BlockPivot (start + i)) numbers (block_tol a start w) w 0 (replicate (w * w) zeroᶠ) ≡ done l
  unfolding block_factor numbers
  opened l e = go (skewed (block_of a start w) w (symmetry_tol *ᶠ top_of (block_of a start w))) e
    where
      go : (b : Bool) → ◌≡◌ {A = Outcome (List Float)} (elim b [
        | true ↦ refused (BlockNotSymmetric start)
        | false ↦ factor_rows (in_block w) (λ i. BlockPivot (start + i)) (λ i j. get_or (block_of a start w) (in_block w i j) nan) (pivot_tol *ᶠ top_of (block_of a start w)) w 0 (replicate (w * w) zeroᶠ)
      ]) (done l)
          → factor_rows (in_block w) (λ i. BlockPivot (start + i)) (λ i j. get_or (block_of a start w) (in_block w i j) nan) (pivot_tol *ᶠ top_of (block_of a start w)) w 0 (replicate (w * w) zeroᶠ) ≡ done l
      go true u = absurd (refused_not_done u)
      go false u = u

  module _ (l : List Float) (e : block_factor a start w ≡ done l) where
    pub block_factor_length : length l ≡ w * w
    block_factor_length = factor_length (in_block w) numbers (λ i. BlockPivot (start + i)) (block_tol a start w) w (replicate (w * w) zeroᶠ) l (opened l e) ∙ length-replicate (w * w) zeroᶠ

    -- THE LAW: the root of the pivot on the diagonal, the quotient left of it
    pub block_rows : Rows (in_block w) (block_entry a start) (block_tol a start w) w l
    unfolding numbers block_of
    block_rows =
        rows_same (in_block w) numbers (block_entry a start) (block_tol a start w) w l (λ i j p q. get_d_square w (block_entry a start) i j nan p (lt_of_le_of_lt q p))
        (factor_rows_lem (in_block w) w (w * w) (block_placing w (w * w) (le_refl (w * w))) numbers (λ i. BlockPivot (start + i)) (block_tol a start w) (replicate (w * w) zeroᶠ) l (length-replicate (w * w) zeroᶠ) (opened l e))

    -- and zero above it
    pub block_above : (i j : ℕ) → i < j → j < w → entry (in_block w) l i j ≡ zeroᶠ
    block_above i j p q =
        let at = in_block w i j in
        factor_outside (in_block w) numbers (λ k. BlockPivot (start + k)) (block_tol a start w) w at nan (replicate (w * w) zeroᶠ) l
        (λ k m g t u. let d = digits w i j k m q (lt_of_le_of_lt g t) u in lt_irrefl i (lt_of_lt_of_le p (subst (λ (x : ℕ). x ≤ i) (sym d.1) (subst (λ (x : ℕ). m ≤ x) (sym d.0) g))))
        (opened l e)
        ∙ get_or-replicate (w * w) at zeroᶠ nan (in_block_lem w i j (le_trans p (le_of_lt q)) q)

-- ---- all blocks: block k stands at k · size²

-- every block but the last is as wide as the block size
pub full_width : (rows size k : ℕ) → 1 ≤ size → suc k < block_count rows size → width_of rows size k ≡ size
unfolding block_count width_of
full_width rows size k p h = narrow rows size (k * size) (short k size rows p ((le-div_iff_mul-le p).0 h))
  where
    short : (k s r : ℕ) → 1 ≤ s → suc (suc k) * s ≤ r + (s - 1) → k * s + s ≤ r
    short k s r q g = omega arith

    narrow : (n x y : ℕ) → y + x ≤ n → min x (n - y) ≡ x
    narrow n x y g = omega arith

module _ (a : Matrix) (size : ℕ) (p : 1 ≤ size) where
  -- the width of block k
  wide : ℕ → ℕ
  wide k = width_of a.rows size k

  Standing : ℕ → List Float → Type 0
  Standing k out = block_factor a (k * size) (wide k) ≡ done (block_part size (wide k) k out)

  from_standing : (left k : ℕ) (fs out : List Float) → k + left ≡ block_count a.rows size → (0 < left → length fs ≡ k * size * size) → factors_from a size left k fs ≡ done out
      → ((r : List Float) × (out ≡ fs ++ r)) × ((j : ℕ) → k ≤ j → j < k + left → Standing j out)
  unfolding factors_from Standing wide
  from_standing zero k fs out n len e = (([], sym (done_inj e) ∙ sym (append-nil fs)), λ j g l. absurd (none k j g l))
    where
      none : (x y : ℕ) → x ≤ y → y < x + 0 → ⊥
      none x y g l = omega arith
  from_standing (suc left) k fs out n len e =
      let b = bind_done (block_factor a (k * size) (wide k)) _ out e in
      let long : length b.0 ≡ wide k * wide k = block_factor_length a (k * size) (wide k) b.0 b.1 in
      let ih = from_standing left (suc k) (fs ++ b.0) out (next k left (block_count a.rows size) n)
      (λ t. length-append fs b.0 ∙ ap (λ (x : ℕ). x + length b.0) (len (zero-lt-suc left)) ∙ ap (λ (x : ℕ). k * size * size + x) (long ∙ ap (λ (x : ℕ). x * x) (full_width a.rows size k p (more k left (block_count a.rows size) n t))) ∙ square_on k size)
      b.2 in
      let whole : out ≡ fs ++ (b.0 ++ ih.0.0) = ih.0.1 ∙ append_assoc fs b.0 ih.0.0 in (
        (b.0 ++ ih.0.0, whole),
        λ j g l. pick j (eq-or-lt_of_le g)
            (b.1 ∙ ap done (sym (ap (λ (x : List Float). block_part size (wide k) k x) whole ∙ part_mid fs b.0 ih.0.0 (k * size * size) (k * size * size + wide k * wide k) (len (zero-lt-suc left)) (ap (λ (x : ℕ). k * size * size + x) long))))
            (λ t. ih.1 j t (over k left j l)),
      )
    where
      next : (x y z : ℕ) → x + suc y ≡ z → suc x + y ≡ z
      next x y z u = omega arith

      more : (x y z : ℕ) → x + suc y ≡ z → 0 < y → suc x < z
      more x y z u t = omega arith

      over : (x y j : ℕ) → j < x + suc y → j < suc x + y
      over x y j l = omega arith

      square_on : (x s : ℕ) → x * s * s + s * s ≡ suc x * s * s
      square_on x s = omega arith

      pick : (j : ℕ) → (k ≡ j) ⊎ (k < j) → Standing k out → (k < j → Standing j out) → Standing j out
      pick j (inl u) here there = subst (λ (x : ℕ). Standing x out) u here
      pick j (inr t) here there = there t

  pub block_stands : (factors : List Float) → factors_of a size ≡ done factors → (k : ℕ) → k < block_count a.rows size
      → block_factor a (k * size) (width_of a.rows size k) ≡ done (block_part size (width_of a.rows size k) k factors)
  unfolding factors_of Standing wide
  block_stands factors e k l = (from_standing (block_count a.rows size) 0 [] factors (zero-add (block_count a.rows size)) (λ t. nothing size) e).1 k (least k) (subst (λ (x : ℕ). k < x) (sym (zero-add (block_count a.rows size))) l)
    where
      least : (x : ℕ) → 0 ≤ x
      least x = omega arith

      nothing : (x : ℕ) → 0 ≡ 0 * x * x
      nothing x = omega arith

-- what an accepted call has checked
pub record CallAccepted (a : Matrix) (size : ℕ) (factors : List Float) : Type 0 where
  pub some : 1 ≤ size
  pub limit : size ≤ max_block
  pub factored : factors_of a size ≡ done factors

pub call_accepted : (a : Matrix) (size room : ℕ) (factors : List Float) → blocks_call a size room ≡ done factors → CallAccepted a size factors
unfolding blocks_call
call_accepted a size room factors e =
    let v = bind_done (valid_of a) _ factors e in
    let s1 = test_passed _ NotSquare _ factors v.2 in
    let s2 = test_passed _ BlockSize _ factors s1.1 in
    let s3 = test_passed _ ListTooShort _ factors s2.1 in
    record {
      some = leb→le 1 size (and_l (leb 1 size) (leb size max_block) s2.0);
      limit = leb→le size max_block (and_r (leb 1 size) (leb size max_block) s2.0);
      factored = s3.1;
    }

-- ---- a block depends on its own rows alone

module _ (a b : Matrix) (start w : ℕ) where
  -- even on what these store in its own columns
  module _ (same : (i j : ℕ) → i < w → j < w → stored_at a (start + i) (start + j) ≡ stored_at b (start + i) (start + j)) where
    pub block_gathers : block_of a start w ≡ block_of b start w
    unfolding block_of block_entry
    block_gathers = square_cong w (block_entry a start) (block_entry b start) (λ i j p q. ap total (same i j p q))

    -- the factor, or the refusal with its row
    pub block_factors : block_factor a start w ≡ block_factor b start w
    unfolding block_factor
    block_factors = ap (λ (d : List Float). elim (skewed d w (symmetry_tol *ᶠ top_of d)) [
      | true ↦ refused (BlockNotSymmetric start)
      | false ↦ factor_rows (in_block w) (λ i. BlockPivot (start + i)) (λ i j. get_or d (in_block w i j) nan) (pivot_tol *ᶠ top_of d) w 0 (replicate (w * w) zeroᶠ)
    ]) block_gathers

  rows_store : ((i : ℕ) → i < w → entries_of a (start + i) ≡ entries_of b (start + i)) → (i j : ℕ) → i < w → j < w → stored_at a (start + i) (start + j) ≡ stored_at b (start + i) (start + j)
  unfolding stored_at
  rows_store same i j p q = ap (λ r. values_where (λ c. eqb c (start + j)) r) (same i p)

-- two matrices that agree on the rows of block k
module _ (a b : Matrix) (size k : ℕ) (rows : a.rows ≡ b.rows)
    (same : (i : ℕ) → i < width_of a.rows size k → entries_of a (k * size + i) ≡ entries_of b (k * size + i)) where
  -- have the same block k, and the same factor of it or the same refusal
  pub own_block : block_of a (k * size) (width_of a.rows size k) ≡ block_of b (k * size) (width_of b.rows size k)
  own_block = block_gathers a b (k * size) (width_of a.rows size k) (rows_store a b (k * size) (width_of a.rows size k) same) ∙ ap (λ (x : ℕ). block_of b (k * size) (width_of x size k)) rows

  pub own_factor : block_factor a (k * size) (width_of a.rows size k) ≡ block_factor b (k * size) (width_of b.rows size k)
  own_factor = block_factors a b (k * size) (width_of a.rows size k) (rows_store a b (k * size) (width_of a.rows size k) same) ∙ ap (λ (x : ℕ). block_factor b (k * size) (width_of x size k)) rows

  -- and where both calls are accepted, the same numbers at k · size²
  pub own_part : (room room' : ℕ) (fs gs : List Float) → blocks_call a size room ≡ done fs → blocks_call b size room' ≡ done gs → k < block_count a.rows size
      → block_part size (width_of a.rows size k) k fs ≡ block_part size (width_of b.rows size k) k gs
  own_part room room' fs gs e f l =
      let x = call_accepted a size room fs e in
      let y = call_accepted b size room' gs f in
      done_inj (sym (block_stands a size x.some fs x.factored k l) ∙ own_factor ∙ block_stands b size y.some gs y.factored k (subst (λ (n : ℕ). k < block_count n size) rows l))
