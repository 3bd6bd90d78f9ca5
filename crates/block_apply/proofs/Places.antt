-- The blocks one after the other: their places, and the list that holds the blocks solved so far.
use Prim.Native.Nat.{ℕ, zero, suc, min, ◌+◌, ◌-◌, ◌*◌, ◌/◌, ◌<◌, ◌≤◌}
use mathlib.Core.Path.{◌≡◌, refl, ap, sym, ◌∙◌}
use mathlib.Core.List.{List, [], ◌++◌, flat_map, append-nil, append_assoc}
use native.Mathlib.Omega.{arith}
use native.Mathlib.Nat.{min-eq_left, min-eq_right, mul-le-mul, div-mul-le_self, div-eq_of_lt-le, lt-div-mul-add, suc-mul, le_refl}
use native.Mathlib.Numerals.{add-one}
use native.Mathlib.Decide.{dec_le}
use lib.ListN.{length, take, drop, length-append, length-drop, drop_of_length-le}
use lib.Seq.{take_at, drop_at, drop-drop, length-take-le, take-length}
use lib.Ieee.{Float}
use Rattle.definitions.specs.Lists.{up_to, tab}
use Rattle.definitions.specs.Block.{width_of, block_count, block_solve, block_applied}
use Rattle.laws.proofs.Growing.{up_to_snoc, flat_map_snoc}
use Rattle.block_apply.specs.Solved.{solved_block, solved_blocks}
use Rattle.block_apply.proofs.Triangles.{length_solve}

-- ---- where a block lies

-- the factor of a block w wide, in a list of so many numbers
pub factor_end : (rows size first w room : ℕ) → w ≤ size → first + w ≤ rows → rows * size ≤ room → first * size + w * w ≤ room
factor_end rows size first w room p q h =
    let b : (first + w) * size ≤ rows * size = mul-le-mul q (le_refl size) in
    let s : (first + w) * size ≡ first * size + w * size = omega arith in
    let f : w * w ≤ w * size = mul-le-mul (le_refl w) p in
    omega arith

-- block k of so many whole ones
pub whole_end : (count size k rows : ℕ) → k < count → count * size ≤ rows → k * size + size ≤ rows
whole_end count size k rows h q =
    let m : suc k * size ≤ count * size = mul-le-mul h (le_refl size) in
    omega (arith, m, suc-mul k size)

-- the whole blocks of all rows, and the width of what is left
pub count_inside : (rows size : ℕ) → rows / size * size ≤ rows
count_inside rows size = div-mul-le_self rows size

pub rest_narrow : (rows size : ℕ) → 1 ≤ size → rows - rows / size * size ≤ size
rest_narrow rows size h = omega (arith, lt-div-mul-add {a = rows} {b = size} h)

pub rest_width : (rows size k : ℕ) → rows - k * size ≤ size → rows - k * size ≡ width_of rows size k
unfolding width_of
rest_width rows size k h = sym (min-eq_right h)

pub whole_width : (rows size k : ℕ) → k * size + size ≤ rows → size ≡ width_of rows size k
unfolding width_of
whole_width rows size k h = sym (min-eq_left (omega arith))

-- a part lent by its start and its length
pub length_part : (l : List Float) (a n m : ℕ) → n ≡ m → a + m ≤ length l → length (take n (drop a l)) ≡ m
length_part l a n m e h = rw e (length-take-le m (drop a l) (rw (length-drop a l) (omega arith)))

-- ---- the blocks solved so far

module _ (rows size : ℕ) (factors r : List Float) where
  pub blocks_none : (z : List Float) → z ≡ solved_blocks rows size factors r 0 ++ drop (0 * size) z
  unfolding solved_blocks up_to tab flat_map
  blocks_none z = let e : 0 * size ≡ 0 = omega arith in rw e

  blocks_snoc : (k : ℕ) → solved_blocks rows size factors r (suc k) ≡ solved_blocks rows size factors r k ++ solved_block rows size factors r k
  unfolding solved_blocks
  blocks_snoc k = rw (up_to_snoc k) (flat_map_snoc (λ j. solved_block rows size factors r j) (up_to k) k)

  length_block : (k : ℕ) → length (solved_block rows size factors r k) ≡ width_of rows size k
  unfolding solved_block
  length_block k = length_solve _ (width_of rows size k) _

  length_blocks : (k : ℕ) → k * size ≤ rows → length (solved_blocks rows size factors r k) ≡ k * size
  unfolding solved_blocks up_to tab flat_map
  length_blocks zero h = omega arith
  length_blocks (suc k) h =
      let s : suc k * size ≡ k * size + size = suc-mul k size in
      ap length (blocks_snoc k) ∙ length-append (solved_blocks rows size factors r k) (solved_block rows size factors r k)
      ∙ rw (length_blocks k (omega (arith, h, s)), length_block k, ← whole_width rows size k (omega (arith, h, s))) (sym s)

  -- past a block the next one begins, or the list ends
  past : (z₀ : List Float) (k w : ℕ) → length z₀ ≡ rows → k * size < rows → w ≡ width_of rows size k → drop (k * size + w) z₀ ≡ drop (suc k * size) z₀
  unfolding width_of
  past z₀ k w n h ew = step (dec_le size (rows - k * size))
    where
      s : suc k * size ≡ k * size + size
      s = suc-mul k size

      step : Dec (size ≤ rows - k * size) → drop (k * size + w) z₀ ≡ drop (suc k * size) z₀
      step (yes q) = let e : w ≡ size = ew ∙ min-eq_left q in rw (e, s)
      step (no q) =
          let e : w ≡ rows - k * size = ew ∙ min-eq_right (omega arith) in
          let a : length z₀ ≤ k * size + w = omega (arith, e, n, h) in
          let b : length z₀ ≤ suc k * size = omega (arith, n, h, s, q) in
          drop_of_length-le z₀ a ∙ sym (drop_of_length-le z₀ b)

  -- a block more, put in place of what lay there
  pub blocks_more : (z₀ z y : List Float) (k w n u m : ℕ) → length z₀ ≡ rows → k * size < rows → w ≡ width_of rows size k → n ≡ w → u ≡ w → m ≡ w * w
      → z ≡ solved_blocks rows size factors r k ++ drop (k * size) z₀
      → y ≡ block_solve (take m (drop (k * size * size) factors)) w (take u (drop (k * size) r))
      → take (k * size) z ++ (y ++ drop n (drop (k * size) z)) ≡ solved_blocks rows size factors r (k + 1) ++ drop ((k + 1) * size) z₀
  unfolding solved_block
  blocks_more z₀ z y k w n u m l h ew en eu em e ey =
      let a : k * size + w - k * size ≡ w = omega arith in
      let b : k * size * size + w * w - k * size * size ≡ w * w = omega arith in
      let c : length (solved_blocks rows size factors r k) ≡ k * size = length_blocks k (omega arith) in
      let t : take (k * size) z ≡ solved_blocks rows size factors r k = rw e (take_at (solved_blocks rows size factors r k) (drop (k * size) z₀) (k * size) c) in
      let d : drop (k * size) z ≡ drop (k * size) z₀ = rw e (drop_at (solved_blocks rows size factors r k) (drop (k * size) z₀) (k * size) c) in
      let y' : y ≡ solved_block rows size factors r k = rw (ey, eu, em, ← ew, a, b) in
      rw (en, t, d, drop-drop w (k * size) z₀, past z₀ k w l h ew, y', add-one, blocks_snoc k)
      (sym (append_assoc (solved_blocks rows size factors r k) (solved_block rows size factors r k) (drop (suc k * size) z₀)))

  pub blocks_all : (z₀ z : List Float) (k : ℕ) → length z₀ ≡ rows → rows ≤ k * size → k * size < rows + size → z ≡ solved_blocks rows size factors r k ++ drop (k * size) z₀
      → z ≡ block_applied rows size factors r
  unfolding solved_blocks solved_block block_applied block_count
  blocks_all z₀ z k n h q e =
      let a : length z₀ ≤ k * size = omega arith in
      let d : drop (k * size) z₀ ≡ [] = drop_of_length-le z₀ a in
      let b : k * size ≤ rows + (size - 1) = omega arith in
      let t : rows + (size - 1) < (k + 1) * size = omega arith in
      let c : (rows + (size - 1)) / size ≡ k = div-eq_of_lt-le size b t in
      e ∙ rw (d, append-nil, c)

-- a single block
whole : (l : List Float) (n m : ℕ) → m ≡ 0 → n ≡ length l → take n (drop m l) ≡ l
whole l n m e h = rw (e, h) (take-length l)

pub one_block : (w : ℕ) (f r z : List Float) → length f ≡ w * w → length r ≡ w → length z ≡ w → solved_blocks (length r) w f r 1 ++ drop (1 * w) z ≡ block_solve f w r
unfolding solved_blocks up_to tab flat_map solved_block width_of
one_block w f r z ef er ez =
    let a : 0 * w ≡ 0 = omega arith in
    let b : 1 * w ≡ w = omega arith in
    let m : min w (w - 0) ≡ w = min-eq_left (omega arith) in
    let d : drop w z ≡ [] = drop_of_length-le z (omega arith) in
    let x : take (0 * w + w * w - 0 * w) (drop (0 * w) f) ≡ f = whole f (0 * w + w * w - 0 * w) (0 * w) a (omega (arith, ef)) in
    let y : take (0 + w - 0) (drop 0 r) ≡ r = whole r (0 + w - 0) 0 refl (omega (arith, er)) in
    rw (er, a, b, m, d, append-nil, append-nil) (ap (λ t. block_solve t w (take (0 + w - 0) (drop 0 r))) x ∙ ap (λ t. block_solve f w t) y)
