-- The numbers of one block's turn: where it begins, how wide it is, where its factor ends.
use Prim.Native.Nat.{ℕ, suc, ◌+◌, ◌-◌, ◌*◌, ◌/◌, ◌<◌, ◌≤◌, min}
use mathlib.Core.Path.{◌≡◌, sym, ◌∙◌}
use native.Mathlib.Omega.{arith}
use native.Mathlib.Nat.{mul-le-mul, suc-mul, add-mul, le_refl, le-div_iff_mul-le}
use native.Mathlib.Numerals.{add-one}
use mathlib.Core.List.{List}
use lib.ListN.{length, take, drop, length-drop}
use lib.Seq.{length-take-le}
use Rattle.definitions.specs.Block.{block_count, width_of}

pub record Turn (rows size k used w : ℕ) : Type 0 where
  pub begins : k * size < rows
  pub fits : k * size + w ≤ rows
  pub small : w ≤ 8
  pub square : w * w ≤ 64
  pub ends : used + w * w ≤ rows * size
  pub next : used + w * w ≤ (k + 1) * size * size

-- block k is there, so it begins within the rows
pub begins_at : (rows size k : ℕ) → 0 < size → k < (rows + (size - 1)) / size → k * size < rows
begins_at rows size k p h =
    let q : suc k * size ≤ rows + (size - 1) = (le-div_iff_mul-le p).0 h in
    let r : k * size + size ≤ rows + (size - 1) = rw suc-mul at q in
    omega arith

pub turn : (rows size k used w : ℕ) → 0 < size → size ≤ 8 → k < (rows + (size - 1)) / size → used ≤ k * size * size → w ≡ min size (rows - k * size) → Turn rows size k used w
turn rows size k used w p s h u e =
    let b = begins_at rows size k p h in
    let f : k * size + w ≤ rows = omega arith in
    let v : w ≤ size = omega arith in
    let ww : w * w ≤ w * size = mul-le-mul (le_refl w) v in
    let ws : w * w ≤ size * size = mul-le-mul v v in
    let end : (k * size + w) * size ≤ rows * size = mul-le-mul f (le_refl size) in
    let end' : k * size * size + w * size ≤ rows * size = rw add-mul at end in
    let q : (k + 1) * size ≡ k * size + size = rw (add-one, suc-mul) in
    let small : w ≤ 8 = omega arith in
    record {
      begins = b;
      fits = f;
      small = small;
      square = mul-le-mul small small;
      ends = omega arith;
      next = rw (q, add-mul) (omega arith);
    }

-- the same of two whole blocks
pub record PairTurn (rows size k : ℕ) : Type 0 where
  pub fits : k * size + size + size ≤ rows
  pub one : size ≡ width_of rows size k
  pub two : size ≡ width_of rows size (suc k)
  pub there : suc k < block_count rows size
  pub next : k * size * size + 2 * (size * size) ≡ (k + 2) * size * size
  pub ends : k * size * size + 2 * (size * size) ≤ rows * size

pair_turn : (rows size k : ℕ) → 0 < size → (k + 2) * size ≤ rows → PairTurn rows size k
unfolding width_of block_count
pair_turn rows size k p h =
    let q : (k + 2) * size ≡ k * size + 2 * size = add-mul k 2 size in
    let f : k * size + size + size ≤ rows = omega arith in
    let s : suc k * size ≡ k * size + size = suc-mul k size in
    let c : suc (suc k) * size ≤ rows + (size - 1) = rw (suc-mul, suc-mul) (omega arith) in
    let n : (k + 2) * size * size ≡ k * size * size + 2 * (size * size) = rw (q, add-mul) (omega arith) in
    record {
      fits = f;
      one = omega arith;
      two = omega arith;
      there = (le-div_iff_mul-le p).1 c;
      next = sym n;
      ends = omega (arith, n, mul-le-mul h (le_refl size));
    }

-- so many pairs of whole blocks have their place in the rows, and each of them
pub pairs_fit : (rows size pairs : ℕ) → 0 < size → pairs ≤ rows / (2 * size) → 2 * pairs * size ≤ rows
pairs_fit rows size pairs p h =
    let z : 0 < 2 * size = omega arith in
    let q : pairs * (2 * size) ≤ rows = (le-div_iff_mul-le z).0 h in
    omega arith

pub pair_turn_at : (rows size pair : ℕ) → 0 < size → pair < rows / (2 * size) → PairTurn rows size (2 * pair)
pair_turn_at rows size pair p h =
    let q : 2 * (pair + 1) * size ≤ rows = pairs_fit rows size (pair + 1) p (omega arith) in
    pair_turn rows size (2 * pair) p (omega arith)

-- a place of n numbers, as a part that is lent
pub place_long : {A : Type 0} (used end n : ℕ) (d : List A) → end ≡ used + n → end ≤ length d → length (take (end - used) (drop used d)) ≡ n
place_long used end n d e h = length-take-le (end - used) (drop used d) (omega (arith, length-drop used d)) ∙ omega arith
