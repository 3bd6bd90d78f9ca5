-- Where the blocks are accepted, every diagonal sum is finite and above zero. The entry (r, r) that a block gathers is the diagonal sum of row r: the same numbers, in the same order,
-- from the same +0. Its pivot is that sum less squares, which have no sign; and a difference that is above zero, of a subtrahend with no sign, is of a number above zero.
use mathlib.Core.Path.{◌≡◌, subst}
use mathlib.Core.Bool.{Bool, true, false, not, ◌&&◌, cond}
use mathlib.Core.List.{List, [], ◌∷◌}
use Prim.Native.Nat.{ℕ, zero, suc, ◌+◌, ◌-◌, ◌*◌, ◌/◌, ◌%◌, ◌^◌, ◌≤◌, ◌<◌, compare, min}
use native.Mathlib.Nat.{zero-lt-suc, mul-pos, mod-lt, div-add-mod', le-div_iff_mul-le}
use native.Mathlib.Omega.{arith}
use lib.Dec.{T, ltb, lt→ltb}
use lib.Ieee.{Float, nan, inf, fin, Format, binary64, prec, emax, low, up, down, size, nearest, odd, units, round, sum, add, sub, neg, mul, le}
use lib.Ieee.Fits.{and_l, down_pos}
use lib.Ieee.Positive.{positive, positive-finite}
use lib.Ieee.Scale.{finite}
use Rattle.definitions.specs.Numbers.{◌-ᶠ◌, ◌*ᶠ◌, total, reduced, above}
use Rattle.definitions.specs.Refusal.{done}
use Rattle.definitions.specs.Matrix.{Matrix, stored_at}
use Rattle.definitions.specs.Factor.{entry, products, rest}
use Rattle.definitions.specs.Block.{block_count, width_of, block_entry, block_of, in_block, top_of, factors_of, block_part}
use Rattle.laws.proofs.Lists.{Each, each_head, each_tail, each_tab, tab_each}
use Rattle.laws.proofs.Same.{Zero, Finite, nil, round_zero, sub_finite}
use Rattle.laws.proofs.Factor.{Rows}
use Rattle.laws.proofs.BlockFactors.{block_tol, block_rows, block_stands}
use Rattle.laws.proofs.FiniteFactor.{unsigned, round_unsigned, tolerance_unsigned, above_positive, reduced_finite}

-- ---- a square has no sign, and a number less one is not above zero unless it was

square_unsigned : (x : Float) → Finite (x *ᶠ x) → T (unsigned (x *ᶠ x))
unfolding mul
square_unsigned nan h = absurd h
square_unsigned (inf s) h = absurd h
square_unsigned (fin true m e) h = round_unsigned binary64 (m * up e * (m * up e)) (down e * down e)
square_unsigned (fin false m e) h = round_unsigned binary64 (m * up e * (m * up e)) (down e * down e)

units_signed : (f : Format) (q k : ℕ) → T (positive (units f true q k)) → ⊥
unfolding units odd
units_signed f q k h = go (ltb (q * 2 ^ k) (2 ^ (low f + suc (emax f)))) q h
  where
    go : (b : Bool) (q : ℕ) → T (positive (cond b (odd (suc (prec f)) true q k (low f)) (inf true))) → ⊥
    go true zero u = u
    go true (suc q) u = u
    go false q u = u

round_signed : (f : Format) (n d : ℕ) → T (positive (round f true n d)) → ⊥
unfolding round
round_signed f n d h =
    let k = size (n * 2 ^ low f / d) - prec f in
    let u = d * 2 ^ k in
    units_signed f (nearest (n * 2 ^ low f / u) (compare (n * 2 ^ low f % u * 2) u)) k h

zero_not_positive : (x : Float) → Zero x → T (positive x) → ⊥
zero_not_positive nan z h = z
zero_not_positive (inf s) z h = z
zero_not_positive (fin true m e) z h = h
zero_not_positive (fin false zero e) z h = h
zero_not_positive (fin false (suc m) e) z h = z

-- zero less what has no sign
none_less : (f : Format) (a b c : ℕ) → a ≡ 0 → 0 < c → T (positive (sum f false a true b c)) → ⊥
unfolding sum
none_less f a b c e C h = go (ltb a b) h
  where
    nothing : (x y : ℕ) → x ≡ 0 → 0 ≡ x - y
    nothing x y u = omega arith

    go : (p : Bool) → T (positive (cond p (round f true (b - a) c) (round f (false && ltb b a) (a - b) c))) → ⊥
    go true u = round_signed f (b - a) c u
    go false u = zero_not_positive (round f false (a - b) c) (subst (λ (x : ℕ). Zero (round f false x c)) (nothing a b e) (round_zero f false c C)) u

sub_positive : (x y : Float) → T (unsigned y) → T (positive (x -ᶠ y)) → T (positive x)
unfolding sub add neg sum
sub_positive nan y p h = absurd h
sub_positive (inf s) y p h = absurd (sub_finite binary64 (inf s) y (positive-finite (inf s -ᶠ y) h)).0
sub_positive (fin s m e) nan p h = absurd p
sub_positive (fin s m e) (inf t) p h = absurd h
sub_positive (fin s m e) (fin true n d) p h = absurd p
sub_positive (fin true m e) (fin false n d) p h = absurd (round_signed binary64 (m * up e * down d + n * up d * down e) (down e * down d) h)
sub_positive (fin false zero e) (fin false n d) p h =
    absurd (none_less binary64 (0 * up e * down d) (n * up d * down e) (down e * down d) (nil (up e) (down d)) (mul-pos (down_pos e) (down_pos d)) h)
sub_positive (fin false (suc m) e) (fin false n d) p h = lt→ltb 0 (suc m) (zero-lt-suc m)

reduced_positive : (x : Float) (ys : List Float) → Each (λ y. T (unsigned y)) ys → T (positive (reduced x ys)) → T (positive x)
unfolding reduced
reduced_positive x [] k h = h
reduced_positive x (y ∷ ys) k h = sub_positive x y (each_head k) (reduced_positive (x -ᶠ y) ys (each_tail k) h)

-- ---- a factor's matrix has a diagonal above zero

pub diagonal_positive : (place : ℕ → ℕ → ℕ) (a : ℕ → ℕ → Float) (tol : Float) (n : ℕ) (l : List Float) → T (unsigned tol) → Rows place a tol n l → (i : ℕ) → i < n → T (positive (a i i))
unfolding above rest products
diagonal_positive place a tol n l p r i h =
    let pivot = rest place a l i i in
    let real = reduced_finite (a i i) (products place l i i) (and_l (finite pivot) (not (le pivot tol)) (r.pivot i h)) in
    reduced_positive (a i i) (products place l i i)
    (each_tab (λ k. entry place l i k *ᶠ entry place l i k) i (λ k g. square_unsigned (entry place l i k) (tab_each (λ k. entry place l i k *ᶠ entry place l i k) i k real.1 g)))
    (above_positive tol pivot p (r.pivot i h))

-- ---- the diagonal sum of a row whose block is accepted

module _ (a : Matrix) (size : ℕ) (p : 1 ≤ size) where
  row_block : (r : ℕ) → r < a.rows → r / size < block_count a.rows size
  unfolding block_count
  row_block r l = (le-div_iff_mul-le p).1 (over (r / size * size) (r % size) r size a.rows (div-add-mod' r size) l p (next (r / size) size))
    where
      next : (x y : ℕ) → suc x * y ≡ x * y + y
      next x y = omega arith

      over : (x y r s n : ℕ) → x + y ≡ r → r < n → 1 ≤ s → suc (r / size) * size ≡ x + s → suc (r / size) * size ≤ n + (s - 1)
      over x y r s n u v w z = omega arith

  row_inside : (r : ℕ) → r < a.rows → r % size < width_of a.rows size (r / size)
  unfolding width_of
  row_inside r l = inside (r / size * size) (r % size) r size a.rows (div-add-mod' r size) l (mod-lt r p)
    where
      inside : (x y r s n : ℕ) → x + y ≡ r → r < n → y < s → y < min s (n - x)
      inside x y r s n u v w = omega arith

  pub sum_positive : (factors : List Float) → factors_of a size ≡ done factors → (r : ℕ) → r < a.rows → T (positive (total (stored_at a r r)))
  unfolding block_entry top_of
  sum_positive factors e r l =
      let k = r / size in
      let w = width_of a.rows size k in
      subst (λ (x : ℕ). T (positive (total (stored_at a x x)))) (div-add-mod' r size)
      (diagonal_positive (in_block w) (block_entry a (k * size)) (block_tol a (k * size) w) w (block_part size w k factors) (tolerance_unsigned (block_of a (k * size) w))
      (block_rows a (k * size) w (block_part size w k factors) (block_stands a size p factors e k (row_block r l))) (r % size) (row_inside r l))
