-- The causes 19, 20 and 21 come from the diagonal sums, which setup takes only once its blocks are accepted; and then every diagonal sum is there, finite and above
-- zero (`sum_positive`). Every other stage has causes of its own. So a row that would be one of the three makes its block a cause of 14 or 15. SetupClear has the theorem.
use mathlib.Core.Path.{◌≡◌, refl, ◌∙◌, subst}
use mathlib.Core.Bool.{Bool, true, false, not, ◌&&◌, ◌||◌}
use mathlib.Core.List.{List, [], ◌∷◌, ◌++◌}
use Prim.Native.Nat.{ℕ, zero, suc, ◌+◌, ◌*◌, ◌≤◌, ◌<◌}
use native.Mathlib.Nat.{not-suc-le-zero, lt_irrefl, le_refl, le_of_lt, mul-pos, zero-lt-suc}
use native.Mathlib.Omega.{arith}
use lib.Dec.{T, leb, ltb, eqb, ltb→lt, eqb→eq}
use lib.ListN.{get_or, set, replicate}
use lib.Ieee.{Float, nan, inf, fin, up, down, lt, eq, of_bits}
use lib.Ieee.Fits.{up_pos}
use lib.Ieee.Positive.{positive}
use Rattle.definitions.specs.Numbers.{◌*ᶠ◌, rootᶠ, zeroᶠ, oneᶠ, symmetry_tol, pivot_tol, larger, largest, total, usable, above}
use Rattle.definitions.specs.Refusal.{Outcome, refused, done, require, ◌>>=◌, number_of, cause_of}
use Rattle.definitions.specs.Matrix.{Matrix, stored_at, structure_of, valid_of}
use Rattle.definitions.specs.Factor.{rest, below_diagonal, factor_rows}
use Rattle.definitions.specs.Block.{width_of, block_of, in_block, top_of, skewed, block_factor, factors_from}
use Rattle.definitions.specs.Diagonal.{diagonal_from}
use Rattle.definitions.specs.Estimate.{usable_from}
use Rattle.definitions.specs.Coarse.{packed, packed_length, entry_in, coarse_factor}
use Rattle.definitions.specs.Places.{node_count}
use Rattle.definitions.specs.Setup.{front_of, graph_of, grouping_of}
use Rattle.definitions.specs.declared.Options.{Options}
use Rattle.definitions.specs.declared.Refusal.{Refusal}
use Rattle.definitions.specs.declared.Refusal.TheVariants.{TooLarge, RowListLength, ColumnListLength, FirstPointer, LastPointer, PointerFalls, ColumnOutside, ValueNotFinite, NotSquare, BlockSize, GroupSize, NotMultiple, BlockNotSymmetric, BlockPivot, NoNode, MissingDiagonal, ZeroDiagonal, NegativeDiagonal, CoarseScale, CoarsePivot}
use Rattle.definitions.specs.declared.TwoLevelAggregation.{TwoLevelAggregation}
use Rattle.definitions.specs.declared.TwoLevelAggregation.TheVariants.{Contiguous, Graph, StrongGraph}
use Rattle.laws.proofs.Lists.{Each, none, more, each_head, each_tail, each_append}
use Rattle.laws.proofs.Outcomes.{done_inj, refused_not_done}
use Rattle.laws.proofs.Same.{nil}

-- ---- what is not refused by one of the three

-- 19, 20 or 21
abbrev pub from_diagonal : Refusal → Bool
from_diagonal r = leb 19 (number_of r) && leb (number_of r) 21

abbrev pub Clear : {A : Type 0} → Outcome A → Type 0
Clear (refused r) = T (not (from_diagonal r))
Clear (done x) = Unit {0}

clear_require : (b : Bool) (r : Refusal) → T (not (from_diagonal r)) → Clear (require b r)
unfolding require
clear_require true r h = tt
clear_require false r h = h

pub clear_bind : {A B : Type 0} (x : Outcome A) (f : A → Outcome B) → Clear x → ((v : A) → x ≡ done v → Clear (f v)) → Clear (x >>= f)
unfolding ◌>>=◌
clear_bind (refused r) f h k = h
clear_bind (done v) f h k = k v refl

-- a test, and what follows it
pub clear_test : {B : Type 0} (b : Bool) (r : Refusal) (f : Unit {0} → Outcome B) → T (not (from_diagonal r)) → (T b → Clear (f tt)) → Clear (require b r >>= f)
unfolding require ◌>>=◌
clear_test true r f h k = k tt
clear_test false r f h k = h

-- ---- the checks

structure_clear : (a : Matrix) → Clear (structure_of a)
unfolding structure_of number_of cause_of
structure_clear a =
    clear_test _ TooLarge _ tt (λ _.
    clear_test _ RowListLength _ tt (λ _.
    clear_test _ ColumnListLength _ tt (λ _.
    clear_test _ FirstPointer _ tt (λ _.
    clear_test _ LastPointer _ tt (λ _.
    clear_test _ PointerFalls _ tt (λ _.
    clear_require _ ColumnOutside tt))))))

valid_clear : (a : Matrix) → Clear (valid_of a)
unfolding valid_of number_of cause_of
valid_clear a = clear_bind (structure_of a) _ (structure_clear a) (λ _ _. clear_require _ ValueNotFinite tt)

pub front_clear : (a : Matrix) (o : Options) → Clear (front_of a o)
unfolding front_of number_of cause_of
front_clear a o =
    clear_bind (valid_of a) _ (valid_clear a) (λ _ _.
    clear_test _ NotSquare _ tt (λ _.
    clear_test _ BlockSize _ tt (λ _.
    clear_test _ GroupSize _ tt (λ _.
    clear_require _ NotMultiple tt))))

-- ---- factors

factor_clear : (place : ℕ → ℕ → ℕ) (bad : ℕ → Refusal) (a : ℕ → ℕ → Float) (tol : Float) → ((i : ℕ) → T (not (from_diagonal (bad i)))) → (left i : ℕ) (l : List Float)
    → Clear (factor_rows place bad a tol left i l)
unfolding factor_rows
factor_clear place bad a tol B zero i l = tt
factor_clear place bad a tol B (suc left) i l =
    let m = below_diagonal place a i i l in
    let pivot = rest place a m i i in
    go (above tol pivot) (factor_clear place bad a tol B left (suc i) (set m (place i i) (rootᶠ pivot)))
  where
    go : (b : Bool) → Clear (factor_rows place bad a tol left (suc i) (set (below_diagonal place a i i l) (place i i) (rootᶠ (rest place a (below_diagonal place a i i l) i i))))
        → Clear {A = List Float} (elim b [ true ↦ factor_rows place bad a tol left (suc i) (set (below_diagonal place a i i l) (place i i) (rootᶠ (rest place a (below_diagonal place a i i l) i i))) | false ↦ refused (bad i) ])
    go true k = k
    go false k = B i

block_clear : (a : Matrix) (start w : ℕ) → Clear (block_factor a start w)
unfolding block_factor number_of cause_of
block_clear a start w = go (skewed (block_of a start w) w (symmetry_tol *ᶠ top_of (block_of a start w)))
  where
    go : (b : Bool) → Clear {A = List Float} (elim b [
      | true ↦ refused (BlockNotSymmetric start)
      | false ↦ factor_rows (in_block w) (λ i. BlockPivot (start + i)) (λ i j. get_or (block_of a start w) (in_block w i j) nan) (pivot_tol *ᶠ top_of (block_of a start w)) w 0 (replicate (w * w) zeroᶠ)
    ])
    go true = tt
    go false = factor_clear (in_block w) (λ i. BlockPivot (start + i)) (λ i j. get_or (block_of a start w) (in_block w i j) nan) (pivot_tol *ᶠ top_of (block_of a start w)) (λ i. tt) w 0 (replicate (w * w) zeroᶠ)

pub factors_clear : (a : Matrix) (size left k : ℕ) (fs : List Float) → Clear (factors_from a size left k fs)
unfolding factors_from
factors_clear a size zero k fs = tt
factors_clear a size (suc left) k fs = clear_bind (block_factor a (k * size) (width_of a.rows size k)) _ (block_clear a (k * size) (width_of a.rows size k)) (λ l _. factors_clear a size left (suc k) (fs ++ l))

pub coarse_clear : (c : ℕ) (m : List Float) → Clear (coarse_factor c m)
unfolding coarse_factor number_of cause_of
coarse_clear c m =
    clear_test _ CoarseScale _ tt (λ _.
    factor_clear packed (λ i. CoarsePivot i) (entry_in m c) (pivot_tol *ᶠ larger (largest m) oneᶠ) (λ i. tt) c 0 (replicate (packed_length c) zeroᶠ))

-- ---- grouping

graph_clear : (lists : List (List ℕ)) (nodes size : ℕ) → Clear (graph_of lists nodes size)
unfolding graph_of number_of cause_of
graph_clear lists nodes size = clear_test _ NoNode _ tt (λ _. tt)

pub grouping_clear : (g : TwoLevelAggregation) (a : Matrix) (o : Options) → Clear (grouping_of g a o)
unfolding grouping_of
grouping_clear Contiguous a o = tt
grouping_clear Graph a o = graph_clear _ (node_count a o) o.group
grouping_clear StrongGraph a o = graph_clear _ (node_count a o) o.group

-- ---- the diagonal sums, all of them positive

abbrev pub Positive : Float → Type 0
Positive x = T (positive x)

-- a sum of nothing is not
some_stored : (vs : List Float) → Positive (total vs) → vs ≡ [] → ⊥
unfolding total of_bits
some_stored vs h e = subst (λ (x : List Float). Positive (total x)) e h

here : (x y : ℕ) → x < x + suc y
here x y = omega arith

over : (x y r : ℕ) → r < suc x + y → r < x + suc y
over x y r l = omega arith

pub diagonal_clear : (a : Matrix) (left i : ℕ) (sums : List Float) → ((r : ℕ) → i ≤ r → r < i + left → Positive (total (stored_at a r r))) → Clear (diagonal_from a left i sums)
unfolding diagonal_from
diagonal_clear a zero i sums P = tt
diagonal_clear a (suc left) i sums P = go (stored_at a i i) (some_stored (stored_at a i i) (P i (le_refl i) (here i left)))
    (diagonal_clear a left (suc i) (sums ++ (total (stored_at a i i) ∷ [])) (λ r h l. P r (le_of_lt h) (over i left r l)))
  where
    go : (vs : List Float) → (vs ≡ [] → ⊥) → Clear (diagonal_from a left (suc i) (sums ++ (total (stored_at a i i) ∷ [])))
        → Clear {A = List Float} (elim vs [ [] ↦ refused (MissingDiagonal i) | v ∷ ws ↦ diagonal_from a left (suc i) (sums ++ (total (stored_at a i i) ∷ [])) ])
    go [] f k = absurd (f refl)
    go (v ∷ ws) f k = k

pub diagonal_sums : (a : Matrix) (left i : ℕ) (sums out : List Float) → ((r : ℕ) → i ≤ r → r < i + left → Positive (total (stored_at a r r))) → Each Positive sums
    → diagonal_from a left i sums ≡ done out → Each Positive out
unfolding diagonal_from
diagonal_sums a zero i sums out P k e = subst (Each Positive) (done_inj e) k
diagonal_sums a (suc left) i sums out P k e = go (stored_at a i i) e
    (diagonal_sums a left (suc i) (sums ++ (total (stored_at a i i) ∷ [])) out (λ r h l. P r (le_of_lt h) (over i left r l)) (each_append k (more (P i (le_refl i) (here i left)) none)))
  where
    go : (vs : List Float)
        → ◌≡◌ {A = Outcome (List Float)} (elim vs [ [] ↦ refused (MissingDiagonal i) | v ∷ ws ↦ diagonal_from a left (suc i) (sums ++ (total (stored_at a i i) ∷ [])) ]) (done out)
        → (diagonal_from a left (suc i) (sums ++ (total (stored_at a i i) ∷ [])) ≡ done out → Each Positive out) → Each Positive out
    go [] u f = absurd (refused_not_done u)
    go (v ∷ ws) u f = f u

-- such a number is no cause of 20 or 21

size_positive : (m : ℕ) (x : ℕ) → 0 < x → T (ltb 0 m) → 0 < m * x * 1
size_positive m x X h = mul-pos (mul-pos (ltb→lt 0 m h) X) (zero-lt-suc 0)

positive_usable : (x : Float) → Positive x → T (usable x)
unfolding usable eq of_bits
positive_usable nan h = absurd h
positive_usable (inf s) h = absurd h
positive_usable (fin true m e) h = absurd h
positive_usable (fin false m e) h = go (eqb (m * up e * 1) (0 * 1 * down e)) (eqb→eq (m * up e * 1) (0 * 1 * down e))
  where
    go : (b : Bool) → (T b → m * up e * 1 ≡ 0 * 1 * down e) → T (not (b && (true || eqb (m * up e * 1) 0)))
    go true f = lt_irrefl 0 (subst (λ (x : ℕ). 0 < x) (f tt ∙ nil 1 (down e)) (size_positive m (up e) (up_pos e) h))
    go false f = tt

positive_not_below : (x : Float) → Positive x → T (not (lt x zeroᶠ))
unfolding lt of_bits
positive_not_below nan h = absurd h
positive_not_below (inf s) h = absurd h
positive_not_below (fin true m e) h = absurd h
positive_not_below (fin false m e) h = go (ltb (m * up e * 1) (0 * 1 * down e)) (ltb→lt (m * up e * 1) (0 * 1 * down e))
  where
    go : (b : Bool) → (T b → m * up e * 1 < 0 * 1 * down e) → T (not b)
    go true f = not-suc-le-zero (subst (λ (x : ℕ). m * up e * 1 < x) (nil 1 (down e)) (f tt))
    go false f = tt

pub usable_clear : (i : ℕ) (ds : List Float) → Each Positive ds → Clear (usable_from i ds)
unfolding usable_from
usable_clear i [] k = tt
usable_clear i (d ∷ ds) k = go (usable d) (positive_usable d (each_head k)) (lt d zeroᶠ) (positive_not_below d (each_head k)) (usable_clear (suc i) ds (each_tail k))
  where
    go : (b : Bool) → T b → (n : Bool) → T (not n) → Clear (usable_from (suc i) ds)
        → Clear {A = Unit {0}} (elim b [ false ↦ refused (ZeroDiagonal i) | true ↦ elim n [ true ↦ refused (NegativeDiagonal i) | false ↦ usable_from (suc i) ds ] ])
    go true p true q c = absurd q
    go true p false q c = c
    go false p n q c = absurd p
