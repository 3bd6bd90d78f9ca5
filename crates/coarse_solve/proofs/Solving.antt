-- The solves with a packed factor in place, a number more: the sums that they take, and how far they have come.
use Prim.Native.Nat.{ℕ, suc, ◌+◌, ◌-◌, ◌<◌, ◌≤◌}
use mathlib.Core.Path.{◌≡◌, ap, ◌∙◌}
use mathlib.Core.List.{List}
use native.Mathlib.Omega.{arith}
use native.Mathlib.Numerals.{add-one}
use lib.ListN.{length, get_or, set, take, drop, length-append, length-drop}
use lib.Seq.{get_or-set_other, get_or-take, get_or-drop, length-take-le}
use lib.Ieee.{Float, nan}
use Rattle.definitions.specs.Lists.{tab}
use Rattle.definitions.specs.Numbers.{◌+ᶠ◌, ◌-ᶠ◌, ◌*ᶠ◌, ◌/ᶠ◌, minus_zero, summed}
use Rattle.definitions.specs.Coarse.{packed, packed_entry, packed_length, packed_forward, packed_backward, packed_solve}
use Rattle.laws.specs.Packed.{ahead, Column}
use Rattle.laws.proofs.Lists.{get_d_tab, tab_cong}
use Rattle.laws.proofs.Growing.{summed_none, summed_from}
use Rattle.laws.proofs.Packed.{tri_row, length_forward, forward_step}
use Rattle.coarse_solve.specs.RowSums.{added, product, row_sums, col_sum}
use Rattle.coarse_solve.proofs.Sums.{added_on, products_are, sum_at}

-- row k of a packed factor
abbrev pub IsRow : List Float → ℕ → List Float → Type 0
IsRow l k row = (q : ℕ) → q ≤ k → get_or row q nan ≡ packed_entry l k q

-- its products below the diagonal
abbrev pub row_term : List Float → List Float → ℕ → ℕ → Float
row_term l y k q = packed_entry l k q *ᶠ get_or y q nan

-- ---- forward

pub eight_within : (l : List Float) (n i m r : ℕ) (starts : List ℕ) → length l ≡ packed_length n → i + 8 ≤ n → m ≤ i → starts ≡ tab (λ r. packed_length (i + r)) 8 → r < 8
    → get_or starts r 0 + m ≤ length l
eight_within l n i m r starts w h q e b =
    let t : get_or starts r 0 ≡ packed_length (i + r) = rw e (get_d_tab (λ r. packed_length (i + r)) 8 r 0 b) in
    omega (arith, t, w, tri_row (i + r) n (omega arith))

pub row_dot : (l y row : List Float) (k m : ℕ) (s : Float) → IsRow l k row → m ≡ k → s ≡ summed (tab (product (take k row) (take k y)) m) → s ≡ summed (tab (row_term l y k) k)
row_dot l y row k m s h em e =
    products_are (row_term l y k) (take k row) (take k y) m k s em (λ q b. rw (get_or-take k row q nan b, get_or-take k y q nan b, h q (omega arith))) e

-- a sum that was begun before the rows from i on were solved
pub eight_sum : (l y₀ y row : List Float) (starts : List ℕ) (sums : List Float) (i r k m : ℕ) (t : Float) → ((q : ℕ) → q < i → get_or y q nan ≡ get_or y₀ q nan) → k ≡ i + r → r < 8 → i ≤ length y₀
    → starts ≡ tab (λ r. packed_length (i + r)) 8 → sums ≡ row_sums l (take i y₀) (length (take i y₀)) starts 8 → IsRow l k row → m ≡ k - i
    → t ≡ added (get_or sums r nan) (tab (product (take (k - i) (drop i row)) (take (k - i) (drop i y))) m) → t ≡ summed (tab (row_term l y k) k)
eight_sum l y₀ y row starts sums i r k m t kept ek h hi est es er em et =
    let n : length (take i y₀) ≡ i = length-take-le i y₀ hi in
    let a : get_or starts r 0 ≡ packed_length k = rw (est, ek) (get_d_tab (λ r. packed_length (i + r)) 8 r 0 h) in
    let s : get_or sums r nan ≡ summed (tab (row_term l y k) i) =
    sum_at l (take i y₀) 8 (length (take i y₀)) r starts sums h es
    ∙ rw (n, a) (ap summed (tab_cong (λ q. get_or l (packed_length k + q) nan *ᶠ get_or (take i y₀) q nan) (row_term l y k) i (λ q b. rw (get_or-take i y₀ q nan b, kept q b)))) in
    let z : i + (k - i) ≡ k = omega arith in
    let u : t ≡ added (get_or sums r nan) (tab (product (take (k - i) (drop i row)) (take (k - i) (drop i y))) (k - i)) = rw em at et in
    rw z at (added_on (row_term l y k) (take (k - i) (drop i row)) (take (k - i) (drop i y)) i (k - i) (get_or sums r nan) t s
    (λ q b. rw (get_or-take (k - i) (drop i row) q nan b, get_or-take (k - i) (drop i y) q nan b, get_or-drop i row q nan, get_or-drop i y q nan, er (i + q) (omega arith))) u)

-- a forward solve that had come to i has come to j
pub record ForwardOn (l y₀ y : List Float) (i j : ℕ) : Type 0 where
  pub kept : (k : ℕ) → k < i → get_or y k nan ≡ get_or y₀ k nan
  pub solved : (b : List Float) → y₀ ≡ ahead l b i → y ≡ ahead l b j

pub ahead_inside : (l b y : List Float) (k : ℕ) → k < length y → y ≡ ahead l b k → k < length b
ahead_inside l b y k h e = omega (arith, simp (length-append, length_forward, length-drop) at (ap length e))

pub on_more : (l y₀ y : List Float) (i j k : ℕ) (s v : Float) → i ≤ j → j < length y → ForwardOn l y₀ y i j → s ≡ summed (tab (row_term l y j) j) → v ≡ (get_or y j nan -ᶠ s) /ᶠ packed_entry l j j → k ≡ j + 1
    → ForwardOn l y₀ (set y j v) i k
on_more l y₀ y i j k s v p h o es ev ek =
    record {
      kept = λ k q. get_or-set_other y j k v nan (λ r. omega arith) ∙ o.kept k q;
      solved = λ b t. let a = o.solved b t in rw ek (forward_step l b y j (ahead_inside l b y j h a) a s v es ev);
    }

-- ---- a column

module _ (l y : List Float) (i : ℕ) where
  abbrev pub col_term : ℕ → Float
  col_term m = packed_entry l (suc i + m) i *ᶠ get_or y (suc i + m) nan

  pub col_none : minus_zero ≡ summed (tab col_term (i + 1 - suc i))
  col_none = let z : i + 1 - suc i ≡ 0 = omega arith in rw z (summed_none col_term)

  pub col_step : (j at : ℕ) (s : Float) → i < j → at ≡ packed j i → s ≡ summed (tab col_term (j - suc i)) → s +ᶠ get_or l at nan *ᶠ get_or y j nan ≡ summed (tab col_term (j + 1 - suc i))
  col_step j at s h ea e =
      let z : suc i + (j - suc i) ≡ j = omega arith in
      summed_from col_term (suc i) j s (s +ᶠ get_or l at nan *ᶠ get_or y j nan) h e (rw (ea, z))

-- from where it is kept
pub kept_sum : (l y kept : List Float) (i n a b m : ℕ) (s : Float) → Column l i n kept → n ≡ length y → a ≡ n - (i + 1) → b ≡ n - (i + 1) → m ≡ n - (i + 1)
    → s ≡ summed (tab (product (take a (drop (i + 1) kept)) (take b (drop (i + 1) y))) m) → s ≡ col_sum l y i (n - suc i)
kept_sum l y kept i n a b m s k en ea eb em e =
    products_are (col_term l y i) (take a (drop (i + 1) kept)) (take b (drop (i + 1) y)) m (n - suc i) s (em ∙ rw (add-one i))
    (λ q h.
    let qa : q < a = omega arith in
    let qb : q < b = omega arith in
    rw (get_or-take a (drop (i + 1) kept) q nan qa, get_or-take b (drop (i + 1) y) q nan qb, get_or-drop (i + 1) kept q nan, get_or-drop (i + 1) y q nan, add-one i, k (suc i + q) (omega arith) (omega arith))) e

pub solve_law : (l b y x : List Float) (n : ℕ) → y ≡ packed_forward l b n → x ≡ packed_backward l n y n → x ≡ packed_solve n l b
unfolding packed_solve
solve_law l b y x n e q = q ∙ rw e

pub ahead_none : (l b : List Float) (i : ℕ) → i ≡ 0 → b ≡ ahead l b i
unfolding packed_forward
ahead_none l b i e = rw e
