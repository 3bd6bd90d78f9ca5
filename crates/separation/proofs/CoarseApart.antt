-- The coarse level keeps the sides apart. A row's weights lie in columns of its own side, because a weight elsewhere starts at 0 and nothing is taken off it, and zero weights are
-- dropped. So between columns of different sides the coarse matrix is a sum of no terms, and its average and its factor vanish there.
use mathlib.Core.Path.{◌≡◌, refl, sym, ap, ◌∙◌, subst}
use mathlib.Core.Logic.{◌⊎◌, inl, inr}
use mathlib.Core.Bool.{Bool, true, false, not}
use mathlib.Core.List.{List, [], map, flat_map}
use Prim.Native.Nat.{ℕ, suc, ◌<◌}
use lib.Dec.{T, eqb, leb, eqb→eq, nleb→lt, not_T}
use lib.ListN.{get_or}
use lib.Ieee.{Float, nan, unlike, ne}
use Rattle.definitions.specs.Lists.{square, any}
use Rattle.definitions.specs.Numbers.{◌*ᶠ◌, zeroᶠ}
use Rattle.definitions.specs.Matrix.{Matrix, Entry, row_of, entries_of, values_where}
use Rattle.definitions.specs.Transfer.{coarse_column, weight_at, transfer_row}
use Rattle.definitions.specs.Coarse.{constant_terms, constant_entry, weighted_sum, weights_at, product_terms, galerkin_terms, galerkin_entry, averaged, averaged_square, entry_in}
use Rattle.definitions.specs.Setup.{coarse_entry}
use Rattle.definitions.specs.declared.TwoLevelBasis.{TwoLevelBasis}
use Rattle.definitions.specs.declared.TwoLevelBasis.TheVariants.{PiecewiseConstant, JacobiSmoothed}
use Rattle.laws.proofs.Lists.{Each, each_imp, each_any, each_keep, each_up_to, each_tab, each_take, each_drop, each_zip_with, any_none, flat_map_none, get_d_square}
use Rattle.laws.proofs.Near.{Vanishing, total_none}
use Rattle.laws.proofs.TransferRows.{none_where, zero_not_kept, weight_zero}
use Rattle.separation.proofs.SolveApart.{averaged_vanish, unlike_sym}

-- ---- columns of a valid matrix are below its rows

pub entries_inside : (a : Matrix) → T (not (any (λ c. leb a.rows c) a.col_idx)) → (i : ℕ) → Each (λ e. e.col < a.rows) (entries_of a i)
unfolding entries_of row_of
entries_inside a t i =
    let s = get_or a.row_ptr i 0 in
    let e = get_or a.row_ptr (suc i) 0 in
    each_zip_with (λ c v. record { col = c; value = v }) (lib.Seq.slice s e a.values) (λ c v h. h)
    (each_drop s (each_take e (each_imp (λ c u. nleb→lt a.rows c u) (any_none (λ c. leb a.rows c) a.col_idx t))))

-- ---- what has no element

unlike_not : (p q : Bool) → p ≡ q → T (unlike p q) → ⊥
unlike_not p q e u = same p (subst (λ (x : Bool). T (unlike p x)) (sym e) u)
  where
    same : (x : Bool) → T (unlike x x) → ⊥
    same true v = v
    same false v = v

-- two of three sides are alike
third : (p q r : Bool) → T (unlike p q) → T (unlike p r) ⊎ (p ≡ r)
third true q true u = inr refl
third true q false u = inl tt
third false q true u = inl tt
third false q false u = inr refl

-- ---- with a side P for each row and a side Q for each coarse column

module _ (a : Matrix) (size : ℕ) (ids : List ℕ) (P Q : ℕ → Bool)
    (own : (i : ℕ) → i < a.rows → Q (coarse_column size ids i) ≡ P i)
    (linked : (i : ℕ) → i < a.rows → Each (λ e. (e.col < a.rows) × (P i ≡ P e.col)) (entries_of a i)) where
  -- no entry of a row leads to a column of another side
  off_side : (i j : ℕ) → i < a.rows → T (unlike (P i) (Q j)) → Each (λ e. T (not (eqb (coarse_column size ids e.col) j))) (entries_of a i)
  off_side i j h u =
      each_imp (λ e k. not_T (eqb (coarse_column size ids e.col) j)
      (λ t. unlike_not (P i) (Q j) (k.1 ∙ sym (own e.col k.0) ∙ ap Q (eqb→eq (coarse_column size ids e.col) j t)) u)) (linked i h)

  -- ---- PiecewiseConstant

  constant_none : (i j : ℕ) → T (unlike (Q i) (Q j)) → constant_terms a (coarse_column size ids) i j ≡ []
  unfolding constant_terms
  constant_none i j u =
      flat_map_none (λ r. values_where (λ c. eqb (coarse_column size ids c) j) (entries_of a r))
      (each_keep (λ r. eqb (coarse_column size ids r) i) (each_up_to a.rows
      (λ r h t. none_where (λ c. eqb (coarse_column size ids c) j) (entries_of a r)
      (off_side r j h (subst (λ (x : Bool). T (unlike x (Q j))) (sym (ap Q (eqb→eq (coarse_column size ids r) i t)) ∙ own r h) u)))))

  -- ---- JacobiSmoothed

  module _ (d : List Float) (damping : Float) (c : ℕ) where
    weight_off : (i j : ℕ) → i < a.rows → T (unlike (P i) (Q j)) → weight_at a d damping size ids i j ≡ zeroᶠ
    weight_off i j h u =
        weight_zero a size ids d damping i j (off_side i j h u)
        (not_T (eqb j (coarse_column size ids i)) (λ t. unlike_not (P i) (Q j) (sym (own i h) ∙ ap Q (sym (eqb→eq j (coarse_column size ids i) t))) u))

    -- A ROW'S WEIGHTS LIE IN COLUMNS OF ITS OWN SIDE
    pub weights_apart : (i : ℕ) → i < a.rows → Each (λ e. (e.col < c) × (P i ≡ Q e.col)) (transfer_row a d damping size ids c i)
    unfolding transfer_row
    weights_apart i h =
        each_keep (λ e. ne e.value zeroᶠ) (each_tab (λ j. record { col = j; value = weight_at a d damping size ids i j }) c (λ j l t. (l, side j t (third (P i) (not (P i)) (Q j) (self (P i))))))
      where
        self : (p : Bool) → T (unlike p (not p))
        self true = tt
        self false = tt

        side : (j : ℕ) → T (ne (weight_at a d damping size ids i j) zeroᶠ) → T (unlike (P i) (Q j)) ⊎ (P i ≡ Q j) → P i ≡ Q j
        side j t (inl u) = absurd (zero_not_kept (subst (λ (x : Float). T (ne x zeroᶠ)) (weight_off i j h u) t))
        side j t (inr e) = e

  module _ (transfer : ℕ → List Entry) (apart : (i : ℕ) → i < a.rows → Each (λ e. P i ≡ Q e.col) (transfer i)) where
    pub weights_none : (i j : ℕ) → i < a.rows → T (unlike (P i) (Q j)) → weights_at a transfer i j ≡ []
    unfolding weights_at
    weights_none i j h u =
        none_where (λ c. eqb c j) (transfer i)
        (each_imp (λ e k. not_T (eqb e.col j) (λ t. unlike_not (P i) (Q j) (k ∙ ap Q (eqb→eq e.col j t)) u)) (apart i h))

    product_none : (r j : ℕ) → r < a.rows → T (unlike (P r) (Q j)) → product_terms a transfer r j ≡ []
    unfolding product_terms
    product_none r j h u =
        flat_map_none (λ e. map (λ w. e.value *ᶠ w) (weights_at a transfer e.col j))
        (each_imp (λ e k. ap (λ (ws : List Float). map (λ w. e.value *ᶠ w) ws) (weights_none e.col j k.0 (subst (λ (x : Bool). T (unlike x (Q j))) k.1 u))) (linked r h))

    galerkin_none : (i j : ℕ) → T (unlike (Q i) (Q j)) → galerkin_terms a transfer i j ≡ []
    unfolding galerkin_terms weighted_sum flat_map
    galerkin_none i j u =
        flat_map_none (λ r. flat_map (λ w. weighted_sum w (product_terms a transfer r j)) (weights_at a transfer r i)) (each_up_to a.rows (λ r h. row r h (third (Q i) (Q j) (P r) u)))
      where
        row : (r : ℕ) → r < a.rows → T (unlike (Q i) (P r)) ⊎ (Q i ≡ P r) → flat_map (λ w. weighted_sum w (product_terms a transfer r j)) (weights_at a transfer r i) ≡ []
        row r h (inl v) = ap (λ (ws : List Float). flat_map (λ w. weighted_sum w (product_terms a transfer r j)) ws) (weights_none r i h (unlike_sym (Q i) (P r) v))
        row r h (inr e) =
            flat_map_none (λ w. weighted_sum w (product_terms a transfer r j))
            (each_any (weights_at a transfer r i) (λ w. ap (λ (ts : List Float). weighted_sum w ts) (product_none r j h (subst (λ (x : Bool). T (unlike x (Q j))) e u))))

    -- ---- the coarse matrix, its average

    pub entry_vanish : (basis : TwoLevelBasis) (weights : List (List Entry)) → (λ (r : ℕ). get_or weights r []) ≡ transfer → (i j : ℕ) → T (unlike (Q i) (Q j))
        → Vanishing (coarse_entry basis a size ids weights i j)
    unfolding coarse_entry constant_entry galerkin_entry
    entry_vanish PiecewiseConstant weights e i j u = total_none (constant_terms a (coarse_column size ids) i j) (constant_none i j u)
    entry_vanish JacobiSmoothed weights e i j u =
        total_none (galerkin_terms a (λ r. get_or weights r []) i j) (ap (λ (t : ℕ → List Entry). galerkin_terms a t i j) e ∙ galerkin_none i j u)

-- the average of a matrix that vanishes between two sides vanishes there
pub average_vanish : (c : ℕ) (f : ℕ → ℕ → Float) (Q : ℕ → Bool) → ((i j : ℕ) → T (unlike (Q i) (Q j)) → Vanishing (f i j))
    → (i j : ℕ) → i < c → j < c → T (unlike (Q i) (Q j)) → Vanishing (entry_in (averaged_square c (square c f)) c i j)
unfolding averaged_square
average_vanish c f Q A i j h g u =
    subst Vanishing (sym (get_d_square c (averaged (entry_in (square c f) c)) i j nan h g))
    (averaged_vanish (entry_in (square c f) c) i j
    (subst Vanishing (sym (get_d_square c f i j nan h g)) (A i j u)) (subst Vanishing (sym (get_d_square c f j i nan g h)) (A j i (unlike_sym (Q i) (Q j) u)))
    (not_T (eqb i j) (λ t. unlike_not (Q i) (Q j) (ap Q (eqb→eq i j t)) u)))
