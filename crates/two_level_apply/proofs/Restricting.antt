-- Restriction: the numbers that the loops put at a coarse column are those that its definition lists.
use Prim.Native.Nat.{ℕ, zero, suc, ◌+◌, ◌*◌, ◌<◌, ◌≤◌}
use mathlib.Core.Path.{◌≡◌, refl, ap, ◌∙◌}
use mathlib.Core.Bool.{Bool, true, false}
use mathlib.Core.List.{List, [], ◌∷◌, map, flat_map, zip_with}
use native.Mathlib.Numerals.{add-one}
use lib.Dec.{eqb}
use lib.Arith.{digits_div, digits_mod}
use lib.ListN.{length, get_or, replicate, drop, drop_of_length-le}
use lib.Seq.{drop-cons}
use lib.Ieee.{Float, nan}
use Rattle.definitions.specs.Lists.{tab, up_to, keep}
use Rattle.definitions.specs.Numbers.{◌*ᶠ◌, zeroᶠ, total}
use Rattle.definitions.specs.Matrix.{Entry, values_where}
use Rattle.definitions.specs.Transfer.{coarse_column}
use Rattle.definitions.specs.Apply.{constant_restriction_terms, smoothed_restriction_terms}
use Rattle.laws.proofs.Lists.{each_any, flat_map_cong}
use Rattle.laws.proofs.Kept.{flat_map_keep, flat_map_one}
use Rattle.csr32.proofs.Stored.{where_hit, where_miss, where_none}
use Rattle.laws.specs.Scatter.{put, bump, scatter, scattered}
use Rattle.csr32.specs.Parts.{entries}
use Rattle.two_level_apply.specs.Scatter.{restrict_puts, scaled, scaled_puts}
use Rattle.laws.proofs.Scattering.{puts_at, scatter_law}

-- the coarse column of a node's row
pub column_at : (size : ℕ) (ids : List ℕ) (node k : ℕ) → k < size → coarse_column size ids (node * size + k) ≡ get_or ids node 0 * size + k
unfolding coarse_column
column_at size ids node k h = rw (digits_div node h, digits_mod node h)

pub zeros_tab : (n : ℕ) → replicate n zeroᶠ ≡ tab (λ _. zeroᶠ) n
unfolding tab
zeros_tab zero = refl
zeros_tab (suc n) = ap (λ l. zeroᶠ ∷ l) (zeros_tab n)

-- ---- PiecewiseConstant

constant_parts : (column : ℕ → ℕ) (r : List Float) (j : ℕ) → flat_map (λ i. puts_at j (restrict_puts column r i)) (up_to (length r)) ≡ constant_restriction_terms column r j
unfolding constant_restriction_terms
constant_parts column r j =
    flat_map_keep (λ i. eqb (column i) j) (λ i. puts_at j (restrict_puts column r i)) (λ i. get_or r i nan ∷ [])
    (λ i q. where_hit (λ k. eqb k j) (put (column i) (get_or r i nan)) [] q ∙ rw (where_none (λ k. eqb k j)))
    (λ i q. where_miss (λ k. eqb k j) (put (column i) (get_or r i nan)) [] q ∙ where_none (λ k. eqb k j))
    (up_to (length r))
    ∙ flat_map_one (λ i. get_or r i nan) (keep (λ i. eqb (column i) j) (up_to (length r)))

pub constant_law : (column : ℕ → ℕ) (r z l : List Float) (c : ℕ) → z ≡ replicate c zeroᶠ → l ≡ scattered (restrict_puts column r) (length r) z
    → l ≡ tab (λ j. total (constant_restriction_terms column r j)) c
constant_law column r z l c p q = rw (q, p, zeros_tab c) (scatter_law (restrict_puts column r) (length r) c (constant_restriction_terms column r) (constant_parts column r))

-- ---- JacobiSmoothed

where_scaled : (p : ℕ → Bool) (x : Float) (es : List Entry) → values_where p (scaled x es) ≡ map (λ w. w *ᶠ x) (values_where p es)
where_scaled p x [] = where_none p ∙ rw (where_none p)
where_scaled p x (e ∷ es) = step (p e.col) refl (where_scaled p x es)
  where
    m : Entry
    m = put e.col (e.value *ᶠ x)

    step : (b : Bool) → p e.col ≡ b → values_where p (scaled x es) ≡ map (λ w. w *ᶠ x) (values_where p es) → values_where p (scaled x (e ∷ es)) ≡ map (λ w. w *ᶠ x) (values_where p (e ∷ es))
    step true k ih = where_hit p m (scaled x es) k ∙ rw (ih, where_hit p e es k)
    step false k ih = where_miss p m (scaled x es) k ∙ rw (ih, where_miss p e es k)

smoothed_parts : (transfer : ℕ → List Entry) (r : List Float) (j : ℕ) → flat_map (λ i. puts_at j (scaled_puts transfer r i)) (up_to (length r)) ≡ smoothed_restriction_terms transfer r j
unfolding smoothed_restriction_terms
smoothed_parts transfer r j =
    flat_map_cong (λ i. puts_at j (scaled_puts transfer r i)) (λ i. map (λ w. w *ᶠ get_or r i nan) (values_where (λ k. eqb k j) (transfer i)))
    (each_any (up_to (length r)) (λ i. where_scaled (λ k. eqb k j) (get_or r i nan) (transfer i)))

pub smoothed_law : (transfer : ℕ → List Entry) (r z l : List Float) (c : ℕ) → z ≡ replicate c zeroᶠ → l ≡ scattered (scaled_puts transfer r) (length r) z
    → l ≡ tab (λ j. total (smoothed_restriction_terms transfer r j)) c
smoothed_law transfer r z l c p q = rw (q, p, zeros_tab c) (scatter_law (scaled_puts transfer r) (length r) c (smoothed_restriction_terms transfer r) (smoothed_parts transfer r))

module _ (idx : List ℕ) (vals : List Float) (x : Float) where
  -- what the weights from k on put
  abbrev pub weights_left : ℕ → List Float → List Float
  weights_left k l = scatter (scaled x (entries (drop k idx) (drop k vals))) l

  pub weight_step : (k n c : ℕ) (v : Float) (l m t : List Float) → n ≡ k + 1 → k < length idx → k < length vals → c ≡ get_or idx k 0 → v ≡ get_or vals k nan
      → weights_left k l ≡ t → m ≡ bump l (put c (v *ᶠ x)) → weights_left n m ≡ t
  unfolding scatter zip_with
  weight_step k n c v l m t en p q ec ev inv em = rw (en, em, ec, ev, add-one) (rw (drop-cons idx k 0 p, drop-cons vals k nan q) at inv)

  pub weights_done : (k : ℕ) (l t : List Float) → length idx ≤ k → weights_left k l ≡ t → l ≡ t
  unfolding scatter zip_with
  weights_done k l t h e = rw (drop_of_length-le idx h) at e
