-- Of the definitions themselves: StrongGraph lists Graph's neighbours, in another order; and no strength is NaN or has a sign, so that this order is a strict weak one.
-- Assumes nothing.
use mathlib.Core.Path.{◌≡◌, refl}
use mathlib.Core.Bool.{Bool, true}
use mathlib.Core.List.Permᴰ
use mathlib.Core.List.{List, [], ◌∷◌, flat_map, zip_with, Permᴰ}
use Prim.Native.Nat.{ℕ, suc, ◌+◌, ◌*◌}
use lib.ListN.{get_or}
use lib.Seq.{slice}
use lib.Ieee.{Float, nan}
use lib.Ieee.Scale.{finite}
use Rattle.definitions.specs.Lists.{up_to}
use Rattle.definitions.specs.Numbers.{total, zeroᶠ}
use Rattle.definitions.specs.Matrix.{Matrix, stored, row_of, entries_of, valid_of}
use Rattle.definitions.specs.Refusal.{done}
use Rattle.definitions.specs.Links.{node_entries}
use Rattle.definitions.specs.Neighbours.{neighbours_of, strong_neighbours_of, squares_towards, norm_towards, strength}
use Rattle.laws.proofs.Lists.{Each, none, more, each_append, each_by, each_take, each_drop}
use Rattle.csr32.specs.Rows.{valid_real}
use Rattle.adjacency.specs.Order.{insert_by, sort_by}
use Rattle.adjacency.specs.Strengths.{plain, squares_in}
use Rattle.adjacency.proofs.Laws.{by_case, insert_here, insert_on}
use Rattle.adjacency.proofs.Measures.{Finite}
use Rattle.adjacency.proofs.Nodes.{strength_is}
use Rattle.adjacency.proofs.Norming.{plain_squares}
use Rattle.adjacency.proofs.Plain.{plain_root, plain_strong, plain_total, plain_zero}
use Rattle.adjacency.proofs.Sorting.{strong_sorted}

module _ (f : ℕ → ℕ → Bool) where
  insert_permutes : (x : ℕ) (l : List ℕ) → Permᴰ (insert_by f x l) (x ∷ l)
  unfolding insert_by
  insert_permutes x [] = Permᴰ.refl (x ∷ [])
  insert_permutes x (y ∷ l) = by_case (f x y)
      (λ e. rw (insert_here f x y l e) (Permᴰ.refl (x ∷ (y ∷ l))))
      (λ e. rw (insert_on f x y l e) (Permᴰ.trans (Permᴰ.cons refl (insert_permutes x l)) (Permᴰ.swap refl refl)))

  sort_permutes : (l : List ℕ) → Permᴰ (sort_by f l) l
  unfolding sort_by
  sort_permutes [] = Permᴰ.refl []
  sort_permutes (x ∷ l) = Permᴰ.trans (insert_permutes x (sort_by f l)) (Permᴰ.cons refl (sort_permutes l))

-- THEOREM: both policies list the same neighbours, of any matrix
pub same_neighbours : (a : Matrix) (size nodes v : ℕ) → Permᴰ (strong_neighbours_of a size nodes v) (neighbours_of a size nodes v)
same_neighbours a size nodes v = rw (strong_sorted a size nodes v) (sort_permutes _ (neighbours_of a size nodes v))

-- ---- finite values stay so in a part of a list

abbrev pub Real : List Float → Type 0
Real l = Each (λ x. finite x ≡ true) l

real_zip : (xs : List ℕ) {ys : List Float} → Real ys → Finite (zip_with (λ c v. record { col = c; value = v }) xs ys)
unfolding zip_with
real_zip [] r = none
real_zip (x ∷ xs) none = none
real_zip (x ∷ xs) (more h t) = more h (real_zip xs t)

finite_stored : (idx : List ℕ) (vals : List Float) (k e : ℕ) → Real vals → Finite (stored idx vals k e)
finite_stored idx vals k e r = real_zip (slice k e idx) (each_drop k (each_take e r))

finite_rows : (a : Matrix) → Real a.values → (b : ℕ) (l : List ℕ) → Finite (flat_map (λ i. entries_of a (b + i)) l)
unfolding flat_map entries_of row_of
finite_rows a r b [] = none
finite_rows a r b (i ∷ l) =
    each_append (finite_stored a.col_idx a.values (get_or a.row_ptr (b + i) 0) (get_or a.row_ptr (suc (b + i)) 0) r) (finite_rows a r b l)

plain_sum : (a : Matrix) (size v u : ℕ) → Finite (flat_map (λ i. entries_of a (v * size + i)) (up_to size)) → plain (total (squares_towards a size v u)) ≡ true
unfolding total squares_towards node_entries squares_in
plain_sum a size v u f = let es = flat_map (λ i. entries_of a (v * size + i)) (up_to size) in plain_total (squares_in size u es) zeroᶠ plain_zero (plain_squares size u es f)

-- no norm towards a node is NaN, -0 or below zero where the values are finite, and so none of a node's own block
pub plain_norm : (a : Matrix) → Real a.values → (size v u : ℕ) → plain (norm_towards a size v u) ≡ true
unfolding norm_towards
plain_norm a r size v u = plain_root (total (squares_towards a size v u)) (plain_sum a size v u (finite_rows a r (v * size) (up_to size)))

pub plain_own : (a : Matrix) → Real a.values → (size v : ℕ) → plain (norm_towards a size v v) ≡ true
plain_own a r size v = plain_norm a r size v v

-- THEOREM: no strength of a valid matrix is NaN, -0 or below zero
pub strength_plain : (a : Matrix) → valid_of a ≡ done tt → (size v u : ℕ) → plain (strength a size v u) ≡ true
strength_plain a e size v u =
    let r : Real a.values = each_by a.values nan (valid_real a e) in
    rw (strength_is a size v u) (plain_strong (total (squares_towards a size v u)) (norm_towards a size v v) (norm_towards a size u u) (plain_sum a size v u (finite_rows a r (v * size) (up_to size))))
