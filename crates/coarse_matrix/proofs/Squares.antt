-- Scattering into a square matrix.
use Prim.Native.Nat.{ℕ, suc, ◌+◌, ◌*◌, ◌<◌, ◌≤◌}
use mathlib.Core.Path.{◌≡◌, refl, ap, sym, ◌∙◌}
use mathlib.Core.Bool.{Bool, true, false}
use mathlib.Core.List.{List, [], ◌∷◌, ◌++◌, flat_map}
use native.Mathlib.Omega.{arith}
use lib.Dec.{eqb}
use lib.ListN.{length, get_or, take, drop, replicate, length-append, length-drop, length-replicate, get_or-replicate}
use lib.Seq.{slice, get_or-take, length-take-le, take_all, take_at}
use lib.Ieee.{Float, nan}
use borrow.Author.Tests.{eqb-true, eqb-false, eq-eqb, ne_eqb}
use Rattle.definitions.specs.Lists.{up_to, square, padded}
use Rattle.definitions.specs.Refusal.{result_left}
use Rattle.averaging.specs.Averaging.{average_call}
use Rattle.laws.proofs.Squares.{square_is, take_zeros}
use Rattle.averaging.proofs.Laws.{average_fits}
use Rattle.laws.proofs.Places.{same_row, place}
use Rattle.definitions.specs.Numbers.{zeroᶠ, total}
use Rattle.definitions.specs.Matrix.{Matrix, Entry, values_where, row_of, entries_of, stored}
use Rattle.definitions.specs.Coarse.{constant_terms, constant_entry, averaged_square}
use Rattle.csr32.proofs.Stored.{where_hit, where_miss, where_none}
use Rattle.laws.proofs.Kept.{flat_map_keep}
use Rattle.laws.proofs.Lists.{Each, each_head, each_tail, each_imp, each_by, each_take, each_drop, each_zip_with}
use Rattle.laws.specs.Scatter.{put, scatter, scattered}
use Rattle.coarse_matrix.specs.Scatter.{moved, row_puts}
use Rattle.laws.proofs.Scattering.{length_scattered, scattered_at, puts_at, rows_step}

-- what holds of every column that is stored
pub each_stored : (P : ℕ → Type 0) (idx : List ℕ) (vals : List Float) (a e : ℕ) → ((k : ℕ) → k < length idx → P (get_or idx k 0)) → Each (λ e. P e.col) (stored idx vals a e)
each_stored P idx vals a e h = each_zip_with (λ c v. put c v) (slice a e vals) (λ c v p. p) (each_drop a (each_take e (each_by idx 0 h)))

-- ---- the numbers of moved entries

pub where_moved : (p q : ℕ → Bool) (g : ℕ → ℕ) (es : List Entry) → Each (λ e. p (g e.col) ≡ q e.col) es → values_where p (moved g es) ≡ values_where q es
where_moved p q g [] h = where_none p ∙ sym (where_none q)
where_moved p q g (e ∷ es) h = step (q e.col) refl (where_moved p q g es (each_tail h))
  where
    m : Entry
    m = put (g e.col) e.value

    step : (b : Bool) → q e.col ≡ b → values_where p (moved g es) ≡ values_where q es → values_where p (moved g (e ∷ es)) ≡ values_where q (e ∷ es)
    step true k ih = where_hit p m (moved g es) (each_head h ∙ k) ∙ ap (λ l. e.value ∷ l) ih ∙ sym (where_hit q e es k)
    step false k ih = where_miss p m (moved g es) (each_head h ∙ k) ∙ ih ∙ sym (where_miss q e es k)

pub where_never : (es : List Entry) → values_where (λ _. false) es ≡ []
where_never [] = where_none (λ _. false)
where_never (e ∷ es) = where_miss (λ _. false) e es refl ∙ where_never es

-- ---- rows of c elements

module _ (x i y j c : ℕ) (hy : y < c) (hj : j < c) where
  pub at_row : x ≡ i → eqb (x * c + y) (i * c + j) ≡ eqb y j
  at_row e = rw e (step (eqb y j) refl)
    where
      step : (b : Bool) → eqb y j ≡ b → eqb (i * c + y) (i * c + j) ≡ eqb y j
      step true q = rw q (eq-eqb (i * c + y) (i * c + j) (rw (eqb-true y j q)))
      step false q = rw q (ne_eqb (i * c + y) (i * c + j) (λ r. eqb-false y j q (omega arith)))

  pub off_row : (x ≡ i → ⊥) → eqb (x * c + y) (i * c + j) ≡ false
  off_row n = ne_eqb (x * c + y) (i * c + j) (λ e. n (same_row x i y j c hy hj e))

-- THE SCATTER LAW for a square
pub square_law : (puts : ℕ → List Entry) (n c k : ℕ) (f : ℕ → ℕ → Float) → c * c ≤ k
    → ((i j : ℕ) → i < c → j < c → total (flat_map (λ r. puts_at (i * c + j) (puts r)) (up_to n)) ≡ f i j)
    → take (c * c) (scattered puts n (replicate k zeroᶠ)) ≡ square c f
unfolding total
square_law puts n c k f h same =
    square_is nan c f (take (c * c) (scattered puts n (replicate k zeroᶠ)))
    (length-take-le (c * c) (scattered puts n (replicate k zeroᶠ)) (rw (length_scattered puts (replicate k zeroᶠ) n, length-replicate k zeroᶠ) h))
    (λ i j p q. get_or-take (c * c) (scattered puts n (replicate k zeroᶠ)) (i * c + j) nan (place i j c c p q)
    ∙ scattered_at puts (replicate k zeroᶠ) n (i * c + j) (rw (length-replicate k zeroᶠ) (omega (arith, place i j c c p q)))
    ∙ rw (get_or-replicate k (i * c + j) zeroᶠ nan (omega (arith, place i j c c p q))) (same i j p q))

-- ---- the coarse matrix, PiecewiseConstant

-- a row more
pub matrix_step : (column : ℕ → ℕ) (c : ℕ) (row : ℕ → List Entry) (i at : ℕ) (l₀ l m : List Float) → l ≡ scattered (row_puts column c row) i l₀ → at ≡ column i
    → m ≡ scatter (moved (λ k. at * c + column k) (row i)) l → m ≡ scattered (row_puts column c row) (i + 1) l₀
matrix_step column c row i at l₀ l m e ea em = rows_step (row_puts column c row) l₀ l m i e (rw (em, ea))

module _ (a : Matrix) (c : ℕ) (column : ℕ → ℕ) (within : (k : ℕ) → k < length a.col_idx → column (get_or a.col_idx k 0) < c) where
  pub constant_terms_lem : (i j : ℕ) → j < c → flat_map (λ r. puts_at (i * c + j) (row_puts column c (entries_of a) r)) (up_to a.rows) ≡ constant_terms a column i j
  unfolding constant_terms entries_of row_of
  constant_terms_lem i j hj =
      flat_map_keep (λ r. eqb (column r) i) (λ r. puts_at (i * c + j) (row_puts column c (entries_of a) r)) (λ r. values_where (λ k. eqb (column k) j) (entries_of a r))
      (λ r q. where_moved (λ k. eqb k (i * c + j)) (λ k. eqb (column k) j) (λ k. column r * c + column k) (entries_of a r)
      (each_imp (λ e h. at_row (column r) i (column e.col) j c h hj (eqb-true (column r) i q)) (in_row r)))
      (λ r q. where_moved (λ k. eqb k (i * c + j)) (λ _. false) (λ k. column r * c + column k) (entries_of a r)
      (each_imp (λ e h. off_row (column r) i (column e.col) j c h hj (eqb-false (column r) i q)) (in_row r))
      ∙ where_never (entries_of a r))
      (up_to a.rows)
    where
      in_row : (r : ℕ) → Each (λ e. column e.col < c) (entries_of a r)
      in_row r = each_stored (λ k. column k < c) a.col_idx a.values (get_or a.row_ptr r 0) (get_or a.row_ptr (suc r) 0) within

  -- averaged, with zeros after it
  pub constant_law : (w z l u v : List Float) → c ≤ 2_048 → c * c ≤ length w → z ≡ replicate (length w) zeroᶠ → l ≡ scattered (row_puts column c (entries_of a)) a.rows (take (c * c) z)
      → u ≡ l ++ drop (c * c) z → v ≡ result_left zeroᶠ (average_call c u) u → v ≡ padded zeroᶠ (length w) (averaged_square c (square c (constant_entry a column)))
  unfolding constant_entry
  constant_law w z l u v h k ez el eu ev =
      let tz : take (c * c) z ≡ replicate (c * c) zeroᶠ = rw ez (take_zeros (c * c) (length w) zeroᶠ k) in
      let el' : l ≡ scattered (row_puts column c (entries_of a)) a.rows (replicate (c * c) zeroᶠ) = el ∙ rw tz in
      let nl : length l ≡ c * c = ap length el' ∙ length_scattered (row_puts column c (entries_of a)) (replicate (c * c) zeroᶠ) a.rows ∙ length-replicate (c * c) zeroᶠ in
      let all : take (c * c) l ≡ l = take_all (c * c) l (omega arith) in
      let is : l ≡ square c (constant_entry a column) = sym all ∙ rw el' (square_law (row_puts column c (entries_of a)) a.rows c (c * c) (constant_entry a column) (omega arith) (λ i j p g. ap total (constant_terms_lem i j g))) in
      let nz : length z ≡ length w = ap length ez ∙ length-replicate (length w) zeroᶠ in
      let nu : length u ≡ length w = rw eu (rw (length-append l (drop (c * c) z), nl, length-drop (c * c) z) (omega arith)) in
      let tu : take (c * c) u ≡ l = rw eu (take_at l (drop (c * c) z) (c * c) nl) in
      ev ∙ average_fits c u h (omega arith) ∙ rw (tu, is, nu)
