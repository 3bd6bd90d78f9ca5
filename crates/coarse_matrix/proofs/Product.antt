-- A row of Pᵀ A P: what the accumulator and the weights add to the coarse entry (i, j).
use Prim.Native.Nat.{ℕ, zero, suc, ◌+◌, ◌*◌, ◌<◌, ◌≤◌}
use mathlib.Core.Path.{◌≡◌, refl, ◌∙◌}
use mathlib.Core.Bool.{Bool, true, false}
use mathlib.Core.List.{List, [], ◌∷◌, ◌++◌, map, flat_map, foldl-append}
use native.Mathlib.Omega.{arith}
use native.Mathlib.Numerals.{add-one}
use lib.Dec.{eqb}
use lib.ListN.{length, get_or, take, replicate, length-append, get_or-replicate}
use lib.Seq.{get_or-take, length-take-le, take_at}
use lib.Ieee.{Float, nan}
use borrow.Author.Tests.{eqb-true, eqb-false, eq-eqb}
use Rattle.definitions.specs.Lists.{up_to, keep, square, padded}
use Rattle.definitions.specs.Numbers.{◌*ᶠ◌, zeroᶠ, total}
use Rattle.definitions.specs.Matrix.{Matrix, Entry, values_where, entries_of}
use Rattle.definitions.specs.Coarse.{weighted_sum, weights_at, product_terms, galerkin_terms, galerkin_entry, averaged_square}
use Rattle.definitions.specs.Refusal.{result_left}
use Rattle.averaging.specs.Averaging.{average_call}
use Rattle.laws.proofs.Squares.{square_is}
use Rattle.averaging.proofs.Laws.{average_fits}
use Rattle.laws.proofs.Places.{place}
use Rattle.csr32.proofs.Stored.{where_append, where_hit, where_miss, where_none}
use Rattle.laws.proofs.Lists.{Each, each_head, each_tail, each_by}
use Rattle.laws.proofs.Growing.{flat_map_snoc, up_to_snoc, rows_none}
use Rattle.laws.specs.Scatter.{put, scatter}
use Rattle.coarse_matrix.specs.Galerkin.{scaled, product_puts, put_at, mark, Room, Told, Seen, Put, weight_puts, weighed_puts, row_terms, RowAdded, RowsAdded}
use Rattle.laws.proofs.Scattering.{plus, scatter_at}
use Rattle.coarse_matrix.proofs.Squares.{at_row, off_row}
use Rattle.coarse_matrix.proofs.Marking.{others_all}
use Rattle.laws.specs.Bounds.{Below}

-- ---- the accumulator's terms are the definition's

scaled_at_lem : (j : ℕ) (v : Float) (ws : List Entry) → put_at j (scaled v ws) ≡ map (λ w. v *ᶠ w) (values_where (λ k. eqb k j) ws)
scaled_at_lem j v [] = where_none (λ k. eqb k j) ∙ rw (where_none (λ k. eqb k j))
scaled_at_lem j v (e ∷ ws) = step (eqb e.col j) refl (scaled_at_lem j v ws)
  where
    step : (b : Bool) → eqb e.col j ≡ b → put_at j (scaled v ws) ≡ map (λ w. v *ᶠ w) (values_where (λ k. eqb k j) ws) → put_at j (scaled v (e ∷ ws)) ≡ map (λ w. v *ᶠ w) (values_where (λ k. eqb k j) (e ∷ ws))
    step true q ih = where_hit (λ k. eqb k j) (put e.col (v *ᶠ e.value)) (scaled v ws) q ∙ rw (ih, where_hit (λ k. eqb k j) e ws q)
    step false q ih = where_miss (λ k. eqb k j) (put e.col (v *ᶠ e.value)) (scaled v ws) q ∙ rw (ih, where_miss (λ k. eqb k j) e ws q)

products_at : (a : Matrix) (transfer : ℕ → List Entry) (j : ℕ) (es : List Entry)
    → put_at j (product_puts transfer es) ≡ flat_map (λ e. map (λ w. e.value *ᶠ w) (weights_at a transfer e.col j)) es
unfolding product_puts flat_map weights_at
products_at a transfer j [] = where_none (λ k. eqb k j)
products_at a transfer j (e ∷ es) =
    where_append (λ k. eqb k j) (scaled e.value (transfer e.col)) (product_puts transfer es) ∙ rw (scaled_at_lem j e.value (transfer e.col), products_at a transfer j es)

pub product_terms_lem : (a : Matrix) (transfer : ℕ → List Entry) (r j : ℕ) → put_at j (product_puts transfer (entries_of a r)) ≡ product_terms a transfer r j
unfolding product_terms
product_terms_lem a transfer r j = products_at a transfer j (entries_of a r)

-- ---- every listed column has terms, and its sum stands in the accumulator

keep_member : (js : List ℕ) (t : ℕ) → t < length js → keep (λ n. eqb n (get_or js t 0)) js ≡ [] → ⊥
unfolding keep
keep_member [] t h e = omega arith
keep_member (x ∷ js) zero h e = let z : ◌≡◌ {A = ℕ} 0 1 = cc (rw (eq-eqb x x refl, keep) at e) in omega arith
keep_member (x ∷ js) (suc t) h e = step (eqb x (get_or js t 0)) refl (keep_member js t (omega arith))
  where
    step : (b : Bool) → eqb x (get_or js t 0) ≡ b → (keep (λ n. eqb n (get_or js t 0)) js ≡ [] → ⊥) → ⊥
    step true q ih = let z : ◌≡◌ {A = ℕ} 0 1 = cc (rw (q, keep) at e) in omega arith
    step false q ih = ih (rw (q, keep) at e)

module _ (c token : ℕ) (stamps touched : List ℕ) (sums : List Float) (count : ℕ) (es : List Entry) (s : Seen c token stamps touched sums count es) (big : count ≤ length touched) where
  n : length (take count touched) ≡ count
  n = length-take-le count touched big

  below : Each (λ k. k < c) (take count touched)
  below = each_by (take count touched) 0 (λ t h. let h' : t < count = omega (arith, n) in rw (get_or-take count touched t 0 h') (s.below t h'))

  pub touched_below : Below c (take count touched)
  touched_below t h = let h' : t < count = omega (arith, n) in rw (get_or-take count touched t 0 h') (s.below t h')

  listed : Each (λ k. get_or sums k nan ≡ total (put_at k es)) (take count touched)
  unfolding mark
  listed = each_by (take count touched) 0 (λ t h. found t h)
    where
      found : (t : ℕ) → t < length (take count touched) → get_or sums (get_or (take count touched) t 0) nan ≡ total (put_at (get_or (take count touched) t 0) es)
      found t h =
          let k = get_or (take count touched) t 0 in
          terms (put_at k es) (λ e. keep_member (take count touched) t h (s.once k ∙ rw e)) (s.told k (touched_below t h))
        where
          k' : ℕ
          k' = get_or (take count touched) t 0

          terms : (ts : List Float) → (ts ≡ [] → ⊥) → Told token stamps sums k' ts → get_or sums k' nan ≡ total ts
          terms [] d p = absurd (d refl)
          terms (x ∷ ts) d p = p.1

-- ---- what a transfer row's weights put at (i, j)

module _ (c : ℕ) (sums : List Float) (terms : ℕ → List Float) (js : List ℕ) (within : Each (λ k. k < c) js)
    (are : Each (λ k. get_or sums k nan ≡ total (terms k)) js) (touched : (j : ℕ) → keep (λ k. eqb k j) js ≡ mark (terms j) j) where
  weight_hit : (i j : ℕ) (e : Entry) → j < c → e.col ≡ i → (ks : List ℕ) → Each (λ k. k < c) ks → Each (λ k. get_or sums k nan ≡ total (terms k)) ks
      → put_at (i * c + j) (weight_puts sums (e.col * c) e.value ks) ≡ map (λ k. e.value *ᶠ total (terms k)) (keep (λ k. eqb k j) ks)
  unfolding keep
  weight_hit i j e hj q [] h a = where_none (λ n. eqb n (i * c + j))
  weight_hit i j e hj q (k ∷ ks) h a = step (eqb k j) refl (weight_hit i j e hj q ks (each_tail h) (each_tail a))
    where
      f : ℕ → Entry
      f k = put (e.col * c + k) (e.value *ᶠ get_or sums k nan)

      step : (b : Bool) → eqb k j ≡ b → put_at (i * c + j) (map f ks) ≡ map (λ k. e.value *ᶠ total (terms k)) (keep (λ k. eqb k j) ks)
          → put_at (i * c + j) (f k ∷ map f ks) ≡ map (λ k. e.value *ᶠ total (terms k)) (keep (λ k. eqb k j) (k ∷ ks))
      step true p ih = where_hit (λ n. eqb n (i * c + j)) (f k) (map f ks) (at_row e.col i k j c (each_head h) hj q ∙ p) ∙ rw (p, keep) (rw (ih, each_head a))
      step false p ih = where_miss (λ n. eqb n (i * c + j)) (f k) (map f ks) (at_row e.col i k j c (each_head h) hj q ∙ p) ∙ rw (p, keep) ih

  weight_miss : (i j : ℕ) (e : Entry) → j < c → (e.col ≡ i → ⊥) → (ks : List ℕ) → Each (λ k. k < c) ks → put_at (i * c + j) (weight_puts sums (e.col * c) e.value ks) ≡ []
  weight_miss i j e hj q [] h = where_none (λ n. eqb n (i * c + j))
  weight_miss i j e hj q (k ∷ ks) h =
      where_miss (λ n. eqb n (i * c + j)) (put (e.col * c + k) (e.value *ᶠ get_or sums k nan)) (weight_puts sums (e.col * c) e.value ks) (off_row e.col i k j c (each_head h) hj q)
      ∙ weight_miss i j e hj q ks (each_tail h)

  marked : (w : Float) (j : ℕ) (ts : List Float) → terms j ≡ ts → map (λ k. w *ᶠ total (terms k)) (mark ts j) ≡ weighted_sum w ts
  unfolding mark weighted_sum
  marked w j [] e = refl
  marked w j (t ∷ ts) e = rw e

  pub galerkin_row_lem : (i j : ℕ) → j < c → (ws : List Entry) → put_at (i * c + j) (weighed_puts c sums js ws) ≡ flat_map (λ w. weighted_sum w (terms j)) (values_where (λ k. eqb k i) ws)
  unfolding flat_map weighed_puts
  galerkin_row_lem i j hj [] = where_none (λ n. eqb n (i * c + j)) ∙ rw (where_none (λ k. eqb k i))
  galerkin_row_lem i j hj (e ∷ ws) =
      where_append (λ n. eqb n (i * c + j)) (weight_puts sums (e.col * c) e.value js) (weighed_puts c sums js ws) ∙ step (eqb e.col i) refl (galerkin_row_lem i j hj ws)
    where
      step : (b : Bool) → eqb e.col i ≡ b → put_at (i * c + j) (weighed_puts c sums js ws) ≡ flat_map (λ w. weighted_sum w (terms j)) (values_where (λ k. eqb k i) ws)
          → put_at (i * c + j) (weight_puts sums (e.col * c) e.value js) ++ put_at (i * c + j) (weighed_puts c sums js ws) ≡ flat_map (λ w. weighted_sum w (terms j)) (values_where (λ k. eqb k i) (e ∷ ws))
      step true p ih = rw (where_hit (λ k. eqb k i) e ws p, weight_hit i j e hj (eqb-true e.col i p) js within are, touched j, marked e.value j (terms j) refl, ih)
      step false p ih = rw (where_miss (λ k. eqb k i) e ws p, weight_miss i j e hj (eqb-false e.col i p) js within, ih)

-- ---- one row

pub room_first : (c token : ℕ) (stamps : List ℕ) → length stamps ≡ c → ((j : ℕ) → j < c → get_or stamps j 0 < token) → Room token stamps 0
room_first c token stamps l b = omega (arith, others_all token stamps (λ j q. b j (omega arith)))

seen_first : (c token : ℕ) (stamps touched : List ℕ) (sums : List Float) → ((j : ℕ) → j < c → get_or stamps j 0 < token) → Seen c token stamps touched sums 0 []
unfolding keep mark
seen_first c token stamps touched sums b =
    record { told = λ j h. rw (where_none (λ k. eqb k j)) (b j h); once = λ j. rw (where_none (λ k. eqb k j)); below = λ t h. absurd (omega arith) }

told_stamp : (token : ℕ) (stamps : List ℕ) (sums : List Float) (j : ℕ) (ts : List Float) → Told token stamps sums j ts → get_or stamps j 0 < suc token
told_stamp token stamps sums j [] p = omega arith
told_stamp token stamps sums j (t ∷ ts) p = omega (arith, p.0)

module _ (a : Matrix) (transfer : ℕ → List Entry) (c r token : ℕ) (s₀ s₁ t₀ t₁ : List ℕ) (u₀ u₁ f g : List Float) (count : ℕ) (et : token ≡ suc r)
    (stamps : (j : ℕ) → j < c → get_or s₀ j 0 < suc r) (ls : length s₁ ≡ c) (lt : length t₁ ≡ c) (big : length f ≡ c * c)
    (p : Put c token s₀ t₀ u₀ 0 s₁ t₁ u₁ count (product_puts transfer (entries_of a r))) where
  row_seen : Seen c token s₁ t₁ u₁ count (product_puts transfer (entries_of a r))
  row_seen = p.seen [] (seen_first c token s₀ t₀ u₀ (λ j h. rw et (stamps j h)))

  pub row_count : count ≤ length t₁
  row_count = omega (arith, p.room)

  pub row_below : Below c (take count t₁)
  row_below = touched_below c token s₁ t₁ u₁ count _ row_seen row_count

  pub row_law : g ≡ scatter (weighed_puts c u₁ (take count t₁) (transfer r)) f → RowAdded a transfer c r s₁ f g
  unfolding weights_at
  row_law eg =
      record {
        stamped = λ j h. rw (← et) (told_stamp token s₁ u₁ j (put_at j es) (row_seen.told j h));
        entries = λ i j hi hj. rw eg
            (scatter_at (weighed_puts c u₁ js (transfer r)) f (i * c + j) (omega (arith, place i j c c hi hj, big))
            ∙ rw (row_terms_lem i j hj, product_terms_lem a transfer r j));
      }
    where
      es : List Entry
      es = product_puts transfer (entries_of a r)

      js : List ℕ
      js = take count t₁

      row_terms_lem : (i j : ℕ) → j < c → put_at (i * c + j) (weighed_puts c u₁ js (transfer r)) ≡ flat_map (λ w. weighted_sum w (put_at j es)) (values_where (λ k. eqb k i) (transfer r))
      row_terms_lem i j hj = galerkin_row_lem c u₁ (λ k. put_at k es) js (below c token s₁ t₁ u₁ count es row_seen row_count) (listed c token s₁ t₁ u₁ count es row_seen row_count) row_seen.once i j hj (transfer r)

-- ---- the rows

pub rows_first : (a : Matrix) (transfer : ℕ → List Entry) (c k : ℕ) (stamps : List ℕ) (coarse : List Float) → stamps ≡ replicate k 0 → c ≤ k → coarse ≡ replicate (c * c) zeroᶠ → RowsAdded a transfer c 0 stamps coarse
unfolding total
rows_first a transfer c k stamps coarse es h ec =
    record {
      stamped = λ j q. rw (es, get_or-replicate {A = ℕ} k j 0 0 (omega arith)) (omega arith);
      entries = λ i j hi hj. rw (ec, rows_none (λ r. row_terms a transfer r i j)) (get_or-replicate (c * c) (i * c + j) zeroᶠ nan (place i j c c hi hj));
    }

pub rows_more : (a : Matrix) (transfer : ℕ → List Entry) (c r : ℕ) (s₀ s₁ : List ℕ) (f₀ f₁ : List Float) → RowsAdded a transfer c r s₀ f₀ → RowAdded a transfer c r s₁ f₀ f₁ → RowsAdded a transfer c (r + 1) s₁ f₁
unfolding total
rows_more a transfer c r s₀ s₁ f₀ f₁ p q =
    record {
      stamped = λ j h. rw add-one (q.stamped j h);
      entries = λ i j hi hj. q.entries i j hi hj
          ∙ rw (p.entries i j hi hj, add-one, up_to_snoc r, flat_map_snoc (λ r. row_terms a transfer r i j) (up_to r) r, foldl-append plus zeroᶠ (flat_map (λ r. row_terms a transfer r i j) (up_to r)) (row_terms a transfer r i j));
    }

-- ---- all rows, averaged, and zeros after them

pub galerkin_law : (a : Matrix) (transfer : ℕ → List Entry) (c k : ℕ) (s : List ℕ) (f rest v : List Float) → c ≤ 2_048 → length f ≡ c * c → length (f ++ rest) ≡ k → RowsAdded a transfer c a.rows s f
    → v ≡ result_left zeroᶠ (average_call c (f ++ rest)) (f ++ rest) → v ≡ padded zeroᶠ k (averaged_square c (square c (galerkin_entry a transfer)))
unfolding galerkin_entry galerkin_terms
galerkin_law a transfer c k s f rest v h lf lk p ev =
    let front : take (c * c) (f ++ rest) ≡ square c (galerkin_entry a transfer) =
    take_at f rest (c * c) lf ∙ square_is nan c (galerkin_entry a transfer) f lf (λ i j hi hj. p.entries i j hi hj) in
    ev ∙ average_fits c (f ++ rest) h (omega (arith, length-append f rest)) ∙ rw (front, lk)
