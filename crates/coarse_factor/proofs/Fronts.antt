-- The fronts of eight rows, made side by side before the first of them is finished: they read the rows before and themselves.
use Prim.Native.Nat.{ℕ, zero, suc, ◌+◌, ◌-◌, ◌<◌, ◌≤◌}
use mathlib.Core.Path.{◌≡◌, refl, ap, sym, ◌∙◌}
use mathlib.Core.List.{List, []}
use native.Mathlib.Omega.{arith}
use native.Mathlib.Numerals.{add-one}
use lib.ListN.{length, get_or, set, take, drop, length-set}
use lib.Seq.{get_or-set_same, get_or-set_other, get_or-take, get_or-drop}
use lib.Ieee.{Float, nan}
use Rattle.definitions.specs.Lists.{tab}
use Rattle.definitions.specs.Numbers.{◌-ᶠ◌, ◌*ᶠ◌, ◌/ᶠ◌, reduced}
use Rattle.definitions.specs.Factor.{below_diagonal, rest, products}
use Rattle.definitions.specs.Coarse.{packed, packed_length}
use Rattle.laws.proofs.Lists.{tab_cong, get_d_tab}
use Rattle.laws.proofs.Growing.{reduced_none, reduced_more, upto}
use Rattle.laws.proofs.Packed.{tri_row}
use Rattle.laws.proofs.Factor.{left_length}
use Rattle.coarse_factor.specs.Fronts.{row_at, lane, less_row, front_rest, Fronts}

-- ---- sums side by side

pub lanes_none : (b : ℕ → Float) (f : ℕ → ℕ → Float) (n : ℕ) → tab b n ≡ tab (λ r. reduced (b r) (tab (f r) 0)) n
lanes_none b f n = tab_cong b (λ r. reduced (b r) (tab (f r) 0)) n (λ r h. reduced_none (b r) (f r))

pub lanes_more : (b : ℕ → Float) (f : ℕ → ℕ → Float) (n k : ℕ) (x y : List Float) → x ≡ tab (λ r. reduced (b r) (tab (f r) k)) n → y ≡ tab (λ r. get_or x r nan -ᶠ f r k) n
    → y ≡ tab (λ r. reduced (b r) (tab (f r) (k + 1))) n
lanes_more b f n k x y ex ey = ey ∙ tab_cong (λ r. get_or x r nan -ᶠ f r k) (λ r. reduced (b r) (tab (f r) (k + 1))) n
    (λ r h. reduced_more (b r) (f r) k (get_or x r nan) _ (f r k) (rw ex (get_d_tab (λ r. reduced (b r) (tab (f r) k)) n r nan h)) refl refl)

-- ---- what the fronts read

-- a row as a slice of l
pub row_in : (l : List Float) (start n t : ℕ) → t < n → get_or (take n (drop start l)) t nan ≡ get_or l (start + t) nan
row_in l start n t h = get_or-take n (drop start l) t nan h ∙ get_or-drop start l t nan

module _ (a : ℕ → ℕ → Float) (w w' : List (List Float)) (n : ℕ) where
  pub rest_alike : (j : ℕ) (f g : ℕ → Float) (k r : ℕ) → ((t : ℕ) → t < k → g t ≡ f t) → ((t : ℕ) → t < k → lane w' t r ≡ lane w t r) → less_row a f w n j k r ≡ less_row a g w' n j k r
  rest_alike j f g k r el ew = ap (reduced (a (n + r) j)) (tab_cong (λ t. lane w t r *ᶠ f t) (λ t. lane w' t r *ᶠ g t) k (λ t h. rw (el t h, ew t h)))

  pub fronts_alike : (l l' : List Float) (j : ℕ) → ((k t : ℕ) → k < j → t ≤ k → get_or l' (packed_length k + t) nan ≡ get_or l (packed_length k + t) nan) → ((t r : ℕ) → t < j → lane w' t r ≡ lane w t r)
      → Fronts a l w n j → Fronts a l' w' n j
  fronts_alike l l' j el ew f k r hk hr =
      ew k r hk ∙ f k r hk hr
      ∙ rw (el k k hk (omega arith), rest_alike k (row_at l (packed_length k)) (row_at l' (packed_length k)) k r (λ t h. el k t hk (omega arith)) (λ t h. ew t r (omega arith)))

-- a column set, and those before it
set_kept : (w : List (List Float)) (j : ℕ) (y : List Float) (t r : ℕ) → t < j → lane (set w j y) t r ≡ lane w t r
set_kept w j y t r h = rw (get_or-set_other w j t y [] (λ e. omega arith))

set_made : (w : List (List Float)) (j : ℕ) (y : List Float) (r : ℕ) → j < length w → lane (set w j y) j r ≡ get_or y r nan
set_made w j y r h = rw (get_or-set_same w j y [] h)

-- a column more, d its pivot
pub fronts_more : (a : ℕ → ℕ → Float) (l : List Float) (w : List (List Float)) (x y : List Float) (n j : ℕ) (d : Float) → j < length w → d ≡ get_or l (packed_length j + j) nan → x ≡ tab (front_rest a l w n j) 8
    → y ≡ tab (λ r. get_or x r nan /ᶠ d) 8 → Fronts a l w n j → Fronts a l (set w j y) n (j + 1)
fronts_more a l w x y n j d room ed ex ey f k r hk hr =
    upto (λ k. lane (set w j y) k r ≡ front_rest a l (set w j y) n k r /ᶠ get_or l (packed_length k + k) nan) j
    (λ k h. fronts_alike a w (set w j y) n l l j (λ k t h q. refl) (set_kept w j y) f k r h hr)
    (set_made w j y r room
    ∙ ap (λ u. get_or u r nan) ey ∙ get_d_tab (λ r. get_or x r nan /ᶠ d) 8 r nan hr
    ∙ rw (ed, ex, get_d_tab (front_rest a l w n j) 8 r nan hr, rest_alike a w (set w j y) n j (row_at l (packed_length j)) (row_at l (packed_length j)) j r (λ t h. refl) (λ t h. set_kept w j y t r h)))
    k hk

-- two columns more: the second lacked its product with the first
module _ (a : ℕ → ℕ → Float) (l row next : List Float) (w : List (List Float)) (x y z u v : List Float) (n j : ℕ) (room : j + 1 < length w)
    (er : (t : ℕ) → t ≤ j → get_or row t nan ≡ get_or l (packed_length j + t) nan) (en : (t : ℕ) → t ≤ j + 1 → get_or next t nan ≡ get_or l (packed_length (j + 1) + t) nan)
    (ex : x ≡ tab (less_row a (λ t. get_or row t nan) w n j j) 8) (ey : y ≡ tab (less_row a (λ t. get_or next t nan) w n (j + 1) j) 8)
    (ev : v ≡ tab (λ r. get_or x r nan /ᶠ get_or row j nan) 8) (ez : z ≡ tab (λ r. get_or y r nan -ᶠ get_or v r nan *ᶠ get_or next j nan) 8)
    (eu : u ≡ tab (λ r. get_or z r nan /ᶠ get_or next (j + 1) nan) 8) where
  first : x ≡ tab (front_rest a l w n j) 8
  first = ex ∙ tab_cong (less_row a (λ t. get_or row t nan) w n j j) (front_rest a l w n j) 8
      (λ r h. rest_alike a w w n j (λ t. get_or row t nan) (row_at l (packed_length j)) j r (λ t b. sym (er t (omega arith))) (λ t b. refl))

  second : z ≡ tab (front_rest a l (set w j v) n (j + 1)) 8
  second = lanes_more (λ r. a (n + r) (j + 1)) (λ r t. lane (set w j v) t r *ᶠ get_or l (packed_length (j + 1) + t) nan) 8 j y z
      (ey ∙ tab_cong (less_row a (λ t. get_or next t nan) w n (j + 1) j) (less_row a (row_at l (packed_length (j + 1))) (set w j v) n (j + 1) j) 8
      (λ r h. rest_alike a w (set w j v) n (j + 1) (λ t. get_or next t nan) (row_at l (packed_length (j + 1))) j r (λ t b. sym (en t (omega arith))) (λ t b. set_kept w j v t r b)))
      (ez ∙ tab_cong (λ r. get_or y r nan -ᶠ get_or v r nan *ᶠ get_or next j nan) (λ r. get_or y r nan -ᶠ lane (set w j v) j r *ᶠ get_or l (packed_length (j + 1) + j) nan) 8
      (λ r h. rw (set_made w j v r (omega arith), en j (omega arith))))

  pub fronts_two : Fronts a l w n j → Fronts a l (set (set w j v) (j + 1) u) n (j + 2)
  fronts_two f =
      let t : j + 2 ≡ j + 1 + 1 = omega arith in
      let long : j + 1 < length (set w j v) = simp length-set room in
      rw t
      (fronts_more a l (set w j v) z u n (j + 1) (get_or next (j + 1) nan) long (en (j + 1) (omega arith)) second eu
      (fronts_more a l w x v n j (get_or row j nan) (omega arith) (er j (omega arith)) first ev f))

-- ---- the front of a row that is among the eight

pub row_before : (a : ℕ → ℕ → Float) (i j : ℕ) (l : List Float) (p : ℕ) → p < packed_length i → get_or (below_diagonal packed a i j l) p nan ≡ get_or l p nan
unfolding below_diagonal
row_before a i zero l p h = refl
row_before a i (suc j) l p h =
    let m = below_diagonal packed a i j l in
    get_or-set_other m (packed i j) p (rest packed a m i j /ᶠ get_or m (packed j j) nan) nan (λ e. omega arith) ∙ row_before a i j l p h

module _ (a : ℕ → ℕ → Float) (l : List Float) (w : List (List Float)) (n r i : ℕ) (ei : i ≡ n + r) (hr : r < 8) (long : packed_length i + i ≤ length l) (f : Fronts a l w n i) where
  front_value : (k : ℕ) → k < i → ((t : ℕ) → t < k → get_or (below_diagonal packed a i k l) (packed i t) nan ≡ lane w t r)
      → rest packed a (below_diagonal packed a i k l) i k /ᶠ get_or (below_diagonal packed a i k l) (packed k k) nan ≡ lane w k r
  unfolding rest products
  front_value k h e =
      let m = below_diagonal packed a i k l in
      let q : (t : ℕ) → t ≤ k → get_or m (packed k t) nan ≡ get_or l (packed k t) nan = λ t b. row_before a i k l (packed k t) (omega (arith, tri_row k i h)) in
      let s : reduced (a i k) (tab (λ t. get_or m (packed i t) nan *ᶠ get_or m (packed k t) nan) k) ≡ front_rest a l w n k r
      = ap (reduced (a i k)) (tab_cong (λ t. get_or m (packed i t) nan *ᶠ get_or m (packed k t) nan) (λ t. lane w t r *ᶠ get_or l (packed k t) nan) k (λ t b. rw (e t b, q t (omega arith)))) ∙ rw ei in
      rw (s, q k (omega arith)) (sym (f k r h hr))

  front_at : (k : ℕ) → k ≤ i → (t : ℕ) → t < k → get_or (below_diagonal packed a i k l) (packed i t) nan ≡ lane w t r
  unfolding below_diagonal
  front_at zero h t b = absurd (omega arith)
  front_at (suc k) h t b =
      let m = below_diagonal packed a i k l in
      let v = rest packed a m i k /ᶠ get_or m (packed k k) nan in
      upto (λ t. get_or (set m (packed i k) v) (packed i t) nan ≡ lane w t r) k
      (λ t q. get_or-set_other m (packed i k) (packed i t) v nan (λ e. omega arith) ∙ front_at k (omega arith) t q)
      (get_or-set_same m (packed i k) v nan (omega (arith, left_length packed a i k l)) ∙ front_value k h (front_at k (omega arith))) t (omega arith)

  -- an entry more
  pub front_more : (k start : ℕ) (l' : List Float) → k < i → start ≡ packed_length i → l' ≡ below_diagonal packed a i k l → set l' (start + k) (lane w k r) ≡ below_diagonal packed a i (k + 1) l
  unfolding below_diagonal
  front_more k start l' h es e = rw (add-one, es, e, front_value k h (front_at k (omega arith)))

  -- what is left on the diagonal
  pub front_pivot : (l' x row : List Float) → l' ≡ below_diagonal packed a i i l → ((t : ℕ) → t < i → get_or row t nan ≡ get_or l' (packed i t) nan) → x ≡ tab (less_row a (λ t. get_or row t nan) w n i i) 8
      → get_or x r nan ≡ rest packed a l' i i
  unfolding rest products
  front_pivot l' x row e er ex = rw (ex, get_d_tab (less_row a (λ t. get_or row t nan) w n i i) 8 r nan hr, ← ei) (ap (reduced (a i i))
      (tab_cong (λ t. lane w t r *ᶠ get_or row t nan) (λ t. get_or l' (packed i t) nan *ᶠ get_or l' (packed i t) nan) i (λ t h. rw (er t h, e, front_at i (omega arith) t h))))

-- the row of the eight that is finished, as a slice of l'
module _ (a : ℕ → ℕ → Float) (l l' : List Float) (w : List (List Float)) (n i start k : ℕ) (es : start ≡ packed_length i) (long : start + i ≤ length l) (below : n ≤ i) (among : i < n + 8) (ek : k ≡ i)
    (f : Fronts a l w n i) (e : l' ≡ below_diagonal packed a i i l) where
  pub row_here : (t : ℕ) → t < i → get_or (take k (drop start l')) t nan ≡ get_or l' (packed i t) nan
  row_here t h = rw (← es) (row_in l' start k t (omega arith))

  pub pivot_here : (x : List Float) → x ≡ tab (less_row a (λ t. get_or (take k (drop start l')) t nan) w n i i) 8 → get_or x (i - n) nan ≡ rest packed a l' i i
  pivot_here x ex = front_pivot a l w n (i - n) i (omega arith) (omega arith) (rw (← es) long) f l' x (take k (drop start l')) e row_here ex

-- the row that is finished gives its column
pub fronts_next : (a : ℕ → ℕ → Float) (l l' row : List Float) (w : List (List Float)) (x y : List Float) (n i start : ℕ) (p : Float) → i < length w → start ≡ packed_length i → start + i < length l'
    → l' ≡ below_diagonal packed a i i l → ((t : ℕ) → t < i → get_or row t nan ≡ get_or l' (packed i t) nan) → x ≡ tab (less_row a (λ t. get_or row t nan) w n i i) 8 → y ≡ tab (λ r. get_or x r nan /ᶠ p) 8
    → Fronts a l w n i → Fronts a (set l' (start + i) p) (set w i y) n (i + 1)
fronts_next a l l' row w x y n i start p room es h e er ex ey f =
    fronts_more a l'' w x y n i p room (rw (← es) (sym (get_or-set_same l' (start + i) p nan h)))
    (ex ∙ tab_cong (less_row a (λ t. get_or row t nan) w n i i) (front_rest a l'' w n i) 8
    (λ r b. rest_alike a w w n i (λ t. get_or row t nan) (row_at l'' (packed_length i)) i r (λ t q. other (packed_length i + t) (omega arith) ∙ sym (er t q)) (λ t q. refl))) ey
    (fronts_alike a w w n l l'' i (λ k t hk ht. let b : packed_length k + t < packed_length i = omega (arith, tri_row k i hk) in
    other (packed_length k + t) (omega arith) ∙ rw e (row_before a i i l (packed_length k + t) b)) (λ t r b. refl) f)
  where
    l'' : List Float
    l'' = set l' (start + i) p

    other : (q : ℕ) → q < start + i → get_or (set l' (start + i) p) q nan ≡ get_or l' q nan
    other q b = get_or-set_other l' (start + i) q p nan (λ r. omega arith)
