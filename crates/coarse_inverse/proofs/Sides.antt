-- Right-hand sides side by side, number k of each lane in row k: a row that is replaced is a number replaced in each lane's own list,
-- so that each goes its own way through the solve.
use Prim.Native.Nat.{ℕ, zero, suc, ◌+◌, ◌-◌, ◌<◌, ◌≤◌}
use mathlib.Core.Path.{◌≡◌, refl, ap, sym, ◌∙◌}
use mathlib.Core.List.{List, [], ◌∷◌, ◌++◌, map, map-append, append_assoc}
use native.Mathlib.Omega.{arith}
use native.Mathlib.Decide.{ℕ_discrete}
use native.Mathlib.Numerals.{add-one}
use lib.ListN.{length, get_or, set, take, drop, replicate, length-set, length-map, length-replicate, get_or-replicate}
use lib.Seq.{drop-cons, set_at, take-suc, length-take-le, map-set_same, get_or-set_same, get_or-set_other, get_or-take, get_or-drop}
use lib.Ieee.{Float, nan}
use Rattle.std.proofs.lemmas.List.{map-set, get_or-map, drop-map, take-map}
use Rattle.definitions.specs.Lists.{tab}
use Rattle.definitions.specs.Numbers.{◌+ᶠ◌, ◌-ᶠ◌, ◌*ᶠ◌, ◌/ᶠ◌, minus_zero, summed, zeroᶠ, oneᶠ}
use Rattle.definitions.specs.Coarse.{packed_entry, packed_forward, packed_backward, packed_solve, unit}
use Rattle.laws.proofs.Lists.{tab_cong, tab_same, get_d_tab}
use Rattle.laws.proofs.Growing.{summed_none, summed_more, upto}
use Rattle.laws.specs.Packed.{Column, ahead}
use Rattle.laws.proofs.Packed.{forward_step, backward_none, backward_step}
use Rattle.coarse_inverse.specs.Lanes.{lane, EachLane, LanesStart, lane_sums, lanes_less, Units, Solved}
use Rattle.coarse_inverse.proofs.Rows.{unit_of}

-- ---- lanes

abbrev at_lane : ℕ → List Float → Float
at_lane r row = get_or row r nan

module _ (w : List (List Float)) (r : ℕ) where
  pub length_lane : length (lane w r) ≡ length w
  length_lane = length-map w (at_lane r)

  pub lane_at : (k : ℕ) → k < length w → get_or (lane w r) k nan ≡ get_or (get_or w k []) r nan
  lane_at k h = get_or-map (at_lane r) w k [] nan h

  pub lane_set : (i : ℕ) (row : List Float) → lane (set w i row) r ≡ set (lane w r) i (get_or row r nan)
  lane_set i row = map-set (at_lane r) w i row

  lane_part : (p a k : ℕ) → k < p → get_or (lane (take p (drop a w)) r) k nan ≡ get_or (lane w r) (a + k) nan
  lane_part p a k h = rw (← take-map, ← drop-map) (get_or-take p (drop a (lane w r)) k nan h ∙ get_or-drop a (lane w r) k nan)

-- ---- the sums that run

module _ (m : ℕ) (x : ℕ → Float) (first : ℕ) (w : List (List Float)) where
  abbrev pub lane_term : ℕ → ℕ → Float
  lane_term r k = x k *ᶠ get_or (lane w r) (first + k) nan

  pub sums_none : (n : ℕ) → n ≡ 0 → replicate m minus_zero ≡ lane_sums m x first w n
  sums_none n e = sym (tab_same (λ r. summed (tab (lane_term r) n)) minus_zero m (λ r. rw e (sym (summed_none (lane_term r)))))

  pub sums_more : (k n j : ℕ) (s s' : List Float) (y : Float) → j ≡ first + k → n ≡ k + 1 → j < length w → s ≡ lane_sums m x first w k → y ≡ x k
      → s' ≡ tab (λ r. get_or s r nan +ᶠ y *ᶠ get_or (get_or w j []) r nan) m → s' ≡ lane_sums m x first w n
  sums_more k n j s s' y ej en h e ey es =
      es ∙ rw en (tab_cong (λ r. get_or s r nan +ᶠ y *ᶠ get_or (get_or w j []) r nan) (λ r. summed (tab (lane_term r) (k + 1))) m
      (λ r q. summed_more (lane_term r) k (get_or s r nan) _ (y *ᶠ get_or (get_or w j []) r nan) (rw e (get_d_tab (λ r. summed (tab (lane_term r) k)) m r nan q)) (rw (← lane_at w r j h, ey, ej)) refl))

  -- over a part of the rows, by a part of a list
  pub sums_part : (row s : List Float) (p q n u : ℕ) → u ≡ n → p ≡ n → q ≡ n → ((k : ℕ) → k < n → get_or row (first + k) nan ≡ x k)
      → s ≡ lane_sums m (λ k. get_or (take p (drop first row)) k nan) 0 (take q (drop first w)) u → s ≡ lane_sums m x first w n
  sums_part row s p q n u eu ep eq h e =
      e ∙ rw eu (tab_cong _ (λ r. summed (tab (lane_term r) n)) m (λ r _. ap summed (tab_cong (λ k. get_or (take p (drop first row)) k nan *ᶠ get_or (lane (take q (drop first w)) r) (0 + k) nan) (lane_term r) n
      (λ k b.
      let z : 0 + k ≡ k = omega arith in
      let hp : k < p = omega arith in
      rw (z, get_or-take p (drop first row) k nan hp, get_or-drop first row k nan, h k b, lane_part w r q first k (omega arith))))))

-- by a column that is kept
pub kept_sums : (m : ℕ) (l kept : List Float) (w : List (List Float)) (i c p q u : ℕ) (s : List Float) → Column l i c kept → p ≡ c - (i + 1) → q ≡ c - (i + 1) → u ≡ c - (i + 1)
    → s ≡ lane_sums m (λ k. get_or (take p (drop (i + 1) kept)) k nan) 0 (take q (drop (i + 1) w)) u → s ≡ lane_sums m (λ k. packed_entry l (suc i + k) i) (suc i) w (c - suc i)
kept_sums m l kept w i c p q u s k ep eq eu e =
    sums_part m (λ k. packed_entry l (suc i + k) i) (suc i) w kept s p q (c - suc i) u (eu ∙ rw (add-one i)) (ep ∙ rw (add-one i)) (eq ∙ rw (add-one i)) (λ j h. k (suc i + j) (omega arith) (omega arith)) (rw (add-one i) at e)

-- number i of lane r
pub lane_put : (m : ℕ) (w : List (List Float)) (i r : ℕ) (row sums : List Float) (p : Float) → i < length w → r < m → row ≡ lanes_less m (get_or w i []) sums p
    → get_or row r nan ≡ (get_or (lane w r) i nan -ᶠ get_or sums r nan) /ᶠ p
lane_put m w i r row sums p h q e =
    ap (λ t. get_or t r nan) e ∙ get_d_tab (λ r. (get_or (get_or w i []) r nan -ᶠ get_or sums r nan) /ᶠ p) m r nan q ∙ ap (λ t. (t -ᶠ get_or sums r nan) /ᶠ p) (sym (lane_at w r i h))

-- ---- forward

module _ (m : ℕ) (l : List Float) (c first : ℕ) (w₀ : List (List Float)) (n₀ : length w₀ ≡ c) (begins : LanesStart m c l first w₀) where
  pub ahead_none : EachLane m (λ b. ahead l b first) w₀ w₀
  ahead_none r q = (begins r q).front

  pub ahead_more : (w : List (List Float)) (i : ℕ) (row sums : List Float) (p : Float) → first ≤ i → i < c → length w ≡ c → EachLane m (λ b. ahead l b i) w₀ w
      → sums ≡ lane_sums m (λ k. packed_entry l i (first + k)) first w (i - first) → p ≡ packed_entry l i i → row ≡ lanes_less m (get_or w i []) sums p
      → EachLane m (λ b. ahead l b (i + 1)) w₀ (set w i row)
  ahead_more w i row sums p from h n f e ep er r q =
      lane_set w r i row
      ∙ forward_step l b y i (rw (length_lane w₀ r, n₀) h) (f r q) (summed (tab (λ k. packed_entry l i k *ᶠ get_or y k nan) i)) (get_or row r nan) refl
      (lane_put m w i r row sums p (rw n h) q er ∙ rw ep (ap (λ t. t /ᶠ packed_entry l i i) less))
    where
      b : List Float
      b = lane w₀ r

      y : List Float
      y = lane w r

      sum : get_or sums r nan ≡ summed (tab (λ k. packed_entry l i (first + k) *ᶠ get_or y (first + k) nan) (i - first))
      sum = rw e (get_d_tab (λ r. summed (tab (λ k. packed_entry l i (first + k) *ᶠ get_or (lane w r) (first + k) nan) (i - first))) m r nan q)

      less : get_or y i nan -ᶠ get_or sums r nan ≡ get_or y i nan -ᶠ summed (tab (λ k. packed_entry l i k *ᶠ get_or y k nan) i)
      less = rw sum (rw (f r q) ((begins r q).less i from h))

-- ---- backward

-- the last k numbers of each lane are solved
abbrev pub Back : ℕ → List Float → ℕ → ℕ → List (List Float) → List (List Float) → Type 0
Back m l c k w₀ w = EachLane m (λ b. take (c - k) b ++ packed_backward l c b k) w₀ w

module _ (m : ℕ) (l : List Float) (c : ℕ) (w₀ : List (List Float)) (n₀ : length w₀ ≡ c) where
  pub back_none : (k : ℕ) → k ≡ 0 → Back m l c k w₀ w₀
  back_none k e r q = rw e (backward_none l (lane w₀ r) c ∙ rw (length_lane w₀ r, n₀))

  pub back_more : (w : List (List Float)) (k i : ℕ) (row sums : List Float) (p : Float) → k < c → i ≡ c - suc k → length w ≡ c → Back m l c k w₀ w
      → sums ≡ lane_sums m (λ k. packed_entry l (suc i + k) i) (suc i) w (c - suc i) → p ≡ packed_entry l i i → row ≡ lanes_less m (get_or w i []) sums p
      → Back m l c (k + 1) w₀ (set w i row)
  back_more w k i row sums p h ei n f e ep er r q =
      let a : length (lane w₀ r) ≡ c = length_lane w₀ r ∙ n₀ in
      let o : length (lane w r) ≡ c = length_lane w r ∙ n in
      lane_set w r i row
      ∙ backward_step l (lane w₀ r) (lane w r) k i (rw a h) (rw a ei) (f r q ∙ rw a) (get_or sums r nan) (get_or row r nan) (o ∙ sym a)
      (rw (e, o) (get_d_tab (λ r. summed (tab (λ k. packed_entry l (suc i + k) i *ᶠ get_or (lane w r) (suc i + k) nan) (c - suc i))) m r nan q))
      (lane_put m w i r row sums p (omega arith) q er ∙ rw ep)
      ∙ rw a

  pub back_all : (w : List (List Float)) (k : ℕ) → k ≡ c → Back m l c k w₀ w → EachLane m (λ b. packed_backward l c b c) w₀ w
  back_all w k e f r q = let z : c - c ≡ 0 = omega arith in f r q ∙ rw (e, z)

-- ---- the unit vectors

map_replicate : {A B : Type 0} (f : A → B) (c : ℕ) (x : A) → map f (replicate c x) ≡ replicate c (f x)
map_replicate f zero x = refl
map_replicate f (suc c) x = ap (λ t. f x ∷ t) (map_replicate f c x)

module _ (m c i : ℕ) where
  pub units_none : (z : List (List Float)) → z ≡ replicate c (replicate m zeroᶠ) → Units m c i 0 z
  units_none z e =
      record {
        long = rw e (length-replicate c (replicate m zeroᶠ));
        wide = λ k h. rw (e, get_or-replicate c k (replicate m zeroᶠ) [] h) (length-replicate m zeroᶠ);
        made = λ r q. absurd (omega arith);
        rest = λ r _ q. ap (λ t. lane t r) e ∙ map_replicate (at_lane r) c (replicate m zeroᶠ) ∙ ap (replicate c) (get_or-replicate m r zeroᶠ nan q);
      }

  pub units_more : (w : List (List Float)) (n : ℕ) → n < m → i + n < c → Units m c i n w → Units m c i (n + 1) (set w (i + n) (set (get_or w (i + n) []) n oneᶠ))
  units_more w n h b u =
      record {
        long = length-set w (i + n) row ∙ u.long;
        wide = λ k q. wide k q (ℕ_discrete k (i + n));
        made = upto (λ r. lane (set w (i + n) row) r ≡ unit c (i + r)) n
            (λ r q. other r (omega arith) ∙ u.made r q)
            (lane_set w n (i + n) row ∙ rw (get_or-set_same (get_or w (i + n) []) n oneᶠ nan (rw (u.wide (i + n) b) h), u.rest n (omega arith) h) (unit_of c (i + n) b));
        rest = λ r p q. other r (omega arith) ∙ u.rest r (omega arith) q;
      }
    where
      row : List Float
      row = set (get_or w (i + n) []) n oneᶠ

      wide : (k : ℕ) → k < c → Dec (k ≡ i + n) → length (get_or (set w (i + n) row) k []) ≡ m
      wide k q (yes e) = rw (e, get_or-set_same w (i + n) row [] (rw u.long b)) (length-set (get_or w (i + n) []) n oneᶠ ∙ u.wide (i + n) b)
      wide k q (no d) = rw (get_or-set_other w (i + n) k row [] d) (u.wide k q)

      other : (r : ℕ) → (r ≡ n → ⊥) → lane (set w (i + n) row) r ≡ lane w r
      other r d = map-set_same (at_lane r) w (i + n) row [] (get_or-set_other (get_or w (i + n) []) n r oneᶠ nan d)

-- ---- all the way

pub units_solved : (m c : ℕ) (l : List Float) (i n : ℕ) (w v u : List (List Float)) → n ≤ m → Units m c i n w → EachLane m (λ b. packed_forward l b c) w v → EachLane m (λ b. packed_backward l c b c) v u
    → Solved m c l i n u
unfolding packed_solve
units_solved m c l i n w v u h e f b r q = b r (omega arith) ∙ rw (f r (omega arith), e.made r q)

-- ---- a lane copied

pub copied_more : (w : List (List Float)) (r k : ℕ) (row row₀ : List Float) → k < length w → k < length row₀ → row ≡ lane (take k w) r ++ drop k row₀
    → set row k (get_or (get_or w k []) r nan) ≡ lane (take (k + 1) w) r ++ drop (k + 1) row₀
copied_more w r k row row₀ h b e =
    let n : length (take k w) ≡ k = length-take-le k w (omega arith) in
    rw (e, drop-cons row₀ k nan b, set_at (lane (take k w) r) (get_or row₀ k nan) (drop (suc k) row₀) (get_or (get_or w k []) r nan) k (length_lane (take k w) r ∙ n), add-one k, take-suc w k [] h, map-append)
    (sym (append_assoc (lane (take k w) r) (get_or (get_or w k []) r nan ∷ []) (drop (suc k) row₀)))
