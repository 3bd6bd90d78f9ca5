-- The pairs (i, j), (j, i) lie apart, so that writing one leaves the others, and each is read before it is written.
use Prim.Native.Nat.{ℕ, ◌+◌, ◌-◌, ◌*◌, ◌<◌, ◌≤◌}
use mathlib.Core.Path.{◌≡◌, refl, ap, sym, ◌∙◌}
use mathlib.Core.List.{List, ◌++◌}
use mathlib.Core.Logic.{◌⊎◌, inl, inr, ⊎_elim}
use native.Mathlib.Omega.{arith}
use native.Mathlib.Decide.{ℕ_discrete, dec_lt}
use lib.ListN.{length, get_or, set, take, drop, replicate, length-set}
use lib.Seq.{get_or-set_same, get_or-set_other, get_or-take, length-take-le, take_at}
use lib.Ieee.{Float, nan}
use borrow.Author.Tests.{eq-eqb, ne_eqb, lt-ltb, le-ltb, le-leb, lt-leb}
use Rattle.definitions.specs.Lists.{square, padded}
use Rattle.definitions.specs.Numbers.{◌+ᶠ◌, ◌*ᶠ◌, half, zeroᶠ}
use Rattle.definitions.specs.Refusal.{refused, done, require, ◌>>=◌, result_left}
use Rattle.definitions.specs.Coarse.{averaged, averaged_square, entry_in}
use Rattle.laws.proofs.Lists.{length_square}
use Rattle.averaging.specs.Averaging.{pair_half, pair_averaged, Tile, Averages, average_call}
use Rattle.definitions.specs.Setup.{max_coarse}
use Rattle.definitions.specs.declared.Refusal.TheVariants.{CoarseTooLarge, CoarseListTooShort}
use Rattle.causes.proofs.Left.{left_done}
use Rattle.laws.proofs.Squares.{square_is, split_is, tail_zeros}
use Rattle.laws.proofs.Places.{same_row, same_col, place}

-- ---- parts of the pairs

-- the pair (i, j)
module _ (c i j : ℕ) (m : List Float) (h : j < i) (k : i < c) (big : c * c ≤ length m) where
  abbrev v : Float
  v = pair_half m (i * c + j) (j * c + i)

  here_low : get_or (pair_averaged m (i * c + j) (j * c + i)) (i * c + j) nan ≡ v
  here_low =
      get_or-set_other (set m (i * c + j) v) (j * c + i) (i * c + j) v nan (λ q. let s = same_row i j j i c (omega arith) k q in omega arith)
      ∙ get_or-set_same m (i * c + j) v nan (omega (arith, place i j c c k (omega arith)))

  here_up : get_or (pair_averaged m (i * c + j) (j * c + i)) (j * c + i) nan ≡ v
  here_up = get_or-set_same (set m (i * c + j) v) (j * c + i) v nan (simp length-set (omega (arith, place j i c c (omega arith) k)))

  pub averages_one : Averages c (Tile i (i + 1) j (j + 1)) m (pair_averaged m (i * c + j) (j * c + i))
  averages_one = record {
    long = simp length-set;
    low = λ x y a b t. let ex : x ≡ i = omega (arith, t) in let ey : y ≡ j = omega (arith, t) in rw (ex, ey) here_low;
    up = λ x y a b t. let ex : x ≡ i = omega (arith, t) in let ey : y ≡ j = omega (arith, t) in rw (ex, ey) here_up;
    other = λ p n. let a = n i j h k (omega arith, omega arith, omega arith, omega arith) in
        get_or-set_other (set m (i * c + j) v) (j * c + i) p v nan a.1 ∙ get_or-set_other m (i * c + j) p v nan a.0;
  }

-- two parts without a common pair, one after the other
module _ (c : ℕ) (P Q R : ℕ → ℕ → Type 0) (m n r : List Float) (a : Averages c P m n) (b : Averages c Q n r)
    (parts : (i j : ℕ) → j < i → R i j → P i j ⊎ Q i j) (first : (i j : ℕ) → j < i → P i j → R i j) (second : (i j : ℕ) → j < i → Q i j → R i j) (apart : (i j : ℕ) → P i j → Q i j → ⊥) where
  -- what the second part leaves of the first
  kept_low : (i j : ℕ) → j < i → i < c → P i j → get_or r (i * c + j) nan ≡ get_or n (i * c + j) nan
  kept_low i j h k p = b.other (i * c + j) (λ x y hx kx q. (
    (λ e. apart i j p (rw (same_row i x j y c (omega arith) (omega arith) e, same_col i x j y c (omega arith) (omega arith) e) q)),
    (λ e. let s = same_row i y j x c (omega arith) kx e in let t = same_col i y j x c (omega arith) kx e in omega arith),
  ))

  kept_up : (i j : ℕ) → j < i → i < c → P i j → get_or r (j * c + i) nan ≡ get_or n (j * c + i) nan
  kept_up i j h k p = b.other (j * c + i) (λ x y hx kx q. (
    (λ e. let s = same_row j x i y c k (omega arith) e in let t = same_col j x i y c k (omega arith) e in omega arith),
    (λ e. apart i j p (rw (same_col j y i x c k kx e, same_row j y i x c k kx e) q)),
  ))

  -- what the first leaves of the second
  fresh_low : (i j : ℕ) → j < i → i < c → Q i j → get_or n (i * c + j) nan ≡ get_or m (i * c + j) nan
  fresh_low i j h k q = a.other (i * c + j) (λ x y hx kx p. (
    (λ e. apart i j (rw (same_row i x j y c (omega arith) (omega arith) e, same_col i x j y c (omega arith) (omega arith) e) p) q),
    (λ e. let s = same_row i y j x c (omega arith) kx e in let t = same_col i y j x c (omega arith) kx e in omega arith),
  ))

  fresh_up : (i j : ℕ) → j < i → i < c → Q i j → get_or n (j * c + i) nan ≡ get_or m (j * c + i) nan
  fresh_up i j h k q = a.other (j * c + i) (λ x y hx kx p. (
    (λ e. let s = same_row j x i y c k (omega arith) e in let t = same_col j x i y c k (omega arith) e in omega arith),
    (λ e. apart i j (rw (same_col j y i x c k kx e, same_row j y i x c k kx e) p) q),
  ))

  pub averages_both : Averages c R m r
  averages_both = record {
    long = b.long ∙ a.long;
    low = λ i j h k t. ⊎_elim (λ p. kept_low i j h k p ∙ a.low i j h k p) (λ q. b.low i j h k q ∙ rw (fresh_low i j h k q, fresh_up i j h k q)) (parts i j h t);
    up = λ i j h k t. ⊎_elim (λ p. kept_up i j h k p ∙ a.up i j h k p) (λ q. b.up i j h k q ∙ rw (fresh_low i j h k q, fresh_up i j h k q)) (parts i j h t);
    other = λ p f. b.other p (λ x y h k q. f x y h k (second x y h q)) ∙ a.other p (λ x y h k q. f x y h k (first x y h q));
  }

-- ---- the steps of the loops

-- one row more of column j
pub column_more : (c j from i : ℕ) (m₀ m r : List Float) → j < i → from ≤ i → i < c → c * c ≤ length m₀ → Averages c (Tile from i j (j + 1)) m₀ m
    → r ≡ pair_averaged m (i * c + j) (j * c + i) → Averages c (Tile from (i + 1) j (j + 1)) m₀ r
column_more c j from i m₀ m r h f k big a e =
    rw e
    (averages_both c (Tile from i j (j + 1)) (Tile i (i + 1) j (j + 1)) (Tile from (i + 1) j (j + 1)) m₀ m (pair_averaged m (i * c + j) (j * c + i)) a
    (averages_one c i j m h k (rw a.long big)) (λ x y q t. parts x y t (dec_lt x i)) (λ x y q t. (t.0, omega (arith, t), t.2, t.3)) (λ x y q t. (omega (arith, t), t.1, t.2, t.3))
    (λ x y t u. omega (arith, t, u)))
  where
    parts : (x y : ℕ) → Tile from (i + 1) j (j + 1) x y → Dec (x < i) → Tile from i j (j + 1) x y ⊎ Tile i (i + 1) j (j + 1) x y
    parts x y t (yes l) = inl (t.0, l, t.2, t.3)
    parts x y t (no n) = inr (omega arith, t.1, t.2, t.3)

-- one column more of a strip: its pairs begin at row `from`
pub strip_more : (c first end j from : ℕ) (m₀ m r : List Float) → first ≤ from → ((x : ℕ) → first ≤ x → j < x → from ≤ x) → Averages c (Tile first end 0 j) m₀ m
    → Averages c (Tile from end j (j + 1)) m r → Averages c (Tile first end 0 (j + 1)) m₀ r
strip_more c first end j from m₀ m r f g a b =
    averages_both c (Tile first end 0 j) (Tile from end j (j + 1)) (Tile first end 0 (j + 1)) m₀ m r a b (λ x y q t. parts x y q t (dec_lt y j))
    (λ x y q t. (t.0, t.1, t.2, omega (arith, t))) (λ x y q t. (omega (arith, t), t.1, omega arith, t.3)) (λ x y t u. omega (arith, t, u))
  where
    parts : (x y : ℕ) → y < x → Tile first end 0 (j + 1) x y → Dec (y < j) → Tile first end 0 j x y ⊎ Tile from end j (j + 1) x y
    parts x y q t (yes l) = inl (t.0, t.1, t.2, l)
    parts x y q t (no n) = inr (g x t.0 (omega arith), t.1, omega arith, t.3)

-- one strip more
pub rows_more : (c first end : ℕ) (m₀ m r : List Float) → first ≤ end → end ≤ c → Averages c (Tile 0 first 0 c) m₀ m → Averages c (Tile first end 0 end) m r → Averages c (Tile 0 end 0 c) m₀ r
rows_more c first end m₀ m r h k a b =
    averages_both c (Tile 0 first 0 c) (Tile first end 0 end) (Tile 0 end 0 c) m₀ m r a b (λ x y q t. parts x y q t (dec_lt x first))
    (λ x y q t. (omega arith, omega (arith, t), omega arith, t.3)) (λ x y q t. (omega arith, t.1, omega arith, omega (arith, t))) (λ x y t u. omega (arith, t, u))
  where
    parts : (x y : ℕ) → y < x → Tile 0 end 0 c x y → Dec (x < first) → Tile 0 first 0 c x y ⊎ Tile first end 0 end x y
    parts x y q t (yes l) = inl (omega arith, l, omega arith, t.3)
    parts x y q t (no n) = inr (omega arith, t.1, omega arith, omega (arith, t))

-- the same pairs, named otherwise
averages_same : (c : ℕ) (P R : ℕ → ℕ → Type 0) (m r : List Float) → Averages c P m r → ((i j : ℕ) → j < i → i < c → R i j → P i j) → ((i j : ℕ) → j < i → i < c → P i j → R i j) → Averages c R m r
averages_same c P R m r a f g = record {
  long = a.long;
  low = λ i j h k t. a.low i j h k (f i j h k t);
  up = λ i j h k t. a.up i j h k (f i j h k t);
  other = λ p n. a.other p (λ i j h k t. n i j h k (g i j h k t));
}

-- one strip of eight rows more, or of those that are left
pub strips_more : (c k end : ℕ) (m₀ m r : List Float) → k * 8 < end → end ≤ c → end ≤ k * 8 + 8 → ((i : ℕ) → i < c → i < k * 8 + 8 → i < end) → Averages c (Tile 0 (k * 8) 0 c) m₀ m
    → Averages c (Tile (k * 8) end 0 end) m r → Averages c (Tile 0 ((k + 1) * 8) 0 c) m₀ r
strips_more c k end m₀ m r h q n s a b =
    averages_same c (Tile 0 end 0 c) (Tile 0 ((k + 1) * 8) 0 c) m₀ r (rows_more c (k * 8) end m₀ m r (omega arith) q a b)
    (λ i j g l t. (omega arith, s i l (omega (arith, t)), omega arith, t.3)) (λ i j g l t. (omega arith, omega (arith, t), omega arith, t.3))

-- ---- the definition's three cases

pub averaged_diagonal : (a : ℕ → ℕ → Float) (i : ℕ) → averaged a i i ≡ a i i
unfolding averaged
averaged_diagonal a i = rw (eq-eqb i i refl, averaged)

pub averaged_low : (a : ℕ → ℕ → Float) (i j : ℕ) → j < i → averaged a i j ≡ half *ᶠ (a i j +ᶠ a j i)
unfolding averaged
averaged_low a i j h = rw (ne_eqb i j (λ e. omega arith), lt-ltb j i h, averaged)

pub averaged_up : (a : ℕ → ℕ → Float) (i j : ℕ) → i < j → averaged a i j ≡ half *ᶠ (a j i +ᶠ a i j)
unfolding averaged
averaged_up a i j h = rw (ne_eqb i j (λ e. omega arith), le-ltb j i (omega arith), averaged)

pub averaged_ext : (a b : ℕ → ℕ → Float) (i j : ℕ) → a i j ≡ b i j → a j i ≡ b j i → a i i ≡ b i i → averaged a i j ≡ averaged b i j
averaged_ext a b i j p q r = step (ℕ_discrete i j) (dec_lt j i)
  where
    step : Dec (i ≡ j) → Dec (j < i) → averaged a i j ≡ averaged b i j
    step (yes e) d = rw (← e) (averaged_diagonal a i ∙ r ∙ sym (averaged_diagonal b i))
    step (no n) (yes h) = averaged_low a i j h ∙ rw (p, q) (sym (averaged_low b i j h))
    step (no n) (no h) = averaged_up a i j (omega arith) ∙ rw (p, q) (sym (averaged_up b i j (omega arith)))

-- ---- all pairs

module _ (c : ℕ) (m r : List Float) (big : c * c ≤ length m) (a : Averages c (Tile 0 c 0 c) m r) where
  every : (i j : ℕ) → i < c → j < c → get_or r (i * c + j) nan ≡ averaged (entry_in m c) i j
  every i j p q = step (ℕ_discrete i j) (dec_lt j i)
    where
      step : Dec (i ≡ j) → Dec (j < i) → get_or r (i * c + j) nan ≡ averaged (entry_in m c) i j
      step (yes e) d = rw (← e)
          (a.other (i * c + i) (λ x y h k t. (
            (λ f. let s = same_row i x i y c p (omega arith) f in let u = same_col i x i y c p (omega arith) f in omega arith),
            (λ f. let s = same_row i y i x c p k f in let u = same_col i y i x c p k f in omega arith),
          ))
          ∙ sym (averaged_diagonal (entry_in m c) i))
      step (no n) (yes h) = a.low i j h p (omega arith, p, omega arith, q) ∙ sym (averaged_low (entry_in m c) i j h)
      step (no n) (no h) = a.up j i (omega arith) q (omega arith, q, omega arith, p) ∙ sym (averaged_up (entry_in m c) i j (omega arith))

  past : (p : ℕ) → c * c ≤ p → get_or r p nan ≡ get_or m p nan
  past p h = a.other p (λ x y hx kx t. ((λ e. omega (arith, place x y c c kx (omega arith))), (λ e. omega (arith, place y x c c (omega arith) kx))))

  cut : (i j : ℕ) → i < c → j < c → averaged (entry_in (take (c * c) m) c) i j ≡ averaged (entry_in m c) i j
  cut i j p q = averaged_ext (entry_in (take (c * c) m) c) (entry_in m c) i j
      (get_or-take (c * c) m (i * c + j) nan (place i j c c p q)) (get_or-take (c * c) m (j * c + i) nan (place j i c c q p)) (get_or-take (c * c) m (i * c + i) nan (place i i c c p p))

  pub averages_all : r ≡ averaged_square c (take (c * c) m) ++ drop (c * c) m
  unfolding averaged_square
  averages_all =
      split_is nan (c * c) r (square c (averaged (entry_in (take (c * c) m) c))) m a.long big
      (square_is nan c (averaged (entry_in (take (c * c) m) c)) (take (c * c) r) (length-take-le (c * c) r (rw a.long big))
      (λ i j p q. get_or-take (c * c) r (i * c + j) nan (place i j c c p q) ∙ every i j p q ∙ sym (cut i j p q)))
      past

pub length_averaged : (c : ℕ) (m : List Float) → length (averaged_square c m) ≡ c * c
unfolding averaged_square
length_averaged c m = length_square c (averaged (entry_in m c))

-- ---- the call

pub call_large : (c : ℕ) (m : List Float) → max_coarse < c → average_call c m ≡ refused (CoarseTooLarge c)
unfolding average_call require ◌>>=◌
call_large c m h = rw (lt-leb c max_coarse h)

pub call_short : (c : ℕ) (m : List Float) → c ≤ max_coarse → length m < c * c → average_call c m ≡ refused (CoarseListTooShort c)
unfolding average_call require ◌>>=◌
call_short c m h k = rw (le-leb c max_coarse h, lt-leb (c * c) (length m) k)

pub call_done : (c : ℕ) (m : List Float) → c ≤ max_coarse → c * c ≤ length m → average_call c m ≡ done (averaged_square c (take (c * c) m))
unfolding average_call require ◌>>=◌
call_done c m h k = rw (le-leb c max_coarse h, le-leb (c * c) (length m) k)

-- all pairs averaged, and the rest cleared
pub average_on : (c : ℕ) (m r z : List Float) → c * c ≤ length m → Averages c (Tile 0 c 0 c) m r → z ≡ replicate (length (take (length r - c * c) (drop (c * c) r))) zeroᶠ
    → take (c * c) r ++ (z ++ drop (length r - c * c) (drop (c * c) r)) ≡ padded zeroᶠ (length m) (averaged_square c (take (c * c) m))
unfolding padded
average_on c m r z k a ez =
    let s = averaged_square c (take (c * c) m) in
    let n : length s ≡ c * c = length_averaged c (take (c * c) m) in
    let t : take (c * c) r ≡ s = ap (λ l. take (c * c) l) (averages_all c m r k a) ∙ take_at s (drop (c * c) m) (c * c) n in
    tail_zeros (c * c) r z zeroᶠ (rw a.long k) ez ∙ rw (t, a.long, n)

pub average_fits : (c : ℕ) (m : List Float) → c ≤ max_coarse → c * c ≤ length m → result_left zeroᶠ (average_call c m) m ≡ padded zeroᶠ (length m) (averaged_square c (take (c * c) m))
average_fits c m h k = left_done zeroᶠ (average_call c m) m (averaged_square c (take (c * c) m)) (call_done c m h k)
