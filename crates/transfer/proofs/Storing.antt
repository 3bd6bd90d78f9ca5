-- The rows one behind the other.
use Prim.Native.Nat.{ℕ, zero, suc, ◌+◌, ◌<◌, ◌≤◌}
use mathlib.Core.Path.{◌≡◌, refl, ap, sym, ◌∙◌}
use mathlib.Core.List.{List, [], ◌∷◌, ◌++◌, map, flat_map, map-append, append_assoc, append-nil}
use native.Mathlib.Omega.{arith}
use native.Mathlib.Numerals.{add-one}
use lib.ListN.{length, get_or, set, take, drop, length-append, length-map, take-append-drop}
use lib.Seq.{take-suc, take-length, take-suc-set}
use lib.Ieee.{Float, nan}
use Rattle.definitions.specs.Lists.{tab, keep, pointers_from, joined_lists}
use Rattle.laws.proofs.Kept.{keep_append, keep_yes, keep_no, keep_nil}
use mathlib.Core.Bool.{Bool, true, false}
use Rattle.definitions.specs.Matrix.{Entry}
use Rattle.laws.proofs.Lists.{tab_cong}
use Rattle.laws.proofs.Growing.{tab_snoc, flat_map_snoc}
use Rattle.transfer.specs.Weights.{counts, Stored, Built}

-- ---- a row, column by column

module _ (f : ℕ → Bool) (t : List ℕ) (k : ℕ) (l : k < length t) where
  kept_hit : f (get_or t k 0) ≡ true → keep f (take (k + 1) t) ≡ keep f (take k t) ++ (get_or t k 0 ∷ [])
  kept_hit h = rw (add-one k, take-suc t k 0 l, keep_append f (take k t) (get_or t k 0 ∷ []), keep_yes f (get_or t k 0) [] h, keep_nil f)

  kept_miss : f (get_or t k 0) ≡ false → keep f (take (k + 1) t) ≡ keep f (take k t)
  kept_miss h = rw (add-one k, take-suc t k 0 l, keep_append f (take k t) (get_or t k 0 ∷ []), keep_no f (get_or t k 0) [] h, keep_nil f, append-nil)

  pub kept_room : f (get_or t k 0) ≡ true → length (keep f (take k t)) < length (keep f t)
  kept_room h =
      let whole : keep f t ≡ keep f (take (k + 1) t) ++ keep f (drop (k + 1) t) = ap (keep f) (sym (take-append-drop (k + 1) t)) ∙ keep_append f (take (k + 1) t) (drop (k + 1) t) in
      rw (whole, kept_hit h) (omega (arith, length-append (keep f (take k t) ++ (get_or t k 0 ∷ [])) (keep f (drop (k + 1) t)), length-append (keep f (take k t)) (get_or t k 0 ∷ [])))

module _ (w : List Float) (at : ℕ) (columns₀ : List ℕ) (weights₀ : List Float) where
  pub stored_none : (t : List ℕ) → Stored (take 0 t) w at columns₀ columns₀ weights₀ weights₀ at
  stored_none t = record {
    columns_after = rw (keep_nil (counts w), append-nil);
    weights_after = rw (keep_nil (counts w), append-nil);
    many = rw (keep_nil (counts w)) (omega arith);
  }

  module _ (t : List ℕ) (k : ℕ) (l : k < length t) (columns : List ℕ) (weights : List Float) (r : ℕ) (s : Stored (take k t) w at columns₀ columns weights₀ weights r) where
    pub stored_hit : counts w (get_or t k 0) ≡ true → r < length columns → r < length weights
        → Stored (take (k + 1) t) w at columns₀ (set columns r (get_or t k 0)) weights₀ (set weights r (get_or w (get_or t k 0) nan)) (r + 1)
    stored_hit h hc hw = record {
      columns_after = rw (kept_hit (counts w) t k l h, add-one r, take-suc-set columns r (get_or t k 0) hc, s.columns_after, append_assoc (take at columns₀) (keep (counts w) (take k t)) (get_or t k 0 ∷ []));
      weights_after = rw (kept_hit (counts w) t k l h, add-one r, take-suc-set weights r (get_or w (get_or t k 0) nan) hw, s.weights_after, map-append (λ j. get_or w j nan) (keep (counts w) (take k t)) (get_or t k 0 ∷ []), append_assoc (take at weights₀) (map (λ j. get_or w j nan) (keep (counts w) (take k t))) (get_or w (get_or t k 0) nan ∷ []));
      many = rw (kept_hit (counts w) t k l h) (omega (arith, s.many, length-append (keep (counts w) (take k t)) (get_or t k 0 ∷ [])));
    }

    pub stored_miss : counts w (get_or t k 0) ≡ false → Stored (take (k + 1) t) w at columns₀ columns weights₀ weights r
    stored_miss h = let e = kept_miss (counts w) t k l h in record { columns_after = rw e s.columns_after; weights_after = rw e s.weights_after; many = rw e s.many }

    pub stored_room : counts w (get_or t k 0) ≡ true → r < at + length (keep (counts w) t)
    stored_room h = omega (arith, s.many, kept_room (counts w) t k l h)

-- ---- all rows

module _ (f : ℕ → List Entry) where
  -- the rows before i, end to end
  abbrev pub before : ℕ → List Entry
  before i = joined_lists (tab f i)

  pub before_none : before 0 ≡ []
  unfolding tab flat_map
  before_none = refl

  pub before_more : (i : ℕ) → before (i + 1) ≡ before i ++ f i
  before_more i = rw (add-one i, tab_snoc f i) (flat_map_snoc (λ (row : List Entry). row) (tab f i) (f i))

  pub before_first : (n : ℕ) → before (suc n) ≡ f zero ++ joined_lists (tab (λ i. f (suc i)) n)
  unfolding tab flat_map
  before_first n = refl

tab_first : {A : Type 0} (f : ℕ → A) (n : ℕ) → tab f (suc n) ≡ f zero ∷ tab (λ i. f (suc i)) n
unfolding tab
tab_first f n = refl

pointers_last : (f : ℕ → List Entry) (b : ℕ) → tab (λ k. b + length (before f k)) 1 ≡ pointers_from b (tab f 0)
unfolding tab pointers_from flat_map
pointers_last f b = let z : b + 0 ≡ b = omega arith in rw z

pointers_tab : (f : ℕ → List Entry) (n b : ℕ) → tab (λ k. b + length (before f k)) (suc n) ≡ pointers_from b (tab f n)
unfolding pointers_from
pointers_tab f zero b = pointers_last f b
pointers_tab f (suc n) b =
    tab_first (λ k. b + length (before f k)) (suc n)
    ∙ (let z : b + length (before f 0) ≡ b = ap (λ l. b + length l) (before_none f) ∙ omega arith in
    rw (z, tab_first f n) (ap (λ l. b ∷ l) (tab_cong (λ k. b + length (before f (suc k))) (λ k. b + length (f zero) + length (before (λ i. f (suc i)) k)) (suc n) (λ k _. shift k) ∙ pointers_tab (λ i. f (suc i)) n (b + length (f zero)))))
  where
    shift : (k : ℕ) → b + length (before f (suc k)) ≡ b + length (f zero) + length (before (λ i. f (suc i)) k)
    shift k = ap (λ l. b + length l) (before_first f k) ∙ ap (λ m. b + m) (length-append (f zero) (before (λ i. f (suc i)) k)) ∙ omega arith

pub pointers_law : (f : ℕ → List Entry) (n : ℕ) → tab (λ k. length (before f k)) (n + 1) ≡ pointers_from 0 (tab f n)
pointers_law f n = rw (add-one n) (tab_cong (λ k. length (before f k)) (λ k. 0 + length (before f k)) (suc n) (λ k _. omega arith) ∙ pointers_tab f n 0)

-- what stands in the lists when i rows are put
pub record Rowed (f : ℕ → List Entry) (i at : ℕ) (pointers columns : List ℕ) (weights : List Float) : Type 0 where
  pub many : at ≡ length (before f i)
  pub starts : take (i + 1) pointers ≡ tab (λ k. length (before f k)) (i + 1)
  pub names : take at columns ≡ map (λ (e : Entry). e.col) (before f i)
  pub numbers : take at weights ≡ map (λ (e : Entry). e.value) (before f i)

pub rowed_none : (f : ℕ → List Entry) (pointers columns : List ℕ) (weights : List Float) → 0 < length pointers → Rowed f 0 0 (set pointers 0 0) columns weights
unfolding tab flat_map
rowed_none f [] columns weights h = absurd (omega arith)
rowed_none f (x ∷ pointers) columns weights h = record { many = refl; starts = refl; names = refl; numbers = refl }

module _ (f : ℕ → List Entry) (i at r : ℕ) (pointers columns₀ columns : List ℕ) (weights₀ weights : List Float) (q : Rowed f i at pointers columns₀ weights₀)
    (t : List ℕ) (w : List Float) (s : Stored t w at columns₀ columns weights₀ weights r) (ec : keep (counts w) t ≡ map (λ (e : Entry). e.col) (f i)) (ew : map (λ j. get_or w j nan) (keep (counts w) t) ≡ map (λ (e : Entry). e.value) (f i)) (h : i + 1 < length pointers) where
  ends : r ≡ length (before f (i + 1))
  ends = s.many ∙ ap (λ l. at + length l) ec ∙ ap (λ k. at + k) (length-map (f i) (λ (e : Entry). e.col)) ∙ sym (ap length (before_more f i) ∙ length-append (before f i) (f i) ∙ ap (λ k. k + length (f i)) (sym q.many))

  pub rowed_more : Rowed f (i + 1) r (set pointers (i + 1) r) columns weights
  rowed_more = record {
    many = ends;
    starts = rw (add-one (i + 1)) (take-suc-set pointers (i + 1) r h ∙ rw (tab_snoc (λ k. length (before f k)) (i + 1), q.starts, ends));
    names = s.columns_after ∙ rw (ec, q.names, before_more f i, map-append (λ (e : Entry). e.col) (before f i) (f i));
    numbers = s.weights_after ∙ rw (ew, q.numbers, before_more f i, map-append (λ (e : Entry). e.value) (before f i) (f i));
  }

pub rowed_all : (f : ℕ → List Entry) (n at : ℕ) (pointers columns : List ℕ) (weights : List Float) → Rowed f n at pointers columns weights → length pointers ≡ n + 1 → at ≤ length columns → at ≤ length weights → Built (tab f n) pointers columns weights at
rowed_all f n at pointers columns weights q l hc hw = record {
  starts = sym (rw (← l) (take-length pointers)) ∙ q.starts ∙ pointers_law f n;
  names = q.names;
  numbers = q.numbers;
  many = q.many;
  room = (hc, hw);
}
