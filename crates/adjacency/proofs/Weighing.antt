-- The loops over sums of squares, step by step.
use mathlib.Core.Path.{◌≡◌, refl, ap, sym, ◌∙◌}
use mathlib.Core.Bool.{true, false}
use mathlib.Core.List.{List, [], ◌∷◌, foldl, zip_with}
use Prim.Native.Nat.{ℕ, ◌+◌, ◌≤◌, ◌<◌, ◌/◌}
use native.Mathlib.Numerals.{add-one}
use borrow.Author.Tests.{eq-eqb, ne_eqb}
use lib.Dec.{eqb}
use lib.ListN.{length, get_or, set, drop, drop_of_length-le}
use lib.Seq.{slice-cons, drop-cons}
use lib.Ieee.{Float, nan}
use Rattle.definitions.specs.Lists.{keep}
use Rattle.definitions.specs.Numbers.{◌+ᶠ◌, squared, total, zeroᶠ}
use Rattle.definitions.specs.Matrix.{Entry, values_where, stored}
use Rattle.laws.proofs.Kept.{keep_yes, keep_no}
use Rattle.adjacency.specs.Collect.{paired}
use Rattle.adjacency.specs.Strengths.{cleared, weighed, squares_in}
use Rattle.adjacency.proofs.Steps.{slice_none, get_d_any}

-- ---- clearing

pub clear_more : (list : List ℕ) (l₀ l : List Float) (k : ℕ) → cleared (drop k list) l ≡ cleared list l₀ → k < length list → cleared (drop (k + 1) list) (set l (get_or list k 0) zeroᶠ) ≡ cleared list l₀
unfolding cleared
clear_more list l₀ l k e h = rw (add-one k) (ap (λ t. cleared t l) (sym (drop-cons list k 0 h)) ∙ e)

pub clear_done : (list : List ℕ) (l₀ l : List Float) (k : ℕ) → cleared (drop k list) l ≡ cleared list l₀ → length list ≤ k → l ≡ cleared list l₀
unfolding cleared
clear_done list l₀ l k e h = rw (drop_of_length-le list h) at e

-- ---- the entries stored from k on

pub stored_cons : (cols : List ℕ) (vals : List Float) (k to : ℕ) → k < to → to ≤ length cols → to ≤ length vals
    → stored cols vals k to ≡ record { col = get_or cols k 0; value = get_or vals k nan } ∷ stored cols vals (k + 1) to
unfolding zip_with
stored_cons cols vals k to h a b = rw (add-one k, slice-cons k to cols 0 h a, slice-cons k to vals nan h b)

pub stored_none : (cols : List ℕ) (vals : List Float) (k to : ℕ) → to ≤ k → stored cols vals k to ≡ []
unfolding zip_with
stored_none cols vals k to h = rw (slice_none k to cols h)

-- ---- the entries from k on

pub paired_cons : (cols : List ℕ) (vals : List Float) (k : ℕ) → k < length cols → k < length vals
    → paired (drop k cols) (drop k vals) ≡ record { col = get_or cols k 0; value = get_or vals k nan } ∷ paired (drop (k + 1) cols) (drop (k + 1) vals)
unfolding zip_with
paired_cons cols vals k h i = rw (add-one k, drop-cons cols k 0 h, drop-cons vals k nan i)

pub paired_none : (cols : List ℕ) (vals : List Float) (k : ℕ) → length cols ≤ k → paired (drop k cols) (drop k vals) ≡ []
unfolding zip_with
paired_none cols vals k h = rw (drop_of_length-le cols h)

-- ---- weighing

weighed_on : (size : ℕ) (e : Entry) (es : List Entry) (l : List Float) → weighed size (e ∷ es) l ≡ weighed size es (set l (e.col / size) (get_or l (e.col / size) nan +ᶠ squared e.value))
unfolding weighed
weighed_on size e es l = refl

module _ (cols : List ℕ) (vals : List Float) (size : ℕ) where
  abbrev pub Weighed : List Float → List Float → ℕ → Type 0
  Weighed l₀ l k = weighed size (paired (drop k cols) (drop k vals)) l ≡ weighed size (paired cols vals) l₀

  pub weigh_more : (l₀ l : List Float) (k w : ℕ) (x d : Float) → Weighed l₀ l k → k < length cols → k < length vals → w ≡ get_or cols k 0 / size → w < length l → x ≡ get_or vals k nan
      → Weighed l₀ (set l w (get_or l w d +ᶠ squared x)) (k + 1)
  weigh_more l₀ l k w x d v h i e n q =
      let y : Entry = record { col = get_or cols k 0; value = get_or vals k nan } in
      rw (q, get_d_any l w d nan n) (sym (weighed_on size y (paired (drop (k + 1) cols) (drop (k + 1) vals)) l ∙ rw e) ∙ ap (λ t. weighed size t l) (sym (paired_cons cols vals k h i)) ∙ v)

  pub weigh_done : (l₀ l : List Float) (k : ℕ) → Weighed l₀ l k → length cols ≤ k → l ≡ weighed size (paired cols vals) l₀
  unfolding weighed
  weigh_done l₀ l k v h = rw (paired_none cols vals k h) at v

-- ---- a node's own squares

pub squares_yes : (size v : ℕ) (e : Entry) (es : List Entry) → eqb (e.col / size) v ≡ true → squares_in size v (e ∷ es) ≡ squared e.value ∷ squares_in size v es
unfolding squares_in values_where
squares_yes size v e es h = rw (keep_yes (λ (x : Entry). eqb (x.col / size) v) e es h)

pub squares_no : (size v : ℕ) (e : Entry) (es : List Entry) → eqb (e.col / size) v ≡ false → squares_in size v (e ∷ es) ≡ squares_in size v es
unfolding squares_in values_where
squares_no size v e es h = rw (keep_no (λ (x : Entry). eqb (x.col / size) v) e es h)

module _ (cols : List ℕ) (vals : List Float) (size v : ℕ) where
  -- the sum so far, with the squares that are left
  abbrev pub Own : Float → ℕ → Type 0
  Own sum k = foldl (λ s x. s +ᶠ x) sum (squares_in size v (paired (drop k cols) (drop k vals))) ≡ total (squares_in size v (paired cols vals))

  pub own_first : Own zeroᶠ 0
  unfolding total
  own_first = refl

  module _ (sum : Float) (k : ℕ) (o : Own sum k) (h : k < length cols) (i : k < length vals) where
    pub own_takes : (x : Float) → x ≡ get_or vals k nan → get_or cols k 0 / size ≡ v → Own (sum +ᶠ squared x) (k + 1)
    own_takes x q e =
        let y : Entry = record { col = get_or cols k 0; value = get_or vals k nan } in
        rw q (ap (foldl (λ s x. s +ᶠ x) sum) (sym (ap (squares_in size v) (paired_cons cols vals k h i) ∙ squares_yes size v y (paired (drop (k + 1) cols) (drop (k + 1) vals)) (eq-eqb (y.col / size) v e))) ∙ o)

    pub own_skips : (get_or cols k 0 / size ≡ v → ⊥) → Own sum (k + 1)
    own_skips e =
        let y : Entry = record { col = get_or cols k 0; value = get_or vals k nan } in
        ap (foldl (λ s x. s +ᶠ x) sum) (sym (ap (squares_in size v) (paired_cons cols vals k h i) ∙ squares_no size v y (paired (drop (k + 1) cols) (drop (k + 1) vals)) (ne_eqb (y.col / size) v e))) ∙ o

  pub own_done : (sum : Float) (k : ℕ) → Own sum k → length cols ≤ k → sum ≡ total (squares_in size v (paired cols vals))
  unfolding squares_in values_where keep
  own_done sum k o h = rw (paired_none cols vals k h) at o
