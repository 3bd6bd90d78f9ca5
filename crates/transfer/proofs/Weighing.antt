-- The weight at a place: the tentative one, less what the row's entries take off there.
use Prim.Native.Nat.{ℕ, ◌<◌}
use mathlib.Core.Path.{◌≡◌, refl, ap, sym, ◌∙◌}
use mathlib.Core.Bool.{Bool, true, false, cond, ◌||◌}
use mathlib.Core.List.{List, [], ◌∷◌, map, foldl, zip_with}
use lib.Dec.{eqb}
use lib.ListN.{length, get_or, set, replicate, length-set, length-replicate, get_or-replicate}
use lib.Seq.{get_or-set_same, get_or-set_other}
use lib.Ieee.{Float, nan}
use borrow.Author.Tests.{eqb-true, eqb-false}
use Rattle.definitions.specs.Lists.{any}
use Rattle.definitions.specs.Numbers.{◌-ᶠ◌, ◌*ᶠ◌, zeroᶠ, oneᶠ, reduced}
use Rattle.definitions.specs.Matrix.{Entry, values_where}
use Rattle.csr32.proofs.Stored.{where_hit, where_miss, where_none}
use Rattle.transfer.specs.Touched.{named}
use Rattle.transfer.specs.Weights.{RowWeights}
use Rattle.transfer.proofs.Steps.{lower, lowered, smoothing}

-- ---- what is taken off

abbrev pub minus : Float → Float → Float
minus s y = s -ᶠ y

pub lower_hit : (l : List Float) (e : Entry) (j : ℕ) → j < length l → e.col ≡ j → get_or (lower l e) j nan ≡ get_or l j nan -ᶠ e.value
lower_hit l e j h q = rw q (get_or-set_same l j (get_or l j nan -ᶠ e.value) nan h)

pub lower_miss : (l : List Float) (e : Entry) (j : ℕ) → (e.col ≡ j → ⊥) → get_or (lower l e) j nan ≡ get_or l j nan
lower_miss l e j q = get_or-set_other l e.col j (get_or l e.col nan -ᶠ e.value) nan (λ r. q (sym r))

lowered_at : (es : List Entry) (l : List Float) (j : ℕ) → j < length l → get_or (lowered es l) j nan ≡ foldl minus (get_or l j nan) (values_where (λ k. eqb k j) es)
unfolding lowered
lowered_at [] l j h = rw (where_none (λ k. eqb k j))
lowered_at (e ∷ es) l j h = lowered_at es (lower l e) j (simp length-set h) ∙ step (eqb e.col j) refl
  where
    step : (b : Bool) → eqb e.col j ≡ b → foldl minus (get_or (lower l e) j nan) (values_where (λ k. eqb k j) es) ≡ foldl minus (get_or l j nan) (values_where (λ k. eqb k j) (e ∷ es))
    step true q = rw (lower_hit l e j h (eqb-true e.col j q), where_hit (λ k. eqb k j) e es q)
    step false q = rw (lower_miss l e j (eqb-false e.col j q), where_miss (λ k. eqb k j) e es q)

module _ (column : ℕ → ℕ) (damping inv : Float) (j : ℕ) where
  pub taken : (es : List Entry) → values_where (λ k. eqb k j) (smoothing column damping inv es) ≡ map (λ v. damping *ᶠ v *ᶠ inv) (values_where (λ k. eqb (column k) j) es)
  taken [] = where_none (λ k. eqb k j) ∙ rw (where_none (λ k. eqb (column k) j))
  taken (e ∷ es) = step (eqb (column e.col) j) refl (taken es)
    where
      m : Entry
      m = record { col = column e.col; value = damping *ᶠ e.value *ᶠ inv }

      step : (b : Bool) → eqb (column e.col) j ≡ b → values_where (λ k. eqb k j) (smoothing column damping inv es) ≡ map (λ v. damping *ᶠ v *ᶠ inv) (values_where (λ k. eqb (column k) j) es)
          → values_where (λ k. eqb k j) (smoothing column damping inv (e ∷ es)) ≡ map (λ v. damping *ᶠ v *ᶠ inv) (values_where (λ k. eqb (column k) j) (e ∷ es))
      step true q ih = where_hit (λ k. eqb k j) m (smoothing column damping inv es) q ∙ rw (ih, where_hit (λ k. eqb (column k) j) e es q)
      step false q ih = where_miss (λ k. eqb k j) m (smoothing column damping inv es) q ∙ rw (ih, where_miss (λ k. eqb (column k) j) e es q)

-- the weight at any column
weighed_at : (column : ℕ → ℕ) (damping inv : Float) (own : ℕ) (es : List Entry) (c j : ℕ) → j < c
    → get_or (lowered (smoothing column damping inv es) (set (replicate c zeroᶠ) own oneᶠ)) j nan ≡ reduced (cond (eqb j own) oneᶠ zeroᶠ) (map (λ v. damping *ᶠ v *ᶠ inv) (values_where (λ k. eqb (column k) j) es))
unfolding reduced
weighed_at column damping inv own es c j h =
    lowered_at (smoothing column damping inv es) (set (replicate c zeroᶠ) own oneᶠ) j (rw (length-set (replicate c zeroᶠ) own oneᶠ) l)
    ∙ rw (taken column damping inv j es, start (eqb j own) refl)
  where
    l : j < length (replicate c zeroᶠ)
    l = rw (length-replicate c zeroᶠ) h

    start : (b : Bool) → eqb j own ≡ b → get_or (set (replicate c zeroᶠ) own oneᶠ) j nan ≡ cond (eqb j own) oneᶠ zeroᶠ
    start true q = let e = eqb-true j own q in rw q (rw (← e) (get_or-set_same (replicate c zeroᶠ) j oneᶠ nan l))
    start false q = rw q (get_or-set_other (replicate c zeroᶠ) own j oneᶠ nan (eqb-false j own q) ∙ get_or-replicate c j zeroᶠ nan h)

pub weighed_row : (column : ℕ → ℕ) (damping inv : Float) (own : ℕ) (es : List Entry) (c : ℕ) (t : List ℕ) (w : List Float) → w ≡ lowered (smoothing column damping inv es) (set (replicate c zeroᶠ) own oneᶠ) → length w ≡ c → RowWeights column damping inv own es t w
weighed_row column damping inv own es c t w e l j h a = ap (λ x. get_or x j nan) e ∙ weighed_at column damping inv own es c j (rw l at h)

-- the weight at a column that the row does not name
pub where_unnamed : (column : ℕ → ℕ) (j : ℕ) (idx : List ℕ) (vals : List Float) → any (λ x. eqb x j) (named column idx) ≡ false
    → values_where (λ k. eqb (column k) j) (zip_with (λ c v. record { col = c; value = v }) idx vals) ≡ []
unfolding any zip_with
where_unnamed column j [] vals e = where_none (λ k. eqb (column k) j)
where_unnamed column j (x ∷ idx) [] e = where_none (λ k. eqb (column k) j)
where_unnamed column j (x ∷ idx) (v ∷ vals) e = step (eqb (column x) j) refl e (where_unnamed column j idx vals)
  where
    rest : List Entry
    rest = zip_with (λ c v. record { col = c; value = v }) idx vals

    step : (b : Bool) → eqb (column x) j ≡ b → (eqb (column x) j || any (λ x. eqb x j) (named column idx)) ≡ false → (any (λ x. eqb x j) (named column idx) ≡ false → values_where (λ k. eqb (column k) j) rest ≡ [])
        → values_where (λ k. eqb (column k) j) (record { col = x; value = v } ∷ rest) ≡ []
    step true q e ih = let z : true ≡ false = rw q at e in cc
    step false q e ih = where_miss (λ k. eqb (column k) j) (record { col = x; value = v }) rest q ∙ ih (rw q at e)
