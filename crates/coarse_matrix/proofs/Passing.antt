-- A loop over the columns and values of a row, side by side: what it has passed, as entries, and what that adds to a list.
use Prim.Native.Nat.{ℕ, ◌<◌}
use mathlib.Core.Path.{◌≡◌, refl, ap, sym, ◌∙◌}
use mathlib.Core.Logic.{◌⊎◌, inl, inr}
use mathlib.Core.List.{List, [], ◌∷◌, ◌++◌, map, zip_with, foldl-append, map-append, append-nil}
use denote.Ref.{Bor}
use lib.ListN.{length}
use lib.Ieee.{Float}
use Rattle.std.specs.declared.iter.Zip.{Zip}
use Rattle.std.specs.declared.slice.Iter.{Iter}
use Rattle.std.specs.Prelude.{Option, None, Some}
use Rattle.std.specs.Iterator.{Yields}
use Rattle.std.specs.Iterator.Adapters.{zip_first, zip_second}
use Rattle.std.specs.Slice.Iter.{iter_rest}
use Rattle.std.proofs.iter.Yields.{fronts}
use Rattle.std.proofs.lemmas.Iterator.{zips}
use Rattle.std.proofs.lemmas.Slice.Zip.{zip_turn, either_empty_from_Zip}
use Rattle.definitions.specs.Matrix.{Entry}
use Rattle.csr32.specs.Parts.{entries}
use Rattle.laws.specs.Bounds.{Below}
use Rattle.laws.specs.Scatter.{put, bump, scatter}
use Rattle.coarse_matrix.specs.Scatter.{moved}

abbrev pub passed : List (Bor ℕ × Bor Float) → List Entry
passed ps = map (λ p. put p.0.now p.1.now) ps

pub passed_more : (ps : List (Bor ℕ × Bor Float)) (p : Bor ℕ × Bor Float) → passed (ps ++ (p ∷ [])) ≡ passed ps ++ (put p.0.now p.1.now ∷ [])
passed_more ps p = map-append (λ q. put q.0.now q.1.now) ps (p ∷ [])

entries_none : (idx : List ℕ) → entries idx [] ≡ []
unfolding zip_with
entries_none [] = refl
entries_none (k ∷ idx) = refl

-- with what is left, all
passed_left : (ps : List (Bor ℕ × Bor Float)) (s t : Zip (Iter ℕ) (Iter Float)) → Yields (zips fronts fronts) s ps t
    → entries (iter_rest (zip_first s)) (iter_rest (zip_second s)) ≡ passed ps ++ entries (iter_rest (zip_first t)) (iter_rest (zip_second t))
unfolding zip_with
passed_left [] s t y = ap (λ z. entries (iter_rest (zip_first z)) (iter_rest (zip_second z))) y
passed_left (p ∷ ps) s t y =
    let k : iter_rest (zip_first s) ≡ p.0.now ∷ iter_rest (zip_first y.0) = y.1.0 in
    let v : iter_rest (zip_second s) ≡ p.1.now ∷ iter_rest (zip_second y.0) = y.1.1 in
    rw (k, v) (ap (λ l. put p.0.now p.1.now ∷ l) (passed_left ps y.0 t y.2))

module _ (idx : List ℕ) (vals : List Float) (ps : List (Bor ℕ × Bor Float)) (s t u : Zip (Iter ℕ) (Iter Float)) (r : Option (Bor ℕ × Bor Float))
    (first : iter_rest (zip_first s) ≡ idx) (second : iter_rest (zip_second s) ≡ vals) (y : Yields (zips fronts fronts) s ps t) where
  -- at the end
  pub passed_all : r ≡ None → zips fronts fronts t r u → passed ps ≡ entries idx vals
  unfolding zip_with
  passed_all e h = sym (append-nil (passed ps)) ∙ ap (λ l. passed ps ++ l) (sym (none (either_empty_from_Zip t u r e h))) ∙ sym (passed_left ps s t y) ∙ rw (first, second)
    where
      none : (iter_rest (zip_first t) ≡ []) ⊎ (iter_rest (zip_second t) ≡ []) → entries (iter_rest (zip_first t)) (iter_rest (zip_second t)) ≡ []
      none (inl a) = rw a
      none (inr b) = rw b (entries_none (iter_rest (zip_first t)))

  -- the column that the loop is at
  pub at_below : (w : ℕ) (p : Bor ℕ × Bor Float) → r ≡ Some p → zips fronts fronts t r u → Below w idx → p.0.now < w
  at_below w p e h b = let q = zip_turn idx vals ps s t u r first second y p e h in rw (q.2 0) (b (length ps) q.0)

pub scatter_append : (xs ys : List Entry) (l : List Float) → scatter (xs ++ ys) l ≡ scatter ys (scatter xs l)
unfolding scatter
scatter_append xs ys l = foldl-append bump l xs ys

-- an entry more, at the place that g says
pub moved_more : (g : ℕ → ℕ) (ps : List (Bor ℕ × Bor Float)) (p : Bor ℕ × Bor Float) (at : ℕ) (l₀ l : List Float) → at ≡ g p.0.now → l ≡ scatter (moved g (passed ps)) l₀
    → bump l (put at p.1.now) ≡ scatter (moved g (passed (ps ++ (p ∷ [])))) l₀
unfolding scatter
moved_more g ps p at l₀ l ea el =
    rw (el, ea, passed_more ps p, map-append (λ e. put (g e.col) e.value) (passed ps) (put p.0.now p.1.now ∷ [])) (sym (scatter_append (moved g (passed ps)) (put (g p.0.now) p.1.now ∷ []) l₀))
