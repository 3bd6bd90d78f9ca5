-- The sum over a row's entries, by those that are passed.
use Prim.Native.Nat.{ℕ, ◌+◌, ◌<◌}
use mathlib.Core.Path.{◌≡◌, ap, ◌∙◌}
use mathlib.Core.List.{List, ◌∷◌, [], foldl-append, map, map-append}
use native.Mathlib.Omega.{arith}
use lib.ListN.{length, get_or}
use lib.Ieee.{Float, nan}
use Rattle.definitions.specs.Numbers.{◌+ᶠ◌, ◌*ᶠ◌, zeroᶠ, total}
use Rattle.definitions.specs.Matrix.{Matrix, Entry, stored, entries_of}
use Rattle.definitions.specs.Estimate.{row_terms}
use Rattle.csr32.specs.Parts.{entries}
use Rattle.csr32.proofs.Stored.{stored_none, stored_more, stored_all}
use Rattle.spectral_radius.specs.Power.{image_at}

module _ (idx : List ℕ) (vals s x : List Float) where
  -- the product of an entry
  abbrev product : Entry → Float
  product e = e.value *ᶠ get_or s e.col nan *ᶠ get_or x e.col nan

  -- the first n products added up
  abbrev pub added : ℕ → Float
  added n = total (map product (stored idx vals 0 n))

  pub added_none : zeroᶠ ≡ added 0
  unfolding total
  added_none = rw (stored_none idx vals 0)

  pub added_more : (n m c : ℕ) (v sum : Float) → m ≡ n + 1 → n < length idx → length idx ≡ length vals → c ≡ get_or idx n 0 → v ≡ get_or vals n nan → sum ≡ added n
      → sum +ᶠ v *ᶠ get_or s c nan *ᶠ get_or x c nan ≡ added m
  unfolding total
  added_more n m c v sum em h l ec ev es =
      rw (em, stored_more idx vals 0 n (omega arith) h l, map-append product (stored idx vals 0 n) (record { col = get_or idx n 0; value = get_or vals n nan } ∷ []), foldl-append (λ s x. s +ᶠ x), ec, ev, es)

  -- row i of the image
  pub added_all : (a : Matrix) (i n : ℕ) (sum : Float) → n ≡ length idx → length idx ≡ length vals → entries idx vals ≡ entries_of a i → sum ≡ added n → get_or s i nan *ᶠ sum ≡ image_at a s x i
  unfolding row_terms
  added_all a i n sum en l ee es = rw (es, stored_all idx vals n en l, ee)
