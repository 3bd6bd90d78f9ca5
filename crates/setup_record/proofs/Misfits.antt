-- Cause 26 as a whole: what the record alone decides, and what an answer tells.
use Prim.Native.Nat.{ℕ}
use native.Mathlib.Omega.{arith}
use mathlib.Core.Path.{◌≡◌, refl, sym, ◌∙◌}
use mathlib.Core.Bool.{Bool, true, false, ◌&&◌}
use mathlib.Core.List.{List}
use lib.Dec.{leb, ltb}
use lib.ListN.{length}
use lib.Ieee.{Float}
use Rattle.definitions.specs.Lists.{all}
use Rattle.definitions.specs.Places.{used_ints, used_floats, ids_in, places_of}
use Rattle.definitions.specs.Fits.{transfer_fits, setup_fits}
use Rattle.definitions.specs.declared.Setup.{Setup}
use Rattle.definitions.specs.declared.Places.{Places}
use Rattle.layout.specs.Layout.{layout_of}
use Rattle.layout.proofs.Sizes.{placed}
use Rattle.std.specs.Prelude.{Option, Some, None}
use Rattle.setup_record.specs.Sizes.{sizes_fit, fitting_of}
use Rattle.setup_record.proofs.Limits.{sized_of, bounds_of}

off1 : (x a b c d : Bool) → x ≡ false → false ≡ (x && a && b && c && d)
off1 x a b c d e = rw e

module _ (s : Setup) (ints : List ℕ) (floats : List Float) where
  pub record_off : sizes_fit s ≡ false → false ≡ setup_fits s ints floats
  unfolding setup_fits sizes_fit
  record_off e = off1 (sizes_fit s) (leb (used_ints s.basis s) (length ints)) (leb (used_floats s) (length floats)) (all (λ g. ltb g s.groups) (ids_in s ints)) (transfer_fits s.basis s ints) e

  -- ---- the places that are handed out

  pub places_are : sizes_fit s ≡ true → layout_of s ≡ places_of s
  places_are e = let b = bounds_of s e in placed s (omega (arith, b.nodes, b.rows)) b.rows (sized_of s e).limits.block b.transfers b.coarse

  -- and what an answer tells
  fits_by : (b : Bool) (p : Places) → Some p ≡ elim b [ true ↦ Some (places_of s) | false ↦ None ] → (b ≡ true) × (p ≡ places_of s)
  fits_by true p e = (refl, cc)
  fits_by false p e = (cc, cc)

  misfit_by : (b : Bool) → ◌≡◌ {A = Option Places} None (elim b [ true ↦ Some (places_of s) | false ↦ None ]) → b ≡ false
  misfit_by true e = cc
  misfit_by false e = refl

  module _ (r : Option Places) (e : r ≡ fitting_of s ints floats) where
    pub fits_tell : (p : Places) → r ≡ Some p → (setup_fits s ints floats ≡ true) × (p ≡ places_of s)
    unfolding fitting_of
    fits_tell p f = fits_by (setup_fits s ints floats) p (sym f ∙ e)

    pub misfit_tells : r ≡ None → setup_fits s ints floats ≡ false
    unfolding fitting_of
    misfit_tells f = misfit_by (setup_fits s ints floats) (sym f ∙ e)
