-- Finite in the library's word and in the definitions', and by two comparisons.
use mathlib.Core.Path.{◌≡◌, refl, sym}
use mathlib.Core.Bool.{true, false}
use lib.Ieee.{Float, nan, inf, fin, lt, neg}
use lib.Ieee.Scale.{finite}
use Rattle.std.specs.Float.{float_is_finite}

pub same_finite : (x : Float) → float_is_finite x ≡ finite x
unfolding float_is_finite finite
same_finite nan = refl
same_finite (inf s) = refl
same_finite (fin s m e) = refl

pub below : (x : Float) → lt x (inf false) ≡ true → lt (neg x) (inf false) ≡ finite x
unfolding lt neg
below nan e = refl
below (inf true) e = refl
below (inf false) e = sym e
below (fin s m d) e = refl

pub not_below : (x : Float) → lt x (inf false) ≡ false → false ≡ finite x
unfolding lt
not_below nan e = refl
not_below (inf s) e = refl
not_below (fin s m d) e = sym e
