-- A part of a list as code lends it is a slice.
use Prim.Native.Nat.{ℕ, zero, suc, ◌-◌}
use mathlib.Core.Path.{◌≡◌, refl}
use mathlib.Core.List.{List, [], ◌∷◌}
use native.Mathlib.Omega.{arith}
use lib.ListN.{take, drop}
use Rattle.definitions.specs.Lists.{between}

pub part_slice : {A : Type 0} (a e : ℕ) (w : List A) → between a e w ≡ drop a (take e w)
part_slice zero e w = let z : e - 0 ≡ e = omega arith in rw z
part_slice (suc a) zero w = let z : 0 - suc a ≡ 0 = omega arith in rw z
part_slice (suc a) (suc e) [] = none (suc e - suc a)
  where
    none : {A : Type 0} (n : ℕ) → ◌≡◌ {A = List A} (take n []) []
    none zero = refl
    none (suc n) = refl
part_slice (suc a) (suc e) (x ∷ w) = let z : suc e - suc a ≡ e - a = omega arith in rw z (part_slice a e w)
