-- Sums and differences of two lists of numbers that are near pair by pair.
use mathlib.Core.List.{List, foldl}
use lib.Ieee.{Float}
use Rattle.definitions.specs.Numbers.{◌+ᶠ◌, ◌-ᶠ◌, zeroᶠ, minus_zero, total, summed, reduced}
use Rattle.laws.proofs.Near.{Near, Nears, both_none, both_more, near_refl, near_add, near_sub, zero_fits, minus_fits}

pub near_sums : {s t : Float} {xs ys : List Float} → Near s t → Nears xs ys → Near (foldl (λ a x. a +ᶠ x) s xs) (foldl (λ a x. a +ᶠ x) t ys)
near_sums p both_none = p
near_sums {s} {t} p (both_more {x = x} {y = y} h k) = near_sums {s = s +ᶠ x} {t = t +ᶠ y} (near_add s t x y p h) k

pub near_total : {xs ys : List Float} → Nears xs ys → Near (total xs) (total ys)
unfolding total
near_total h = near_sums (near_refl zeroᶠ zero_fits) h

pub near_summed : {xs ys : List Float} → Nears xs ys → Near (summed xs) (summed ys)
unfolding summed
near_summed h = near_sums (near_refl minus_zero minus_fits) h

pub near_reduced : {s t : Float} {xs ys : List Float} → Near s t → Nears xs ys → Near (reduced s xs) (reduced t ys)
unfolding reduced
near_reduced p both_none = p
near_reduced {s} {t} p (both_more {x = x} {y = y} h k) = near_reduced {s = s -ᶠ x} {t = t -ᶠ y} (near_sub s t x y p h) k
