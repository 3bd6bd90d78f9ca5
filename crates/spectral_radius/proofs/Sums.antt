-- Lists by index: maps and zips of them.
use Prim.Native.Nat.{ℕ, zero, suc}
use mathlib.Core.Path.{◌≡◌, refl, ap}
use mathlib.Core.List.{List, [], ◌∷◌, map, zip_with}
use native.Mathlib.Omega.{arith}
use lib.ListN.{length, get_or}
use Rattle.definitions.specs.Lists.{tab}

pub map_tab : {A B : Type 0} (d : A) (f : A → B) (l : List A) → tab (λ i. f (get_or l i d)) (length l) ≡ map f l
unfolding tab
map_tab d f [] = refl
map_tab d f (x ∷ xs) = ap (λ l. f x ∷ l) (map_tab d f xs)

pub tab_map : {A B : Type 0} (f : A → B) (g : ℕ → A) (n : ℕ) → map f (tab g n) ≡ tab (λ i. f (g i)) n
unfolding tab
tab_map f g zero = refl
tab_map f g (suc n) = ap (λ l. f (g zero) ∷ l) (tab_map f (λ i. g (suc i)) n)

pub zip_tab : {A B : Type 0} (d : A) (f : A → A → B) (l m : List A) → length l ≡ length m → tab (λ i. f (get_or l i d) (get_or m i d)) (length l) ≡ zip_with f l m
unfolding tab zip_with
zip_tab d f [] m e = refl
zip_tab d f (x ∷ xs) [] e = absurd (omega arith)
zip_tab d f (x ∷ xs) (y ∷ ys) e = ap (λ l. f x y ∷ l) (zip_tab d f xs ys (omega arith))
