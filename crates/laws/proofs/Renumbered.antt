-- New numbers by first appearance keep different groups different: the list of first appearances holds every old number once, at the place that is its new number.
use mathlib.Core.Path.{◌≡◌, refl, sym, ap, ◌∙◌}
use mathlib.Core.Bool.{Bool, true, false, ◌||◌}
use mathlib.Core.List.{List, [], ◌∷◌, ◌++◌, map}
use Prim.Native.Nat.{ℕ, zero, suc, ◌<◌}
use native.Mathlib.Nat.{not-suc-le-zero, zero-lt-suc, le_of_suc-le-suc}
use lib.Dec.{T, eqb, eqb→eq, eqb_refl}
use lib.ListN.{length, get_or, length-map}
use Rattle.definitions.specs.Lists.{any}
use Rattle.definitions.specs.Groups.{place, firsts, renumbered}
use Rattle.laws.proofs.Lists.{Each, up_lt, each_by, each_map}

abbrev Has : List ℕ → ℕ → Type 0
Has ys x = T (any (λ y. eqb x y) ys)

or_l : (a b : Bool) → T a → T (a || b)
or_l true b t = tt
or_l false b t = absurd t

or_r : (a b : Bool) → T b → T (a || b)
or_r true b t = tt
or_r false b t = t

place_at : (x : ℕ) (ys : List ℕ) → Has ys x → get_or ys (place x ys) 0 ≡ x
unfolding place any
place_at x [] h = absurd h
place_at x (y ∷ ys) h = go (eqb x y) (eqb→eq x y) h (λ k. place_at x ys k)
  where
    go : (b : Bool) → (T b → x ≡ y) → T (b || any (λ z. eqb x z) ys) → (T (any (λ z. eqb x z) ys) → get_or ys (place x ys) 0 ≡ x)
        → get_or (y ∷ ys) (elim b [ true ↦ 0 | false ↦ suc (place x ys) ]) 0 ≡ x
    go true f k ih = sym (f tt)
    go false f k ih = ih k

place_below : (x : ℕ) (ys : List ℕ) → Has ys x → place x ys < length ys
unfolding place any
place_below x [] h = absurd h
place_below x (y ∷ ys) h = go (eqb x y) h (λ k. place_below x ys k)
  where
    go : (b : Bool) → T (b || any (λ z. eqb x z) ys) → (T (any (λ z. eqb x z) ys) → place x ys < length ys) → (elim b [ true ↦ 0 | false ↦ suc (place x ys) ]) < suc (length ys)
    go true k ih = zero-lt-suc (length ys)
    go false k ih = up_lt (ih k)

has_append : (ys zs : List ℕ) (x : ℕ) → Has ys x → Has (ys ++ zs) x
unfolding any
has_append [] zs x h = absurd h
has_append (y ∷ ys) zs x h = go (eqb x y) h (λ k. has_append ys zs x k)
  where
    go : (b : Bool) → T (b || any (λ z. eqb x z) ys) → (T (any (λ z. eqb x z) ys) → T (any (λ z. eqb x z) (ys ++ zs))) → T (b || any (λ z. eqb x z) (ys ++ zs))
    go true k ih = tt
    go false k ih = ih k

has_last : (ys : List ℕ) (x : ℕ) → Has (ys ++ (x ∷ [])) x
unfolding any
has_last [] x = or_l (eqb x x) false (eqb_refl x)
has_last (y ∷ ys) x = or_r (eqb x y) (any (λ z. eqb x z) (ys ++ (x ∷ []))) (has_last ys x)

firsts_keep : (seen xs : List ℕ) (x : ℕ) → Has seen x → Has (firsts seen xs) x
unfolding firsts
firsts_keep seen [] x h = h
firsts_keep seen (y ∷ ys) x h = go (any (λ z. eqb y z) seen) (firsts_keep seen ys x h) (firsts_keep (seen ++ (y ∷ [])) ys x (has_append seen (y ∷ []) x h))
  where
    go : (b : Bool) → Has (firsts seen ys) x → Has (firsts (seen ++ (y ∷ [])) ys) x → Has (elim b [ true ↦ firsts seen ys | false ↦ firsts (seen ++ (y ∷ [])) ys ]) x
    go true k l = k
    go false k l = l

firsts_has : (seen xs : List ℕ) (i : ℕ) → i < length xs → Has (firsts seen xs) (get_or xs i 0)
unfolding firsts
firsts_has seen [] i l = absurd (not-suc-le-zero l)
firsts_has seen (y ∷ ys) zero l = go (any (λ z. eqb y z) seen) (λ k. firsts_keep seen ys y k)
  where
    go : (b : Bool) → (T b → Has (firsts seen ys) y) → Has (elim b [ true ↦ firsts seen ys | false ↦ firsts (seen ++ (y ∷ [])) ys ]) y
    go true k = k tt
    go false k = firsts_keep (seen ++ (y ∷ [])) ys y (has_last seen y)
firsts_has seen (y ∷ ys) (suc i) l = go (any (λ z. eqb y z) seen) (firsts_has seen ys i (le_of_suc-le-suc l)) (firsts_has (seen ++ (y ∷ [])) ys i (le_of_suc-le-suc l))
  where
    go : (b : Bool) → Has (firsts seen ys) (get_or ys i 0) → Has (firsts (seen ++ (y ∷ [])) ys) (get_or ys i 0)
        → Has (elim b [ true ↦ firsts seen ys | false ↦ firsts (seen ++ (y ∷ [])) ys ]) (get_or ys i 0)
    go true k m = k
    go false k m = m

map_at : (f : ℕ → ℕ) (xs : List ℕ) (i : ℕ) → i < length xs → get_or (map f xs) i 0 ≡ f (get_or xs i 0)
map_at f [] i l = absurd (not-suc-le-zero l)
map_at f (x ∷ xs) zero l = refl
map_at f (x ∷ xs) (suc i) l = map_at f xs i (le_of_suc-le-suc l)

-- as many as before, each below the count, and equal only where they were
pub renumbered_length : (ids : List ℕ) → length (renumbered ids).ids ≡ length ids
unfolding renumbered
renumbered_length ids = length-map ids (λ x. place x (firsts [] ids))

pub renumbered_below : (ids : List ℕ) → Each (λ g. g < (renumbered ids).count) (renumbered ids).ids
unfolding renumbered
renumbered_below ids = each_map (λ x. place x (firsts [] ids)) (each_by ids 0 (λ i l. place_below (get_or ids i 0) (firsts [] ids) (firsts_has [] ids i l)))

pub renumbered_same : (ids : List ℕ) (u v : ℕ) → u < length ids → v < length ids → get_or (renumbered ids).ids u 0 ≡ get_or (renumbered ids).ids v 0 → get_or ids u 0 ≡ get_or ids v 0
unfolding renumbered
renumbered_same ids u v h g e =
    let order = firsts [] ids in
    sym (place_at (get_or ids u 0) order (firsts_has [] ids u h))
    ∙ ap (λ (k : ℕ). get_or order k 0) (sym (map_at (λ x. place x order) ids u h) ∙ e ∙ map_at (λ x. place x order) ids v g)
    ∙ place_at (get_or ids v 0) order (firsts_has [] ids v g)
