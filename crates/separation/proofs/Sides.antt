-- The side of a group: the part that a group's nodes lie in, as a function of its number. A store of the number at a node of that side keeps every id on its node's side.
use mathlib.Core.Path.{◌≡◌, refl, sym, ap, ◌∙◌, subst}
use mathlib.Core.Logic.{◌⊎◌, inl, inr, ◌≢◌}
use mathlib.Core.Bool.{Bool}
use mathlib.Core.List.{List, [], ◌∷◌}
use Prim.Native.Nat.{ℕ, zero, suc, ◌≤◌}
use lib.ListN.{get_or, set}

-- ---- a list after a store

pub set_read : {A : Type 0} (l : List A) (v : ℕ) (a : A) (u : ℕ) (d : A) → (get_or (set l v a) u d ≡ get_or l u d) ⊎ ((u ≡ v) × (get_or (set l v a) u d ≡ a))
set_read [] v a u d = inl refl
set_read (x ∷ xs) zero a zero d = inr (refl, refl)
set_read (x ∷ xs) zero a (suc u) d = inl refl
set_read (x ∷ xs) (suc v) a zero d = inl refl
set_read {A} (x ∷ xs) (suc v) a (suc u) d = go (set_read xs v a u d)
  where
    go : (get_or (set xs v a) u d ≡ get_or xs u d) ⊎ ((u ≡ v) × (get_or (set xs v a) u d ≡ a)) → (get_or (set xs v a) u d ≡ get_or xs u d) ⊎ ((suc u ≡ suc v) × (get_or (set xs v a) u d ≡ a))
    go (inl e) = inl e
    go (inr e) = inr (ap suc e.0, e.1)

-- ---- sides

-- the id of every node in a group has the node's side
abbrev pub Sided : (ℕ → Bool) → (ℕ → Bool) → List ℕ → Type 0
Sided part side ids = (u : ℕ) → get_or ids u 0 ≢ 0 → side (get_or ids u 0) ≡ part u

pub sided_set : (part side : ℕ → Bool) (ids : List ℕ) (v g : ℕ) → part v ≡ side g → Sided part side ids → Sided part side (set ids v g)
sided_set part side ids v g p S u ne = go (set_read ids v g u 0)
  where
    go : (get_or (set ids v g) u 0 ≡ get_or ids u 0) ⊎ ((u ≡ v) × (get_or (set ids v g) u 0 ≡ g)) → side (get_or (set ids v g) u 0) ≡ part u
    go (inl e) = ap side e ∙ S u (λ z. ne (e ∙ z))
    go (inr e) = ap side e.1 ∙ sym p ∙ ap part (sym e.0)

-- a node in a group stays in one
pub positive_set : (ids : List ℕ) (v g u : ℕ) → g ≢ 0 → get_or ids u 0 ≢ 0 → get_or (set ids v g) u 0 ≢ 0
positive_set ids v g u p h z = go (set_read ids v g u 0)
  where
    go : (get_or (set ids v g) u 0 ≡ get_or ids u 0) ⊎ ((u ≡ v) × (get_or (set ids v g) u 0 ≡ g)) → ⊥
    go (inl e) = h (sym e ∙ z)
    go (inr e) = p (sym e.1 ∙ z)

pub below_set : (ids : List ℕ) (v g top u : ℕ) → g ≤ top → get_or ids u 0 ≤ top → get_or (set ids v g) u 0 ≤ top
below_set ids v g top u p h = go (set_read ids v g u 0)
  where
    go : (get_or (set ids v g) u 0 ≡ get_or ids u 0) ⊎ ((u ≡ v) × (get_or (set ids v g) u 0 ≡ g)) → get_or (set ids v g) u 0 ≤ top
    go (inl e) = subst (λ (x : ℕ). x ≤ top) (sym e) h
    go (inr e) = subst (λ (x : ℕ). x ≤ top) (sym e.1) p
