-- The choice of a group to join, over plain lists and counts, as the loops make it: the definitions with the groups' ids and sizes taken apart.
use Rattle.std.specs.Prelude.{◌≡◌, Bool, true, false, ◌&&◌, ◌||◌, ℕ, ◌+◌, ltb, get_or, set}
use Rattle.std.proofs.Math.Path.{refl}
use Rattle.std.proofs.Common.{ap}
use mathlib.Core.List.{List, [], ◌∷◌, ◌++◌}
use Rattle.std.proofs.Math.Dec.{eqb}
use Rattle.definitions.specs.Groups.{Groups, size_in, before, chosen, other_groups, named_groups, no_anchor}

-- does the group a, to which va edges lead and which has ca members, come before the group b with vb and cb?
abbrev pub before_by : ℕ → ℕ → ℕ → ℕ → ℕ → ℕ → Bool
before_by va vb ca cb a b = ltb vb va || (eqb va vb && (ltb ca cb || (eqb ca cb && ltb a b)))

-- the first of `best` (0: none yet) and the group a
unfoldable pub better : (ℕ → ℕ) → (ℕ → ℕ) → ℕ → ℕ → ℕ
better edges sizes best a = elim (eqb best 0 || before_by (edges a) (edges best) (sizes a) (sizes best) a best) [ true ↦ a | false ↦ best ]

pub chosen_goes : (edges sizes : ℕ → ℕ) (best a : ℕ) (rest : List ℕ) → chosen edges sizes best (a ∷ rest) ≡ chosen edges sizes (better edges sizes best a) rest
unfolding chosen before better
chosen_goes edges sizes best a rest = refl

-- the groups of some nodes, one for each, but for g itself and for groups with no member
unfoldable pub others_by : ℕ → List ℕ → (ℕ → ℕ) → List ℕ → List ℕ
others_by g ids sizes [] = []
others_by g ids sizes (w ∷ ws) = elim (eqb (get_or ids w 0) g || eqb (sizes (get_or ids w 0)) 0) [ true ↦ others_by g ids sizes ws | false ↦ get_or ids w 0 ∷ others_by g ids sizes ws ]

-- the groups that the lists of some nodes of g name, one for each edge
unfoldable pub named_by : (ℕ → List ℕ) → ℕ → List ℕ → (ℕ → ℕ) → List ℕ → List ℕ
named_by lists g ids sizes [] = []
named_by lists g ids sizes (v ∷ vs) = others_by g ids sizes (lists v) ++ named_by lists g ids sizes vs

module _ (lists : ℕ → List ℕ) (g : ℕ) (s : Groups) where
  branch : (t : Bool) (x : ℕ) (p q : List ℕ) → p ≡ q → ◌≡◌ {A = List ℕ} (elim t [ true ↦ p | false ↦ x ∷ p ]) (elim t [ true ↦ q | false ↦ x ∷ q ])
  branch true x p q e = e
  branch false x p q e = ap (λ l. x ∷ l) e

  pub others_is : (ws : List ℕ) → other_groups lists no_anchor g s ws ≡ others_by g s.of (size_in s) ws
  unfolding other_groups others_by
  others_is [] = refl
  others_is (w ∷ ws) = branch (eqb (get_or s.of w 0) g || eqb (size_in s (get_or s.of w 0)) 0) (get_or s.of w 0) (other_groups lists no_anchor g s ws) (others_by g s.of (size_in s) ws) (others_is ws)

  pub named_is : (vs : List ℕ) → named_groups lists no_anchor g s vs ≡ named_by lists g s.of (size_in s) vs
  unfolding named_groups named_by
  named_is [] = refl
  named_is (v ∷ vs) = rw (others_is (lists v), named_is vs) refl

-- ---- COUNTS of groups

-- the number at a place of a list
abbrev pub at : List ℕ → ℕ → ℕ
at w g = get_or w g 0

-- one more at x for each x of a list
unfoldable pub bump : List ℕ → List ℕ → List ℕ
bump [] w = w
bump (x ∷ xs) w = bump xs (set w x (get_or w x 0 + 1))

-- 0 at x for each x of a list
unfoldable pub wipe : List ℕ → List ℕ → List ℕ
wipe [] w = w
wipe (x ∷ xs) w = wipe xs (set w x 0)

-- a list of zeros
abbrev pub Zeros : List ℕ → Type 0
Zeros w = (k : ℕ) → get_or w k 0 ≡ 0
