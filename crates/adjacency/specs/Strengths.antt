-- The strengths of a node's links, as the loops make them from the sums of squares and the diagonal norms.
use Rattle.std.specs.Prelude.{◌≡◌, Bool, true, false, not, List, [], ◌∷◌, map, ℕ, ◌/◌, eqb, get_or, set, Float}
use Rattle.std.specs.Float.{nan, inf, fin}
use Rattle.definitions.specs.Numbers.{◌+ᶠ◌, ◌*ᶠ◌, ◌/ᶠ◌, rootᶠ, zeroᶠ, squared}
use Rattle.definitions.specs.Matrix.{Entry, values_where}
use Rattle.definitions.specs.Neighbours.{divides}

-- no NaN, no sign: +0, above it, or +infinity
unfoldable pub plain : Float → Bool
plain nan = false
plain (inf s) = not s
plain (fin s m e) = not s

abbrev pub AllPlain : List Float → Type 0
AllPlain l = (i : ℕ) → plain (get_or l i zeroᶠ) ≡ true

-- the squares of the numbers whose column lies in node w
unfoldable pub squares_in : ℕ → ℕ → List Entry → List Float
squares_in size w es = map (λ x. squared x) (values_where (λ c. eqb (c / size) w) es)

unfoldable pub cleared : List ℕ → List Float → List Float
cleared [] l = l
cleared (w ∷ ws) l = cleared ws (set l w zeroᶠ)

-- the square of each number added to the sum of its column's node
unfoldable pub weighed : ℕ → List Entry → List Float → List Float
weighed size [] l = l
weighed size (e ∷ es) l = weighed size es (set l (e.col / size) (get_or l (e.col / size) nan +ᶠ squared e.value))

-- from the sum of squares towards a node and both nodes' diagonal norms
unfoldable pub strong_of : Float → Float → Float → Float
strong_of sum p q = let d = rootᶠ (p *ᶠ q) in elim (divides d) [ true ↦ rootᶠ sum /ᶠ d | false ↦ rootᶠ sum ]

unfoldable pub measured : ℕ → List ℕ → List Float → List Float → List Float → List Float
measured v [] sums norms l = l
measured v (w ∷ ws) sums norms l = measured v ws sums norms (set l w (strong_of (get_or sums w nan) (get_or norms v nan) (get_or norms w nan)))
