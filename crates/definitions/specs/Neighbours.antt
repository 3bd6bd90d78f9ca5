-- The neighbours that each node lists, from the matrix: those that an entry of its rows names. The links may run one way only.
use Rattle.std.specs.Prelude.{ℕ, ◌/◌, Bool, true, false, not, ◌&&◌, ◌||◌, List, [], ◌∷◌, ◌++◌, map, eqb, ltb, Float}
use Rattle.std.specs.Float.Ieee.{lt, eq}
use Rattle.std.specs.Float.Ieee.Scale.{finite}
use Rattle.definitions.specs.Lists.{tab, up_to, keep, any, pointers_from, joined_lists}
use Rattle.definitions.specs.Numbers.{◌*ᶠ◌, ◌/ᶠ◌, rootᶠ, zeroᶠ, squared, total}
use Rattle.definitions.specs.Matrix.{Matrix, values_where}
use Rattle.definitions.specs.Links.{node_entries}
use Rattle.definitions.specs.declared.TwoLevelAggregation.{TwoLevelAggregation}
use Rattle.definitions.specs.declared.TwoLevelAggregation.TheVariants.{Contiguous, Graph, StrongGraph}

-- GRAPH: ascending, each once, the node itself left out
unfoldable pub neighbours_of : Matrix → ℕ → ℕ → ℕ → List ℕ
neighbours_of a size nodes v = let row = node_entries a size v in keep (λ w. not (eqb w v) && any (λ e. eqb (e.col / size) w) row) (up_to nodes)

-- STRONGGRAPH

-- the squares of the numbers that node v stores towards node w, added in order
unfoldable pub squares_towards : Matrix → ℕ → ℕ → ℕ → List Float
squares_towards a size v w = map (λ x. squared x) (values_where (λ c. eqb (c / size) w) (node_entries a size v))

unfoldable pub norm_towards : Matrix → ℕ → ℕ → ℕ → Float
norm_towards a size v w = rootᶠ (total (squares_towards a size v w))

-- the root of the product of both nodes' diagonal norms
unfoldable pub divisor_of : Matrix → ℕ → ℕ → ℕ → Float
divisor_of a size v w = rootᶠ (norm_towards a size v v *ᶠ norm_towards a size w w)

-- undivided if that divisor is zero or not finite
unfoldable pub divides : Float → Bool
divides d = finite d && lt zeroᶠ d

unfoldable pub strength : Matrix → ℕ → ℕ → ℕ → Float
strength a size v w = let d = divisor_of a size v w in elim (divides d) [ true ↦ norm_towards a size v w /ᶠ d | false ↦ norm_towards a size v w ]

pub record Neighbour : Type 0 where
  pub node : ℕ
  pub strong : Float

-- strongest first, then the lower number
unfoldable pub stronger : Neighbour → Neighbour → Bool
stronger x y = lt y.strong x.strong || (eq x.strong y.strong && ltb x.node y.node)

unfoldable pub inserted : Neighbour → List Neighbour → List Neighbour
inserted x [] = x ∷ []
inserted x (y ∷ ys) = elim (stronger x y) [ true ↦ x ∷ (y ∷ ys) | false ↦ y ∷ inserted x ys ]

unfoldable pub sorted : List Neighbour → List Neighbour
sorted [] = []
sorted (x ∷ xs) = inserted x (sorted xs)

-- all of Graph's neighbours, by strength
unfoldable pub strong_neighbours_of : Matrix → ℕ → ℕ → ℕ → List ℕ
strong_neighbours_of a size nodes v = map (λ x. x.node) (sorted (map (λ w. record { node = w; strong = strength a size v w }) (neighbours_of a size nodes v)))

-- ---- BY POLICY: what each node lists (under Contiguous nothing)

unfoldable pub list_for : TwoLevelAggregation → Matrix → ℕ → ℕ → ℕ → List ℕ
list_for Contiguous a size nodes v = []
list_for Graph a size nodes v = neighbours_of a size nodes v
list_for StrongGraph a size nodes v = strong_neighbours_of a size nodes v

unfoldable pub neighbour_lists : TwoLevelAggregation → Matrix → ℕ → ℕ → List (List ℕ)
neighbour_lists g a size nodes = tab (list_for g a size nodes) nodes

-- end to end: the offsets, nodes + 1 many, then the neighbours
unfoldable pub flat_neighbours : TwoLevelAggregation → Matrix → ℕ → ℕ → List ℕ
flat_neighbours g a size nodes = let lists = neighbour_lists g a size nodes in pointers_from 0 lists ++ joined_lists lists
