-- One node's list is the definition's, and the work lists are ready for the next node.
use mathlib.Core.Path.{◌≡◌, refl, ap, sym, ◌∙◌}
use mathlib.Core.Bool.{Bool, true, false}
use mathlib.Core.List.{List, ◌++◌}
use Prim.Native.Nat.{ℕ, ◌+◌, ◌*◌, ◌/◌, ◌≤◌, ◌<◌}
use native.Mathlib.Omega.{arith}
use lib.Dec.{ltb}
use lib.ListN.{length, get_or, set, take, length-map, length-set}
use lib.Seq.{take_at}
use lib.Ieee.{Float, nan, lt, eq, of_bits}
use Rattle.definitions.specs.Numbers.{total, zeroᶠ}
use Rattle.definitions.specs.Matrix.{Matrix, Entry, csr}
use Rattle.definitions.specs.Neighbours.{neighbours_of, squares_towards, norm_towards, divisor_of, strength}
use Rattle.laws.proofs.Lists.{Each, each_at, each_imp}
use Rattle.laws.specs.Bounds.{Below}
use Rattle.adjacency.specs.Collect.{gather, marked, nodes_in, paired}
use Rattle.adjacency.specs.WellFormed.{WellFormed, part_of}
use Rattle.adjacency.specs.Lists.{list_of, Between, Listed}
use Rattle.adjacency.specs.Norms.{Normed}
use Rattle.adjacency.specs.Order.{before, sort_by, Weak}
use Rattle.adjacency.specs.Strengths.{AllPlain, squares_in, cleared, weighed, strong_of, measured}
use Rattle.adjacency.proofs.Steps.{get_d_any}
use Rattle.adjacency.proofs.Weak.{weak_before, before_apart}
use Rattle.adjacency.proofs.Sorting.{strong_is, each_sort}
use Rattle.adjacency.proofs.Rows.{span_rises, span_towards, span_finite, span_named, columns_length, entries_are, neighbours_are}
use Rattle.adjacency.proofs.Measures.{Names, each_named, named_below, length_cleared, cleared_named, plain_cleared, length_weighed, weighed_at, plain_weighed, length_measured, measured_named, plain_measured}
use Rattle.adjacency.proofs.Found.{each_node, gather_short, length_marked, found_ascending, found_sorted, found_short, found_each, stamps_below, length_sort}

-- a strength from the sum of squares and the norms
pub strength_is : (a : Matrix) (size v u : ℕ) → strength a size v u ≡ strong_of (total (squares_towards a size v u)) (norm_towards a size v v) (norm_towards a size u u)
unfolding strength divisor_of strong_of norm_towards
strength_is a size v u = refl

-- strengths that are all zero order by number
even_before : (s : List Float) → ((u : ℕ) → get_or s u zeroᶠ ≡ zeroᶠ) → (x y : ℕ) → before s x y ≡ ltb x y
unfolding before lt eq of_bits
even_before s e x y = rw (e x, e y)

-- what a node's sums and strengths are once they were made, if they are wanted, for the nodes g
pub record Weighted (strong : Bool) (a : Matrix) (size nodes v : ℕ) (g : List ℕ) (sums strengths : List Float) : Type 0 where
  pub summed : length sums ≡ nodes
  pub compared : length strengths ≡ nodes
  pub plain_sums : AllPlain sums
  pub plains : AllPlain strengths
  pub each : strong ≡ true → Each (λ u. get_or strengths u zeroᶠ ≡ strength a size v u) g
  pub even : strong ≡ false → (u : ℕ) → get_or strengths u zeroᶠ ≡ zeroᶠ

module _ {strong : Bool} {nodes size : ℕ} {ptr cols : List ℕ} {vals : List Float} (w : WellFormed strong nodes size ptr cols vals) where
  abbrev a : Matrix
  a = csr (nodes * size) (nodes * size) ptr cols vals

  module _ {v : ℕ} (s : v < nodes) where
    abbrev es : List Entry
    es = paired (part_of size v ptr cols) (part_of size v ptr vals)

    abbrev ws : List ℕ
    ws = nodes_in size (part_of size v ptr cols)

    pub squares_are : (u : ℕ) → squares_in size u es ≡ squares_towards a size v u
    unfolding squares_in squares_towards
    squares_are u = rw (← entries_are w s)

    module _ {stamps : List ℕ} {sums strengths : List Float} (b : Between strong nodes v stamps sums strengths) where
      -- ---- the strengths
      module _ (g : List ℕ) (ga : Each (λ x. x < nodes) g) where
        pub weighted_not : strong ≡ false → Weighted strong a size nodes v g sums strengths
        weighted_not e = record {
          summed = b.summed;
          compared = b.compared;
          plain_sums = b.plain_sums;
          plains = b.plains;
          each = λ t. absurd (let z : ◌≡◌ {A = Bool} true false = sym t ∙ e in let y : ◌≡◌ {A = ℕ} 0 1 = cc in omega arith);
          even = b.even;
        }

        module _ (norms : List Float) (normed : strong ≡ true → Normed a size nodes norms) where
          abbrev sums' : List Float
          sums' = weighed size es (cleared g sums)

          abbrev strengths' : List Float
          strengths' = measured v g sums' norms strengths

          cleared_long : nodes ≤ length (cleared g sums)
          cleared_long = omega (arith, length_cleared g sums, b.summed)

          summed' : length sums' ≡ nodes
          summed' = length_weighed size es (cleared g sums) ∙ length_cleared g sums ∙ b.summed

          -- the strengths are the definition's
          strength_at : strong ≡ true → (u : ℕ) → u < nodes → Names g u → get_or strengths' u nan ≡ strength a size v u
          unfolding total
          strength_at t u h m =
              let i : u < length strengths = omega (arith, b.compared) in
              let k : u < length sums = omega (arith, b.summed) in
              let p : get_or norms v nan ≡ norm_towards a size v v = normed t v s in
              let q : get_or norms u nan ≡ norm_towards a size u u = normed t u h in
              let r : get_or sums' u nan ≡ total (squares_towards a size v u) = weighed_at nodes size u es (cleared g sums) (span_towards w s) cleared_long ∙ rw (cleared_named g sums u k m, squares_are u) in
              measured_named v sums' norms g strengths u i m ∙ rw (r, p, q) (sym (strength_is a size v u))

          made : strong ≡ true → Weighted strong a size nodes v g sums' strengths'
          made t =
              let z : AllPlain sums' = plain_weighed nodes size es (cleared g sums) (span_towards w s) cleared_long (span_finite w s t) (plain_cleared g sums b.plain_sums) in
              let n : length strengths' ≡ nodes = length_measured v sums' norms g strengths ∙ b.compared in
              record {
                summed = summed';
                compared = n;
                plain_sums = z;
                plains = plain_measured v sums' norms g strengths (each_imp (λ x h. omega (arith, summed', h)) ga) z b.plains;
                each = λ _. each_named g (λ u m. let h : u < nodes = named_below nodes g u ga m in let i : u < length strengths' = omega (arith, n) in get_d_any strengths' u zeroᶠ nan i ∙ strength_at t u h m);
                even = λ e. absurd (let y : ◌≡◌ {A = Bool} true false = sym t ∙ e in let x : ◌≡◌ {A = ℕ} 0 1 = cc in omega arith);
              }

          weighted : strong ≡ true → (sums₁ strengths₁ : List Float) → sums₁ ≡ sums' → strengths₁ ≡ measured v g sums₁ norms strengths → Weighted strong a size nodes v g sums₁ strengths₁
          weighted t sums₁ strengths₁ p q = rw (q, p) (made t)

      -- ---- the list
      abbrev g : List ℕ
      g = gather (v + 1) (set stamps v (v + 1)) ws

      ws_each : Each (λ x. x < nodes) ws
      ws_each = each_node nodes size (part_of size v ptr cols) (span_named w s).inside

      pub found_in : Each (λ x. x < nodes) g
      found_in = found_each nodes v stamps ws b.marks s b.stamped ws_each

      pub found_below : Below nodes g
      found_below k h = each_at g k 0 found_in h

      pub found_few : (length g ≤ nodes) × (length g + get_or ptr (v * size) 0 ≤ get_or ptr ((v + 1) * size) 0)
      found_few = (
        found_short nodes v stamps ws b.marks s b.stamped ws_each,
        omega (arith, gather_short (v + 1) (set stamps v (v + 1)) ws, length-map (part_of size v ptr cols) (λ c. c / size), columns_length w s, span_rises w s),
      )

      pub weighted_as : (norms : List Float) → (strong ≡ true → Normed a size nodes norms) → strong ≡ true → (l : List ℕ) → l ≡ g → (sums₁ strengths₁ : List Float) → sums₁ ≡ weighed size es (cleared l sums) → strengths₁ ≡ measured v l sums₁ norms strengths → Weighted strong a size nodes v g sums₁ strengths₁
      weighted_as norms normed t l e sums₁ strengths₁ p q = weighted g found_in norms normed t sums₁ strengths₁ (rw e at p) (rw e at q)

      -- as a node's entries are told
      pub found_is : (b' : ℕ) (cs : List ℕ) → b' ≡ size → cs ≡ part_of size v ptr cols → (l : List ℕ) → l ≡ gather (v + 1) (set stamps v (v + 1)) (nodes_in b' cs) → l ≡ g
      found_is b' cs eb ec l e = rw (eb, ec) at e

      module _ {sums₁ strengths₁ : List Float} (f : Weighted strong a size nodes v g sums₁ strengths₁) where
        pub weak : Weak (before strengths₁)
        weak = weak_before strengths₁ f.plains

        sorted_as : (kind : Bool) → strong ≡ kind → sort_by (before strengths₁) g ≡ list_of kind a size nodes v
        unfolding list_of
        sorted_as true t =
            let e : sort_by ltb g ≡ neighbours_of a size nodes v = found_ascending nodes v stamps ws b.marks s b.stamped ws_each ltb (λ x y. refl) ∙ neighbours_are w s in
            let each : Each (λ u. get_or strengths₁ u zeroᶠ ≡ strength a size v u) (neighbours_of a size nodes v) = rw e at (each_sort (λ u. get_or strengths₁ u zeroᶠ ≡ strength a size v u) ltb g (f.each t)) in
            found_sorted nodes v stamps ws b.marks s b.stamped ws_each (before strengths₁) weak (before_apart strengths₁ f.plains)
            ∙ ap (sort_by (before strengths₁)) (neighbours_are w s)
            ∙ sym (strong_is a size nodes v strengths₁ each)
        sorted_as false t = found_ascending nodes v stamps ws b.marks s b.stamped ws_each (before strengths₁) (even_before strengths₁ (f.even t)) ∙ neighbours_are w s

        done : (count : ℕ) (names stamps₁ : List ℕ) → take count names ≡ sort_by (before strengths₁) g → count ≡ length g → stamps₁ ≡ marked (v + 1) (set stamps v (v + 1)) ws
            → Listed strong a size nodes v count names stamps₁ sums₁ strengths₁
        done count names stamps₁ p q r =
            let is : sort_by (before strengths₁) g ≡ list_of strong a size nodes v = sorted_as strong refl in
            let e : marked (v + 1) (set stamps v (v + 1)) ws ≡ stamps₁ = sym r in
            record {
              next = record {
                stamped = after stamps₁ e;
                marks = ap length r ∙ length_marked (v + 1) (set stamps v (v + 1)) ws ∙ simp length-set b.marks;
                summed = f.summed;
                compared = f.compared;
                plain_sums = f.plain_sums;
                plains = f.plains;
                even = f.even;
              };
              list = p ∙ is;
              long = q ∙ sym (length_sort (before strengths₁) g) ∙ ap length is;
              most = omega (arith, found_few.1, q);
            }
          where
            after : (l : List ℕ) → marked (v + 1) (set stamps v (v + 1)) ws ≡ l → Below (v + 1 + 1) l
            after l e =
                let below : Below (v + 1 + 1) (marked (v + 1) (set stamps v (v + 1)) ws) = λ k i. let z = stamps_below nodes v stamps ws b.marks s b.stamped ws_each k i in omega arith in
                rw e at below

        pub listed : (b' : ℕ) (cs l y rest stamps₁ : List ℕ) (count : ℕ) → b' ≡ size → cs ≡ part_of size v ptr cols → l ≡ g → count ≡ length (gather (v + 1) (set stamps v (v + 1)) (nodes_in b' cs))
            → stamps₁ ≡ marked (v + 1) (set stamps v (v + 1)) (nodes_in b' cs) → y ≡ sort_by (before strengths₁) l → Listed strong a size nodes v count (y ++ rest) stamps₁ sums₁ strengths₁
        listed b' cs l y rest stamps₁ count eb ec e q r p =
            let p' : y ≡ sort_by (before strengths₁) g = rw e at p in
            let q' : count ≡ length g = rw (eb, ec) at q in
            let r' : stamps₁ ≡ marked (v + 1) (set stamps v (v + 1)) ws = rw (eb, ec) at r in
            let n : length y ≡ count = ap length p' ∙ length_sort (before strengths₁) g ∙ sym q' in
            done count (y ++ rest) stamps₁ (take_at y rest count n ∙ p') q' r'
