-- The result list: offsets and lists, then zeros.
use mathlib.Core.Path.{◌≡◌, refl, ap, sym, ◌∙◌}
use mathlib.Core.Bool.{Bool, true, false}
use mathlib.Core.List.{List, [], ◌∷◌, ◌++◌, flat_map, append_assoc, append-nil}
use mathlib.Core.Logic.{◌⊎◌, inl, inr}
use Prim.Native.Nat.{ℕ, zero, suc, ◌+◌, ◌-◌, ◌≤◌}
use native.Mathlib.Omega.{arith}
use lib.ListN.{length, get_or, take, replicate, length-append, length-replicate, replicate-append-replicate}
use lib.Seq.{length-take-le, ext_get_or}
use Rattle.definitions.specs.Lists.{tab, padded, pointers_from, joined_lists}
use Rattle.definitions.specs.Matrix.{Matrix}
use Rattle.definitions.specs.Neighbours.{list_for, neighbour_lists, flat_neighbours}
use Rattle.definitions.specs.declared.TwoLevelAggregation.{TwoLevelAggregation}
use Rattle.definitions.specs.declared.TwoLevelAggregation.TheVariants.{Contiguous, Graph, StrongGraph}
use Rattle.laws.proofs.Lists.{length_tab, tab_cong}
use Rattle.adjacency.specs.Flat.{flat_of}
use Rattle.adjacency.specs.Lined.{Lined}
use Rattle.adjacency.specs.Lists.{list_of}
use Rattle.adjacency.specs.Within.{compares}

take_tab : {A : Type 0} (f : ℕ → A) (u n : ℕ) → u ≤ n → take u (tab f n) ≡ tab f u
unfolding tab
take_tab f zero n h = refl
take_tab f (suc u) zero h = absurd (omega arith)
take_tab f (suc u) (suc n) h = ap (λ l. f zero ∷ l) (take_tab (λ i. f (suc i)) u n (omega arith))

-- ---- offsets

length_pointers : (k : ℕ) (rows : List (List ℕ)) → length (pointers_from k rows) ≡ suc (length rows)
unfolding pointers_from
length_pointers k [] = refl
length_pointers k (r ∷ rows) = ap suc (length_pointers (k + length r) rows)

pointers_at : (k : ℕ) (rows : List (List ℕ)) (u : ℕ) → u ≤ length rows → get_or (pointers_from k rows) u 0 ≡ k + length (joined_lists (take u rows))
unfolding pointers_from flat_map
pointers_at k [] zero h = omega arith
pointers_at k [] (suc u) h = absurd (omega arith)
pointers_at k (r ∷ rows) zero h = omega arith
pointers_at k (r ∷ rows) (suc u) h = pointers_at (k + length r) rows u (omega arith) ∙ omega (arith, length-append r (joined_lists (take u rows)))

-- the offsets, the lists and zeros behind them
pub lined_padded : {f : ℕ → List ℕ} {nodes at : ℕ} {offsets names : List ℕ} (n : Lined f nodes at offsets names) (rest : List ℕ) (len : ℕ) → length offsets ≡ nodes + 1 → length offsets + length names ≡ len → rest ≡ replicate (length names - at) 0
    → offsets ++ (take at names ++ rest) ≡ padded 0 len (flat_of f nodes)
unfolding padded flat_of
lined_padded {f} {nodes} {at} {offsets} {names} n rest len p q e =
    let ps = pointers_from 0 (tab f nodes) in
    let t : length (take at names) ≡ at = length-take-le at names n.fits in
    let o : offsets ≡ ps = ext_get_or 0 offsets ps (p ∙ omega (arith, length_pointers 0 (tab f nodes), length_tab f nodes))
    (λ u h.
    let c : u ≤ nodes = omega arith in
    n.starts u c ∙ sym (pointers_at 0 (tab f nodes) u (omega (arith, length_tab f nodes)) ∙ rw (take_tab f u nodes c) (omega arith))) in
    let k : length (ps ++ joined_lists (tab f nodes)) ≡ nodes + 1 + at = length-append ps (joined_lists (tab f nodes)) ∙ omega (arith, ap length o, ap length n.list, t) in
    let z : length names - at ≡ len - length (ps ++ joined_lists (tab f nodes)) = omega arith in
    rw (o, e, n.list, z) (sym (append_assoc ps (joined_lists (tab f nodes)) (replicate (len - length (ps ++ joined_lists (tab f nodes))) 0)))

-- zeros before what is padded
pub padded_behind : (base len m : ℕ) (x front back : List ℕ) → front ≡ replicate base 0 → back ≡ padded 0 m x → base + m ≡ len → front ++ back ≡ padded 0 len (replicate base 0 ++ x)
unfolding padded
padded_behind base len m x front back p q e =
    let k : m - length x ≡ len - length (replicate base 0 ++ x) = omega (arith, length-append (replicate base 0) x, length-replicate {A = ℕ} base 0) in
    rw (p, q, k) (sym (append_assoc (replicate base 0) x (replicate (len - length (replicate base 0 ++ x)) 0)))

-- ---- by policy

abbrev none : ℕ → List ℕ
none v = []

no_offsets : (n : ℕ) → pointers_from 0 (tab none n) ≡ replicate (suc n) 0
unfolding pointers_from tab
no_offsets zero = refl
no_offsets (suc n) = ap (λ (l : List ℕ). 0 ∷ l) (no_offsets n)

no_lists : (n : ℕ) → joined_lists (tab none n) ≡ []
unfolding tab flat_map
no_lists zero = refl
no_lists (suc n) = no_lists n

module _ (a : Matrix) (size nodes : ℕ) where
  same_graph : (v : ℕ) → list_of false a size nodes v ≡ list_for Graph a size nodes v
  unfolding list_of list_for
  same_graph v = refl

  same_strong : (v : ℕ) → list_of true a size nodes v ≡ list_for StrongGraph a size nodes v
  unfolding list_of list_for
  same_strong v = refl

  flat_graph : flat_of (list_of false a size nodes) nodes ≡ flat_neighbours Graph a size nodes
  unfolding flat_of flat_neighbours neighbour_lists
  flat_graph = rw (tab_cong (list_of false a size nodes) (list_for Graph a size nodes) nodes (λ v _. same_graph v))

  flat_strong : flat_of (list_of true a size nodes) nodes ≡ flat_neighbours StrongGraph a size nodes
  unfolding flat_of flat_neighbours neighbour_lists
  flat_strong = rw (tab_cong (list_of true a size nodes) (list_for StrongGraph a size nodes) nodes (λ v _. same_strong v))

  -- by number or by strength
  pub flat_linked : (g : TwoLevelAggregation) (strong : Bool) → strong ≡ compares g → (g ≡ Graph) ⊎ (g ≡ StrongGraph) → flat_of (list_of strong a size nodes) nodes ≡ flat_neighbours g a size nodes
  unfolding compares
  flat_linked g strong e (inl p) = rw (e, p) flat_graph
  flat_linked g strong e (inr p) = rw (e, p) flat_strong

  -- Contiguous lists nothing: every offset is zero
  nothing : (v : ℕ) → list_for Contiguous a size nodes v ≡ []
  unfolding list_for
  nothing v = refl

  pub flat_none : flat_neighbours Contiguous a size nodes ≡ replicate (nodes + 1) 0
  unfolding flat_neighbours neighbour_lists
  flat_none =
      let e : nodes + 1 ≡ suc nodes = omega arith in
      rw (tab_cong (list_for Contiguous a size nodes) none nodes (λ v _. nothing v), no_offsets nodes, no_lists nodes, e) (append-nil (replicate (suc nodes) 0))

  pub none_padded : (base len : ℕ) → base + nodes + 1 ≤ len → replicate len 0 ≡ padded 0 len (replicate base 0 ++ flat_neighbours Contiguous a size nodes)
  unfolding padded
  none_padded base len h =
      let n = base + (nodes + 1) in
      let e : n + (len - n) ≡ len = omega arith in
      rw (flat_none, replicate-append-replicate {A = ℕ} base (nodes + 1) 0, length-replicate {A = ℕ} n 0, replicate-append-replicate {A = ℕ} n (len - n) 0, e)
