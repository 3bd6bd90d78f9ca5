-- The diagonal norms, one node after the other, and the work lists before the first node.
use mathlib.Core.Path.{◌≡◌, refl, ap, ◌∙◌}
use mathlib.Core.Bool.{Bool, true}
use mathlib.Core.List.{List, [], ◌∷◌}
use Prim.Native.Nat.{ℕ, zero, suc, ◌+◌, ◌*◌, ◌/◌, ◌<◌}
use native.Mathlib.Omega.{arith}
use borrow.Author.Tests.{eqb-true, eqb-false}
use lib.Dec.{eqb}
use lib.ListN.{length, get_or, set, take, drop, replicate, length-replicate}
use lib.Seq.{get_or-drop, get_or-set_same, get_or-set_other}
use lib.Ieee.{Float, nan}
use Rattle.definitions.specs.Lists.{keep}
use Rattle.definitions.specs.Numbers.{rootᶠ, total, zeroᶠ}
use Rattle.definitions.specs.Matrix.{Matrix, Entry, csr, values_where}
use Rattle.definitions.specs.Neighbours.{norm_towards}
use Rattle.laws.proofs.Lists.{Each, none, more, each_head, each_tail}
use Rattle.adjacency.specs.Collect.{paired}
use Rattle.adjacency.specs.WellFormed.{WellFormed, part_of}
use Rattle.adjacency.specs.Lists.{Between}
use Rattle.adjacency.specs.Norms.{Normed}
use Rattle.adjacency.specs.Strengths.{plain, squares_in}
use Rattle.adjacency.proofs.Laws.{by_case}
use Rattle.adjacency.proofs.Measures.{Finite}
use Rattle.adjacency.proofs.Nodes.{squares_are}
use Rattle.adjacency.proofs.Plain.{plain_square, plain_zero}
use Rattle.adjacency.proofs.Weighing.{squares_yes, squares_no}

pub plain_squares : (size v : ℕ) (es : List Entry) → Finite es → Each (λ x. plain x ≡ true) (squares_in size v es)
unfolding squares_in values_where keep
plain_squares size v [] f = none
plain_squares size v (e ∷ es) f = by_case (eqb (e.col / size) v)
    (λ t. rw (squares_yes size v e es t) (more (plain_square e.value (each_head f)) (plain_squares size v es (each_tail f))))
    (λ t. rw (squares_no size v e es t) (plain_squares size v es (each_tail f)))

-- the norm of node v's own block
pub norm_is : {strong : Bool} {nodes size : ℕ} {ptr cols : List ℕ} {vals : List Float} (w : WellFormed strong nodes size ptr cols vals) {v : ℕ} (s : v < nodes)
    → (b : ℕ) (cs : List ℕ) (vs : List Float) → b ≡ size → cs ≡ part_of size v ptr cols → vs ≡ part_of size v ptr vals
    → rootᶠ (total (squares_in b v (paired cs vs))) ≡ norm_towards (csr (nodes * size) (nodes * size) ptr cols vals) size v v
unfolding norm_towards
norm_is w {v} s b cs vs e p q = rw (e, p, q, squares_are w s v)

pub normed_more : (a : Matrix) (size v : ℕ) (l : List Float) (x : Float) → Normed a size v l → v < length l → x ≡ norm_towards a size v v → Normed a size (v + 1) (set l v x)
normed_more a size v l x n h q u k = by_case (eqb u v)
    (λ f. let z : u ≡ v = eqb-true u v f in rw z (get_or-set_same l v x nan h ∙ q))
    (λ f. let z = eqb-false u v f in get_or-set_other l v u x nan z ∙ n u (omega (arith, z)))

-- ---- the work lists before the first node

abbrev Blank : {A : Type 0} → A → List A → Type 0
Blank z l = (i : ℕ) → get_or l i z ≡ z

blank_all : {A : Type 0} (n : ℕ) (z : A) → Blank z (replicate n z)
blank_all zero z i = refl
blank_all (suc n) z zero = refl
blank_all (suc n) z (suc i) = blank_all n z i

blank_take : {A : Type 0} (n : ℕ) (z : A) (l : List A) → Blank z l → Blank z (take n l)
blank_take zero z l h i = refl
blank_take (suc n) z [] h i = refl
blank_take (suc n) z (x ∷ l) h zero = h zero
blank_take (suc n) z (x ∷ l) h (suc i) = blank_take n z l (λ k. h (suc k)) i

blank_drop : {A : Type 0} (n : ℕ) (z : A) (l : List A) → Blank z l → Blank z (drop n l)
blank_drop n z l h i = get_or-drop n l i z ∙ h (n + i)

pub ready : (strong : Bool) (nodes m n : ℕ) (stamps : List ℕ) (floats sums rest strengths : List Float) → stamps ≡ replicate m 0 → m ≡ nodes → floats ≡ replicate n zeroᶠ
    → sums ≡ take nodes floats → rest ≡ drop nodes floats → strengths ≡ drop nodes rest → length sums ≡ nodes → length strengths ≡ nodes → Between strong nodes 0 stamps sums strengths
ready strong nodes m n stamps floats sums rest strengths e em f es er et p q =
    let b : Blank zeroᶠ floats = λ i. ap (λ l. get_or l i zeroᶠ) f ∙ blank_all n zeroᶠ i in
    let s : Blank zeroᶠ sums = rw es (blank_take nodes zeroᶠ floats b) in
    let t : Blank zeroᶠ strengths = rw (et, er) (blank_drop nodes zeroᶠ (drop nodes floats) (blank_drop nodes zeroᶠ floats b)) in
    record {
      stamped = λ i h. let z : get_or stamps i 0 ≡ 0 = ap (λ l. get_or l i 0) e ∙ blank_all {A = ℕ} m 0 i in omega arith;
      marks = ap length e ∙ length-replicate {A = ℕ} m 0 ∙ em;
      summed = p;
      compared = q;
      plain_sums = λ i. rw (s i) plain_zero;
      plains = λ i. rw (t i) plain_zero;
      even = λ _. t;
    }
