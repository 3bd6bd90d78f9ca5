-- What the sums and the strengths are after a node's strengths were made.
use mathlib.Core.Path.{◌≡◌, refl, sym, ◌∙◌}
use mathlib.Core.Bool.{Bool, true, false, ◌||◌}
use mathlib.Core.List.{List, [], ◌∷◌, foldl}
use Prim.Native.Nat.{ℕ, ◌/◌, ◌≤◌, ◌<◌}
use native.Mathlib.Omega.{arith}
use borrow.Author.Tests.{eq-eqb, eqb-true, eqb-false}
use lib.Dec.{eqb}
use lib.ListN.{length, get_or, set, length-set}
use lib.Seq.{get_or-set_same, get_or-set_other}
use lib.Ieee.{Float, nan}
use lib.Ieee.Scale.{finite}
use Rattle.definitions.specs.Lists.{keep, any}
use Rattle.definitions.specs.Numbers.{◌+ᶠ◌, squared, zeroᶠ}
use Rattle.definitions.specs.Matrix.{Entry, values_where}
use Rattle.laws.proofs.Lists.{Each, none, more, each_head, each_tail}
use Rattle.adjacency.specs.Strengths.{plain, AllPlain, squares_in, cleared, weighed, strong_of, measured}
use Rattle.adjacency.proofs.Laws.{by_case}
use Rattle.adjacency.proofs.Steps.{get_d_any}
use Rattle.adjacency.proofs.Weighing.{squares_yes, squares_no}
use Rattle.adjacency.proofs.Plain.{plain_add, plain_square, plain_strong, plain_zero, plain_set}

-- a list names u
abbrev pub Names : List ℕ → ℕ → Type 0
Names ws u = any (λ x. eqb x u) ws ≡ true

or_true : (b : Bool) → (b || true) ≡ true
or_true true = refl
or_true false = refl

pub each_named : {P : ℕ → Type 0} (ws : List ℕ) → ((u : ℕ) → Names ws u → P u) → Each P ws
unfolding any
each_named [] h = none
each_named (x ∷ ws) h = more (h x (rw (eq-eqb x x refl))) (each_named ws (λ u m. h u (rw m (or_true (eqb x u)))))

pub named_below : (n : ℕ) (ws : List ℕ) (u : ℕ) → Each (λ x. x < n) ws → Names ws u → u < n
unfolding any
named_below n [] u a m = absurd (let z : ◌≡◌ {A = ℕ} 0 1 = cc in omega arith)
named_below n (w ∷ ws) u a m = by_case (eqb w u)
    (λ f. omega (arith, each_head a, eqb-true w u f))
    (λ f. named_below n ws u (each_tail a) (rw f at m))

-- ---- clearing

pub length_cleared : (ws : List ℕ) (l : List Float) → length (cleared ws l) ≡ length l
unfolding cleared
length_cleared [] l = refl
length_cleared (w ∷ ws) l = length_cleared ws (set l w zeroᶠ) ∙ length-set l w zeroᶠ

cleared_zero : (ws : List ℕ) (l : List Float) (u : ℕ) → u < length l → get_or l u nan ≡ zeroᶠ → get_or (cleared ws l) u nan ≡ zeroᶠ
unfolding cleared
cleared_zero [] l u h e = e
cleared_zero (w ∷ ws) l u h e = cleared_zero ws (set l w zeroᶠ) u (rw (length-set l w zeroᶠ) h) (by_case (eqb u w)
    (λ f. let z : u ≡ w = eqb-true u w f in let k : w < length l = omega arith in rw z (get_or-set_same l w zeroᶠ nan k))
    (λ f. get_or-set_other l w u zeroᶠ nan (eqb-false u w f) ∙ e))

pub cleared_named : (ws : List ℕ) (l : List Float) (u : ℕ) → u < length l → Names ws u → get_or (cleared ws l) u nan ≡ zeroᶠ
unfolding cleared any
cleared_named [] l u h m = absurd (let z : ◌≡◌ {A = ℕ} 0 1 = cc in omega arith)
cleared_named (w ∷ ws) l u h m = by_case (eqb w u)
    (λ f. let z : w ≡ u = eqb-true w u f in cleared_zero ws (set l w zeroᶠ) u (rw (length-set l w zeroᶠ) h) (rw z (get_or-set_same l u zeroᶠ nan h)))
    (λ f. cleared_named ws (set l w zeroᶠ) u (rw (length-set l w zeroᶠ) h) (rw f at m))

pub plain_cleared : (ws : List ℕ) (l : List Float) → AllPlain l → AllPlain (cleared ws l)
unfolding cleared
plain_cleared [] l a = a
plain_cleared (w ∷ ws) l a = plain_cleared ws (set l w zeroᶠ) (plain_set l w zeroᶠ a plain_zero)

-- ---- weighing

abbrev pub Towards : ℕ → ℕ → List Entry → Type 0
Towards n size es = Each (λ e. e.col / size < n) es

abbrev step : ℕ → Entry → List Float → List Float
step size e l = set l (e.col / size) (get_or l (e.col / size) nan +ᶠ squared e.value)

pub length_weighed : (size : ℕ) (es : List Entry) (l : List Float) → length (weighed size es l) ≡ length l
unfolding weighed
length_weighed size [] l = refl
length_weighed size (e ∷ es) l = length_weighed size es (step size e l) ∙ length-set l (e.col / size) (get_or l (e.col / size) nan +ᶠ squared e.value)

-- the sum towards u grows by its squares, in order
pub weighed_at : (n size u : ℕ) (es : List Entry) (l : List Float) → Towards n size es → n ≤ length l
    → get_or (weighed size es l) u nan ≡ foldl (λ s x. s +ᶠ x) (get_or l u nan) (squares_in size u es)
unfolding weighed squares_in values_where keep
weighed_at n size u [] l a h = refl
weighed_at n size u (e ∷ es) l a h =
    let w = e.col / size in
    let y = get_or l w nan +ᶠ squared e.value in
    let r = weighed_at n size u es (set l w y) (each_tail a) (rw (length-set l w y) h) in
    let i : w < length l = omega (arith, each_head a) in
    by_case (eqb w u)
    (λ t. let z : w ≡ u = eqb-true w u t in r ∙ rw (squares_yes size u e es t, ← z, get_or-set_same l w y nan i))
    (λ t. r ∙ rw (squares_no size u e es t, get_or-set_other l w u y nan (λ q. eqb-false w u t (sym q))))

abbrev pub Finite : List Entry → Type 0
Finite es = Each (λ e. finite e.value ≡ true) es

pub plain_weighed : (n size : ℕ) (es : List Entry) (l : List Float) → Towards n size es → n ≤ length l → Finite es → AllPlain l → AllPlain (weighed size es l)
unfolding weighed
plain_weighed n size [] l t h f a = a
plain_weighed n size (e ∷ es) l t h f a =
    let w = e.col / size in
    let y = get_or l w nan +ᶠ squared e.value in
    let i : w < length l = omega (arith, each_head t) in
    let p : plain (get_or l w nan) ≡ true = rw (get_d_any l w nan zeroᶠ i) (a w) in
    plain_weighed n size es (set l w y) (each_tail t) (rw (length-set l w y) h) (each_tail f) (plain_set l w y a (plain_add (get_or l w nan) (squared e.value) p (plain_square e.value (each_head f))))

-- ---- measuring

module _ (v : ℕ) (sums norms : List Float) where
  abbrev value : ℕ → Float
  value u = strong_of (get_or sums u nan) (get_or norms v nan) (get_or norms u nan)

  pub length_measured : (ws : List ℕ) (l : List Float) → length (measured v ws sums norms l) ≡ length l
  unfolding measured
  length_measured [] l = refl
  length_measured (w ∷ ws) l = length_measured ws (set l w (value w)) ∙ length-set l w (value w)

  measured_stays : (ws : List ℕ) (l : List Float) (u : ℕ) → u < length l → get_or l u nan ≡ value u → get_or (measured v ws sums norms l) u nan ≡ value u
  unfolding measured
  measured_stays [] l u h e = e
  measured_stays (w ∷ ws) l u h e = measured_stays ws (set l w (value w)) u (rw (length-set l w (value w)) h) (by_case (eqb u w)
      (λ f. let z : u ≡ w = eqb-true u w f in let i : w < length l = omega arith in rw z (get_or-set_same l w (value w) nan i))
      (λ f. get_or-set_other l w u (value w) nan (eqb-false u w f) ∙ e))

  pub measured_named : (ws : List ℕ) (l : List Float) (u : ℕ) → u < length l → Names ws u → get_or (measured v ws sums norms l) u nan ≡ value u
  unfolding measured any
  measured_named [] l u h m = absurd (let z : ◌≡◌ {A = ℕ} 0 1 = cc in omega arith)
  measured_named (w ∷ ws) l u h m = by_case (eqb w u)
      (λ f. let z : w ≡ u = eqb-true w u f in measured_stays ws (set l w (value w)) u (rw (length-set l w (value w)) h) (rw z (get_or-set_same l u (value u) nan h)))
      (λ f. measured_named ws (set l w (value w)) u (rw (length-set l w (value w)) h) (rw f at m))

  pub plain_measured : (ws : List ℕ) (l : List Float) → Each (λ x. x < length sums) ws → AllPlain sums → AllPlain l → AllPlain (measured v ws sums norms l)
  unfolding measured
  plain_measured [] l a s p = p
  plain_measured (w ∷ ws) l a s p =
      let i : w < length sums = omega (arith, each_head a) in
      plain_measured ws (set l w (value w)) (each_tail a) s
      (plain_set l w (value w) p (plain_strong (get_or sums w nan) (get_or norms v nan) (get_or norms w nan) (rw (get_d_any sums w nan zeroᶠ i) (s w))))
