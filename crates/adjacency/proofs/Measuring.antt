-- The loop that makes strengths.
use mathlib.Core.Path.{◌≡◌, refl, sym, ◌∙◌}
use mathlib.Core.Bool.{true, false}
use mathlib.Core.List.{List, ◌∷◌}
use Prim.Native.Nat.{ℕ, suc, ◌+◌, ◌≤◌, ◌<◌}
use native.Mathlib.Numerals.{add-one}
use lib.ListN.{length, get_or, set, drop, drop_of_length-le}
use lib.Seq.{drop-cons}
use lib.Ieee.{Float, nan, lt}
use lib.Ieee.Scale.{finite}
use Rattle.definitions.specs.Numbers.{◌*ᶠ◌, ◌/ᶠ◌, rootᶠ, zeroᶠ}
use Rattle.definitions.specs.Neighbours.{divides}
use Rattle.adjacency.specs.Strengths.{strong_of, measured}
use Rattle.adjacency.proofs.Steps.{get_d_any}

measured_on : (v w : ℕ) (ws : List ℕ) (sums norms l : List Float) → measured v (w ∷ ws) sums norms l ≡ measured v ws sums norms (set l w (strong_of (get_or sums w nan) (get_or norms v nan) (get_or norms w nan)))
unfolding measured
measured_on v w ws sums norms l = refl

module _ (list : List ℕ) (v : ℕ) (sums norms l₀ : List Float) where
  abbrev pub Measured : List Float → ℕ → Type 0
  Measured l k = measured v (drop k list) sums norms l ≡ measured v list sums norms l₀

  pub measure_more : (l : List Float) (k : ℕ) (d x : Float) → Measured l k → k < length list → v < length norms → get_or list k 0 < length sums → get_or list k 0 < length norms
      → x ≡ strong_of (get_or sums (get_or list k 0) d) (get_or norms v d) (get_or norms (get_or list k 0) d) → Measured (set l (get_or list k 0) x) (k + 1)
  measure_more l k d x m h i a b y =
      let w = get_or list k 0 in
      let y' : x ≡ strong_of (get_or sums w nan) (get_or norms v nan) (get_or norms w nan) = y ∙ rw (get_d_any sums w d nan a, get_d_any norms v d nan i, get_d_any norms w d nan b) in
      rw (add-one k, y') (sym (measured_on v w (drop (suc k) list) sums norms l) ∙ rw (← drop-cons list k 0 h) m)

  pub measure_done : (l : List Float) (k : ℕ) → Measured l k → length list ≤ k → l ≡ measured v list sums norms l₀
  unfolding measured
  measure_done l k m h = rw (drop_of_length-le list h) at m
