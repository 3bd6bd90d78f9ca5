-- Weight times sum, added into the coarse matrix.
use Prim.Native.Nat.{ℕ, ◌+◌, ◌*◌, ◌<◌}
use mathlib.Core.Path.{◌≡◌, refl, sym, ◌∙◌}
use mathlib.Core.List.{List, [], ◌∷◌, ◌++◌, map-append}
use native.Mathlib.Numerals.{add-one}
use denote.Ref.{Bor}
use lib.ListN.{length, get_or, take}
use lib.Seq.{take-suc}
use lib.Ieee.{Float, nan}
use Rattle.definitions.specs.Numbers.{◌*ᶠ◌}
use Rattle.laws.proofs.Growing.{flat_map_snoc}
use Rattle.laws.specs.Scatter.{put, bump, scatter}
use Rattle.coarse_matrix.specs.Galerkin.{weight_puts, weighed_puts}
use Rattle.coarse_matrix.proofs.Passing.{passed, passed_more, scatter_append}

pub weigh_none : (touched : List ℕ) (w : Float) (dst : ℕ) (sums f : List Float) → f ≡ scatter (weight_puts sums dst w (take 0 touched)) f
unfolding scatter
weigh_none touched w dst sums f = refl

pub weigh_more : (touched : List ℕ) (t : ℕ) (w : Float) (dst : ℕ) (sums f₀ f : List Float) → t < length touched → f ≡ scatter (weight_puts sums dst w (take t touched)) f₀
    → bump f (put (dst + get_or touched t 0) (w *ᶠ get_or sums (get_or touched t 0) nan)) ≡ scatter (weight_puts sums dst w (take (t + 1) touched)) f₀
unfolding scatter
weigh_more touched t w dst sums f₀ f h ef =
    let k = get_or touched t 0 in
    let next : take (t + 1) touched ≡ take t touched ++ (k ∷ []) = rw add-one (take-suc touched t 0 h) in
    rw (ef, next, map-append (λ n. put (dst + n) (w *ᶠ get_or sums n nan)) (take t touched) (k ∷ []), scatter_append (weight_puts sums dst w (take t touched)) (put (dst + k) (w *ᶠ get_or sums k nan) ∷ []) f₀)

-- a weight of a transfer row more
pub weighed_more : (c : ℕ) (js : List ℕ) (sums : List Float) (ps : List (Bor ℕ × Bor Float)) (p : Bor ℕ × Bor Float) (f₀ f g : List Float)
    → f ≡ scatter (weighed_puts c sums js (passed ps)) f₀ → g ≡ scatter (weight_puts sums (p.0.now * c) p.1.now js) f → g ≡ scatter (weighed_puts c sums js (passed (ps ++ (p ∷ [])))) f₀
unfolding weighed_puts
weighed_more c js sums ps p f₀ f g ef eg =
    eg ∙ rw (ef, passed_more ps p, flat_map_snoc (λ e. weight_puts sums (e.col * c) e.value js) (passed ps) (put p.0.now p.1.now)) (sym (scatter_append (weighed_puts c sums js (passed ps)) (weight_puts sums (p.0.now * c) p.1.now js) f₀))
