-- Refusals that leave zeros, and that those of the estimate do.
use Prim.Native.Nat.{ℕ, zero, suc}
use mathlib.Core.Path.{◌≡◌, refl}
use mathlib.Core.Bool.{Bool, true, false}
use mathlib.Core.List.{List, [], ◌∷◌}
use lib.Ieee.{Float, lt}
use Rattle.definitions.specs.Numbers.{zeroᶠ, usable}
use Rattle.definitions.specs.Refusal.{Outcome, refused, done, require, ◌>>=◌, keeps_all, cause_of}
use Rattle.definitions.specs.Matrix.{Matrix}
use Rattle.definitions.specs.Estimate.{usable_from, normalised, image, rounds, estimate_of}
use Rattle.definitions.specs.declared.Refusal.{Refusal}

-- a refusal, if it is one, leaves zeros
unfoldable pub Clears : {A : Type 0} → Outcome A → Type 0
Clears (done x) = Unit {0}
Clears (refused r) = keeps_all r ≡ false

pub clears_require : (b : Bool) (r : Refusal) → keeps_all r ≡ false → Clears (require b r)
unfolding Clears require
clears_require true r k = tt
clears_require false r k = k

pub clears_then : {A B : Type 0} (o : Outcome A) (next : A → Outcome B) → Clears o → ((x : A) → Clears (next x)) → Clears (o >>= next)
unfolding Clears ◌>>=◌
clears_then (done x) next h k = k x
clears_then (refused r) next h k = h

pub clears_done : {A : Type 0} (x : A) → Clears (done x)
unfolding Clears
clears_done x = tt

pub clears_refused : {A : Type 0} (o : Outcome A) (r : Refusal) → Clears o → o ≡ refused r → keeps_all r ≡ false
unfolding Clears
clears_refused (done x) r k e = cc
clears_refused (refused q) r k e = let g : q ≡ r = cc in rw (← g) k

-- ---- the estimate

clears_usable : (i : ℕ) (d : List Float) → Clears (usable_from i d)
unfolding usable_from Clears keeps_all cause_of
clears_usable i [] = tt
clears_usable i (x ∷ d) = step (usable x) (lt x zeroᶠ) refl refl (clears_usable (suc i) d)
  where
    step : (b n : Bool) → usable x ≡ b → lt x zeroᶠ ≡ n → Clears (usable_from (suc i) d) → Clears (usable_from i (x ∷ d))
    step false n p q ih = rw (p, usable_from) refl
    step true true p q ih = rw (p, q, usable_from) refl
    step true false p q ih = rw (p, q, usable_from) ih

clears_normalised : (stage : ℕ) (x : List Float) → Clears (normalised stage x)
unfolding normalised keeps_all cause_of
clears_normalised stage x = clears_then _ _ (clears_require _ _ refl) (λ _. clears_done _)

clears_rounds : (a : Matrix) (s : List Float) (k : ℕ) (x : List Float) → Clears (rounds a s k x)
unfolding rounds
clears_rounds a s zero x = clears_done x
clears_rounds a s (suc k) x = clears_then _ _ (clears_normalised 2 (image a s x)) (λ y. clears_rounds a s k y)

pub clears_estimate : (a : Matrix) (d : List Float) → Clears (estimate_of a d)
unfolding estimate_of keeps_all cause_of
clears_estimate a d =
    clears_then _ _ (clears_usable 0 d) (λ _.
    clears_then _ _ (clears_normalised 1 _) (λ x.
    clears_then _ _ (clears_rounds a _ 10 x) (λ y.
    clears_then _ _ (clears_done _) (λ rho.
    clears_then _ _ (clears_require _ _ refl) (λ _.
    clears_then _ _ (clears_require _ _ refl) (λ _. clears_done _))))))
