-- A chain of stages that ends in a result passed every stage.
use mathlib.Core.Path.{◌≡◌, refl, subst}
use mathlib.Core.Bool.{Bool, true, false}
use lib.Dec.{T}
use Rattle.definitions.specs.Refusal.{Outcome, refused, done, require, ◌>>=◌}
use Rattle.definitions.specs.declared.Refusal.{Refusal}

pub done_inj : {A : Type 0} {x y : A} → done x ≡ done y → x ≡ y
done_inj e = cc

pub refused_not_done : {A : Type 0} {r : Refusal} {x : A} → refused r ≡ done x → ⊥
refused_not_done {A} {r} {x} e = subst (λ (o : Outcome A). elim o as (λ z. Type 0) [ refused s ↦ Unit {0} | done y ↦ ⊥ ]) e tt

pub bind_done : {A B : Type 0} (x : Outcome A) (f : A → Outcome B) (y : B) → (x >>= f) ≡ done y → (v : A) × (x ≡ done v) × (f v ≡ done y)
unfolding ◌>>=◌
bind_done (refused r) f y e = absurd (refused_not_done e)
bind_done (done v) f y e = (v, refl, e)

pub done_bind : {A B : Type 0} (x : Outcome A) (f : A → Outcome B) (v : A) (y : Outcome B) → x ≡ done v → f v ≡ y → (x >>= f) ≡ y
unfolding ◌>>=◌
done_bind x f v y e d = rw e d

pub skip_done : {A B : Type 0} (x : A) (f : A → Outcome B) (y : B) → (done x >>= f) ≡ done y → f x ≡ done y
unfolding ◌>>=◌
skip_done x f y e = e

-- a test that let the chain go on
pub test_passed : {B : Type 0} (b : Bool) (r : Refusal) (f : Unit {0} → Outcome B) (y : B) → (require b r >>= f) ≡ done y → T b × (f tt ≡ done y)
unfolding require ◌>>=◌
test_passed true r f y e = (tt, e)
test_passed false r f y e = absurd (refused_not_done e)

pub pass_test : {B : Type 0} (b : Bool) (r : Refusal) (f : Unit {0} → Outcome B) (y : Outcome B) → T b → f tt ≡ y → (require b r >>= f) ≡ y
unfolding require ◌>>=◌
pass_test true r f y t e = e
pass_test false r f y t e = absurd t

pub last_passed : (b : Bool) (r : Refusal) → require b r ≡ done tt → T b
unfolding require
last_passed true r e = tt
last_passed false r e = absurd (refused_not_done e)

-- the same, of the test's value
pub test_true : {B : Type 0} (b : Bool) (r : Refusal) (f : Unit {0} → Outcome B) (y : B) → (require b r >>= f) ≡ done y → (b ≡ true) × (f tt ≡ done y)
unfolding require ◌>>=◌
test_true true r f y e = (refl, e)
test_true false r f y e = absurd (refused_not_done e)

pub last_true : (b : Bool) (r : Refusal) → require b r ≡ done tt → b ≡ true
unfolding require
last_true true r e = refl
last_true false r e = absurd (refused_not_done e)
