-- A vector over its norm, the rounds, and what follows them.
use Rattle.std.specs.Prelude.{Err, Ok}
use Prim.Native.Nat.{ℕ, suc}
use mathlib.Core.Path.{◌≡◌, ap, ◌∙◌}
use mathlib.Core.Bool.{true, false}
use mathlib.Core.List.{List, map, zip_with}
use lib.ListN.{length, get_or}
use lib.Ieee.{Float, nan}
use Rattle.definitions.specs.Lists.{tab}
use Rattle.definitions.specs.Numbers.{◌*ᶠ◌, ◌/ᶠ◌, rootᶠ, zeroᶠ, squared, summed, usable, above}
use Rattle.definitions.specs.Refusal.{refused, done, require, ◌>>=◌}
use Rattle.definitions.specs.Estimate.{norm, normalised, image, rounds, rho_of, damping_of}
use Rattle.definitions.specs.Matrix.{Matrix}
use Rattle.definitions.specs.Answers.{estimate_answer}
use Rattle.definitions.specs.declared.Refusal.{Refusal}
use Rattle.definitions.specs.declared.Refusal.TheVariants.{EstimateFailed}
use Rattle.spectral_radius.specs.Power.{finished_of}
use Rattle.spectral_radius.proofs.Sums.{map_tab, zip_tab}

pub norm_is : (x : List Float) (s r : Float) → s ≡ summed (tab (λ k. get_or x k nan *ᶠ get_or x k nan) (length x)) → r ≡ rootᶠ s → r ≡ norm x
unfolding norm
norm_is x s r e q = rw (q, e, map_tab nan (λ v. squared v) x)

-- the norm from the sum of squares that was taken on the way
pub norm_on_way : (x y : List Float) (squares n : Float) → y ≡ x → squares ≡ summed (map (λ v. v *ᶠ v) x) → n ≡ rootᶠ squares → n ≡ norm y
unfolding norm
norm_on_way x y squares n e es en = rw (en, es, e)

module _ (stage : ℕ) (x : List Float) (n : Float) (e : n ≡ norm x) where
  pub divided : (y : List Float) → usable n ≡ true → y ≡ map (λ v. v /ᶠ n) x → done y ≡ normalised stage x
  unfolding normalised require ◌>>=◌
  divided y u q = rw (q, ← e, u)

  pub broken : usable n ≡ false → refused (EstimateFailed stage) ≡ normalised stage x
  unfolding normalised require ◌>>=◌
  broken u = rw (← e, u)

-- ---- rounds

module _ (a : Matrix) (s x : List Float) (left : ℕ) where
  pub rounds_go : (y : List Float) → done y ≡ normalised 2 (image a s x) → rounds a s left y ≡ rounds a s (suc left) x
  unfolding rounds ◌>>=◌
  rounds_go y q = rw (← q)

  pub rounds_stop : (r : Refusal) → refused r ≡ normalised 2 (image a s x) → refused r ≡ rounds a s (suc left) x
  unfolding rounds ◌>>=◌
  rounds_stop r q = rw (← q)

pub rounds_done : (a : Matrix) (s x : List Float) (k : ℕ) → k ≡ 0 → done x ≡ rounds a s k x
unfolding rounds
rounds_done a s x k e = rw e

-- ---- after the rounds

pub dot_zip : (x y : List Float) (r : Float) → length x ≡ length y → r ≡ summed (tab (λ k. get_or x k nan *ᶠ get_or y k nan) (length x)) → r ≡ summed (zip_with (λ u v. u *ᶠ v) x y)
dot_zip x y r l e = e ∙ ap summed (zip_tab nan (λ u v. u *ᶠ v) x y l)

pub rho_is : (a : Matrix) (s x y : List Float) (r : Float) → r ≡ summed (zip_with (λ u v. u *ᶠ v) x y) → y ≡ image a s x → r ≡ rho_of a s x
unfolding rho_of
rho_is a s x y r e ey = rw (e, ey)

module _ (a : Matrix) (s x : List Float) (rho : Float) (e : rho ≡ rho_of a s x) where
  pub finished : above zeroᶠ rho ≡ true → above zeroᶠ (damping_of rho) ≡ true → Ok (record { rho = rho; damping = damping_of rho }) ≡ estimate_answer (finished_of a s x)
  unfolding finished_of require ◌>>=◌ estimate_answer
  finished p q = rw (← e, p, q)

  pub fails_at_3 : above zeroᶠ rho ≡ false → Err (EstimateFailed 3) ≡ estimate_answer (finished_of a s x)
  unfolding finished_of require ◌>>=◌ estimate_answer
  fails_at_3 p = rw (← e, p)

  pub fails_at_4 : above zeroᶠ rho ≡ true → above zeroᶠ (damping_of rho) ≡ false → Err (EstimateFailed 4) ≡ estimate_answer (finished_of a s x)
  unfolding finished_of require ◌>>=◌ estimate_answer
  fails_at_4 p q = rw (← e, p, q)
